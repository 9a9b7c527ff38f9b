-- The numbers of the open containers, kept beside their frames: through each turn they stay the same numbers.
use mathlib.Core.Bool.{Bool, true, false, cond, ◌||◌, true≢false}
use mathlib.Core.List.{List, [], ◌∷◌, ◌++◌, map}
use mathlib.Core.Path.{◌≡◌, refl, sym, ap, ◌∙◌}
use Prim.Native.Nat.{ℕ, zero, suc, ◌+◌, ◌≤◌, ◌<◌, max}
use native.Mathlib.Numerals.{add-one}
use native.Mathlib.Omega.{arith}
use borrow.Author.Tests.{eq-eqb, ne_eqb, eqb-true, eqb-false}
use lib.Dec.{eqb}
use lib.ListN.{length, length-set, set, get_or, take}
use lib.Seq.{map-set_same, take-suc-set, take-set-le, take-take}
use Rattle.number.specs.Among.{among}
use Rattle.layout.specs.Frame.{new_frame, no_frame, next_in}
use Rattle.layout.specs.declared.frame.Frame.{Frame}
use Rattle.reader.specs.State.{member_of}
use Rattle.transcribe.specs.Walk.{Below}

abbrev pub object_of : Frame → ℕ
object_of f = f.object

-- as many numbers as containers are open are theirs
abbrev pub Listed : ℕ → List Frame → List ℕ → Type 0
Listed depth frames numbers = map object_of (take depth frames) ≡ take depth numbers

map_take : (n : ℕ) (l : List Frame) → map object_of (take n l) ≡ take n (map object_of l)
map_take zero l = refl
map_take (suc n) [] = refl
map_take (suc n) (f ∷ fs) = ap (λ (s : List ℕ). f.object ∷ s) (map_take n fs)

map_last : (l : List Frame) (f : Frame) → map object_of (l ++ (f ∷ [])) ≡ map object_of l ++ (f.object ∷ [])
map_last [] f = refl
map_last (g ∷ gs) f = ap (λ (s : List ℕ). g.object ∷ s) (map_last gs f)

eqb_turned : (a b : ℕ) → eqb a b ≡ eqb b a
eqb_turned a b = go (eqb b a) refl
  where
    go : (t : Bool) → eqb b a ≡ t → eqb a b ≡ t
    go true e = eq-eqb a b (sym (eqb-true b a e))
    go false e = ne_eqb a b (λ h. eqb-false b a e (sym h))

either_way : (t u : Bool) → (t || u) ≡ cond t true u
either_way true u = refl
either_way false u = refl

member_among : (l : List Frame) (n : ℕ) → member_of l n ≡ among (map object_of l) n
unfolding member_of among
member_among [] n = refl
member_among (f ∷ fs) n = rw (eqb_turned f.object n, member_among fs n) (either_way (eqb n f.object) _)

-- so the search among them is the search among the frames
pub listed_member : (depth : ℕ) (frames : List Frame) (numbers : List ℕ) (n : ℕ) → Listed depth frames numbers → member_of (take depth frames) n ≡ among (take depth numbers) n
listed_member depth frames numbers n h = member_among (take depth frames) n ∙ ap (λ (s : List ℕ). among s n) h

-- the innermost container goes on
onward_objects : (frames : List Frame) (top : ℕ) → map object_of (set frames top (next_in (get_or frames top no_frame))) ≡ map object_of frames
unfolding next_in
onward_objects frames top = map-set_same object_of frames top _ no_frame refl

pub onward_listed : (depth top : ℕ) (frames : List Frame) (numbers : List ℕ) → Listed depth frames numbers → Listed depth (set frames top (next_in (get_or frames top no_frame))) numbers
onward_listed depth top frames numbers h = map_take depth _ ∙ ap (take depth) (onward_objects frames top) ∙ sym (map_take depth frames) ∙ h

-- it is closed
pub close_listed : (depth top : ℕ) (frames : List Frame) (numbers : List ℕ) → top ≤ depth → Listed depth frames numbers → Listed top (set frames top no_frame) numbers
close_listed depth top frames numbers le h =
    ap (map object_of) (take-set-le top frames top no_frame (omega arith) ∙ sym (take-take top depth frames le)) ∙
    map_take top (take depth frames) ∙
    ap (take top) h ∙
    take-take top depth numbers le

-- another one opens
pub enter_listed : (depth top object k offset : ℕ) (frames : List Frame) (numbers : List ℕ) → depth < length frames → depth < length numbers → Listed depth frames numbers → Listed (depth + 1) (set (set frames top (next_in (get_or frames top no_frame))) depth (new_frame object k offset)) (set numbers depth object)
enter_listed depth top object k offset frames numbers f g h =
    let l : List Frame = set frames top (next_in (get_or frames top no_frame)) in
    rw (add-one, take-suc-set numbers depth object g, take-suc-set l depth (new_frame object k offset) (rw length-set f), map_last (take depth l), onward_listed depth top frames numbers h)

-- a number that isn't among others isn't among the first of them, nor where another one stands behind them
among_first : (k : ℕ) (l : List ℕ) (n : ℕ) → among l n ≡ false → among (take k l) n ≡ false
unfolding among
among_first zero l n h = refl
among_first (suc k) [] n h = refl
among_first (suc k) (x ∷ xs) n h = go (eqb n x) refl (among_first k xs n)
  where
    go : (b : Bool) → eqb n x ≡ b → (among xs n ≡ false → among (take k xs) n ≡ false) → cond (eqb n x) true (among (take k xs) n) ≡ false
    go true e ih = absurd (true≢false (rw e at h))
    go false e ih = rw e (ih (rw e at h))

among_last : (l : List ℕ) (object n : ℕ) → among l n ≡ false → (n ≡ object → ⊥) → among (l ++ (object ∷ [])) n ≡ false
unfolding among
among_last [] object n h o = rw (ne_eqb n object o)
among_last (x ∷ xs) object n h o = go (eqb n x) refl (λ a. among_last xs object n a o)
  where
    go : (b : Bool) → eqb n x ≡ b → (among xs n ≡ false → among (xs ++ (object ∷ [])) n ≡ false) → cond (eqb n x) true (among (xs ++ (object ∷ [])) n) ≡ false
    go true e ih = absurd (true≢false (rw e at h))
    go false e ih = rw e (ih (rw e at h))

-- the bound of the open containers' numbers: one is closed, another one opens
pub close_below : (depth top above : ℕ) (numbers : List ℕ) → top ≤ depth → Below above (take depth numbers) → Below above (take top numbers)
close_below depth top above numbers le h n g = rw (← take-take top depth numbers le) (among_first top (take depth numbers) n (h n g))

pub enter_below : (depth object above more : ℕ) (numbers : List ℕ) → depth < length numbers → more ≡ max above (object + 1) → Below above (take depth numbers) → Below more (take (depth + 1) (set numbers depth object))
enter_below depth object above more numbers g is h n k =
    rw (add-one, take-suc-set numbers depth object g) (among_last (take depth numbers) object n (h n (omega (arith, is))) (λ e. omega (arith, is)))
