-- The frames of the open containers: their numbers, and that those behind them are clear.
use Rattle.std.specs.Prelude.{Bool, true, false, cond, ◌||◌, List, [], ◌∷◌, ◌++◌, ◌≡◌, refl, ℕ, zero, suc, ◌+◌, ◌≤◌, ◌<◌, eqb, length, set, get_or, take, replicate}
use Rattle.std.proofs.Common.{sym, ap, ◌∙◌, add-one, arith, eq-eqb, ne_eqb, eqb-true, lit≤, length-set, take-suc-set, get_or-set_other}
use Rattle.std.proofs.lemmas.Bool.{eqb-false}
use Rattle.std.proofs.lemmas.List.{length-replicate}
use Rattle.number.specs.Among.{among}
use Rattle.layout.specs.Frame.{no_frame, next_in}
use Rattle.layout.specs.declared.frame.Frame.{Frame}
use Rattle.reader.specs.State.{max_open, member_of}

-- the frame at a depth, the outermost at 0
abbrev pub frame_at : List Frame → ℕ → Frame
frame_at fs i = get_or fs i no_frame

pub record Frames (depth : ℕ) (fs : List Frame) : Type 0 where
  pub few : depth ≤ max_open
  pub room : length fs ≡ max_open
  pub clear : (i : ℕ) → depth ≤ i → frame_at fs i ≡ no_frame

-- one of them moves
pub frames_on : (depth top : ℕ) (fs : List Frame) (f : Frame) → top < depth → Frames depth fs → Frames depth (set fs top f)
frames_on depth top fs f h o =
    record { few = o.few; room = rw length-set o.room; clear = λ i k. get_or-set_other fs top i f no_frame (λ e. omega arith) ∙ o.clear i k }

-- another one is open behind them
pub frames_onto : (depth : ℕ) (fs : List Frame) (f : Frame) → depth < max_open → Frames depth fs → Frames (depth + 1) (set fs depth f)
frames_onto depth fs f h o =
    record { few = omega arith; room = rw length-set o.room; clear = λ i k. get_or-set_other fs depth i f no_frame (λ e. omega arith) ∙ o.clear i (omega arith) }

blank : (n i : ℕ) → get_or (replicate n no_frame) i no_frame ≡ no_frame
blank zero i = refl
blank (suc n) zero = refl
blank (suc n) (suc i) = blank n i

-- none is open
pub frames_none : Frames 0 (replicate max_open no_frame)
frames_none = record { few = lit≤ tt; room = length-replicate max_open no_frame; clear = λ i k. blank max_open i }

-- the numbers of the open containers: the search among them is the search among the frames
abbrev pub Named : ℕ → List Frame → List ℕ → Type 0
Named depth fs opened = (n : ℕ) → member_of (take depth fs) n ≡ among opened n

pub named_none : (fs : List Frame) → Named 0 fs []
unfolding member_of among
named_none fs n = refl

-- one of them goes on
same_object : (d i : ℕ) (fs : List Frame) (g : Frame) (n : ℕ) → g.object ≡ (frame_at fs i).object → member_of (take d (set fs i g)) n ≡ member_of (take d fs) n
unfolding member_of
same_object zero i fs g n h = refl
same_object (suc d) i [] g n h = refl
same_object (suc d) zero (f ∷ fs) g n h = rw h
same_object (suc d) (suc i) (f ∷ fs) g n h = ap (λ (b : Bool). eqb f.object n || b) (same_object d i fs g n h)

pub named_on : (depth top : ℕ) (fs : List Frame) (opened : List ℕ) → Named depth fs opened → Named depth (set fs top (next_in (frame_at fs top))) opened
unfolding next_in
named_on depth top fs opened h n = same_object depth top fs (next_in (frame_at fs top)) n refl ∙ h n

-- another one is open behind them
or_none : (b : Bool) → (b || false) ≡ b
or_none true = refl
or_none false = refl

or_or : (a b c : Bool) → (a || (b || c)) ≡ ((a || b) || c)
or_or true b c = refl
or_or false b c = refl

member_last : (fs : List Frame) (f : Frame) (n : ℕ) → member_of (fs ++ (f ∷ [])) n ≡ (member_of fs n || eqb f.object n)
unfolding member_of
member_last [] f n = or_none (eqb f.object n)
member_last (g ∷ fs) f n = ap (λ (b : Bool). eqb g.object n || b) (member_last fs f n) ∙ or_or (eqb g.object n) (member_of fs n) (eqb f.object n)

among_last : (l : List ℕ) (m n : ℕ) → among (l ++ (m ∷ [])) n ≡ (among l n || eqb m n)
unfolding among
among_last [] m n = go (eqb m n) refl
  where
    go : (b : Bool) → eqb m n ≡ b → cond (eqb n m) true false ≡ eqb m n
    go true e = rw (e, eq-eqb n m (sym (eqb-true m n e)))
    go false e = rw (e, ne_eqb n m (λ h. eqb-false m n e (sym h)))
among_last (x ∷ l) m n = go (eqb n x) (among_last l m n)
  where
    go : (b : Bool) → among (l ++ (m ∷ [])) n ≡ (among l n || eqb m n) → cond b true (among (l ++ (m ∷ [])) n) ≡ (cond b true (among l n) || eqb m n)
    go true h = refl
    go false h = h

pub named_onto : (depth : ℕ) (fs : List Frame) (opened : List ℕ) (f : Frame) → depth < length fs → Named depth fs opened → Named (depth + 1) (set fs depth f) (opened ++ (f.object ∷ []))
named_onto depth fs opened f g h n =
    rw (add-one, take-suc-set fs depth f g)
    (member_last (take depth fs) f n ∙ ap (λ (b : Bool). b || eqb f.object n) (h n) ∙ sym (among_last opened f.object n))
