-- Words that a builder was stored in are that builder again, and a call leads from a builder that words can hold to another.
use Rattle.std.specs.Prelude.{false, List, [], ◌∷◌, ◌++◌, ◌≡◌, refl, ℕ, zero, suc, ◌+◌, ◌-◌, ◌*◌, ◌/◌, ◌%◌, ◌^◌, ◌≤◌, ◌<◌, length, min, get_or, set, drop, replicate}
use Rattle.std.proofs.Common.{arith, le-ltb, leb-true, length-set}
use Rattle.std.proofs.lemmas.List.Edits.{sets, sets-eq}
use Rattle.event.specs.Format.{max_open}
use Rattle.event.specs.Meaning.{Meaning}
use Rattle.grammar.specs.WayLaws.{Tells}
use Rattle.grammar.specs.declared.turn.Due.{Due}
use Rattle.grammar.specs.declared.way.Way.{Way}
use Rattle.grammar.specs.declared.way.Way.TheVariants.{Past, Into, Out, Barred}
use Rattle.tape.specs.Code.{bytes_for}
use Rattle.builder.specs.BitsLaws.{bit_low}
use Rattle.builder.specs.Build.{Said, holds, refused, judge_of, build_of, builder_by, builder_after}
use Rattle.builder.specs.CallsLaws.{taken, judge_tells}
use Rattle.builder.specs.State.{open_words, empty_builder, due_of, pushed_of, push_of, pop_of, moved_by}
use Rattle.builder.specs.Words.{builder_words, few_words, pair_at, builder_in, words_of, load_of, store_of}
use Rattle.builder.specs.declared.state.Builder.{Builder}

pair_again : (n : ℕ) → n < 2 ^ 64 → n / 2 ^ 32 % 2 ^ 32 * 2 ^ 32 + n % 2 ^ 32 ≡ n
pair_again n h = omega arith

-- a builder whose numbers words can hold: all that calls answer are such
pub record Small (b : Builder) : Type 0 where
  pub held_fits : b.held < 2 ^ 64
  pub depth_fits : b.depth < 2 ^ 32
  pub words : length b.bits ≡ open_words
  pub bits_fit : (i : ℕ) → get_or b.bits i 0 < 2 ^ 64

-- a builder's words are eight
pub eight : (l : List ℕ) → length l ≡ open_words → get_or l 0 0 ∷ get_or l 1 0 ∷ get_or l 2 0 ∷ get_or l 3 0 ∷ get_or l 4 0 ∷ get_or l 5 0 ∷ get_or l 6 0 ∷ get_or l 7 0 ∷ [] ≡ l
eight [] e = absurd (omega (arith, e))
eight (a ∷ []) e = absurd (omega (arith, e))
eight (a ∷ b ∷ []) e = absurd (omega (arith, e))
eight (a ∷ b ∷ c ∷ []) e = absurd (omega (arith, e))
eight (a ∷ b ∷ c ∷ d ∷ []) e = absurd (omega (arith, e))
eight (a ∷ b ∷ c ∷ d ∷ f ∷ []) e = absurd (omega (arith, e))
eight (a ∷ b ∷ c ∷ d ∷ f ∷ g ∷ []) e = absurd (omega (arith, e))
eight (a ∷ b ∷ c ∷ d ∷ f ∷ g ∷ h ∷ []) e = absurd (omega (arith, e))
eight (a ∷ b ∷ c ∷ d ∷ f ∷ g ∷ h ∷ i ∷ []) e = refl
eight (a ∷ b ∷ c ∷ d ∷ f ∷ g ∷ h ∷ i ∷ j ∷ l) e = absurd (omega (arith, e))

-- what stands behind the builder's words doesn't count
front : (b : Builder) (rest : List ℕ) → Small b → builder_in (words_of b ++ rest) ≡ b
unfolding builder_in words_of pair_at
front b rest k =
    let d : b.depth % 2 ^ 32 ≡ b.depth = omega (arith, k.depth_fits) in
    let w : (i : ℕ) → get_or b.bits i 0 / 2 ^ 32 % 2 ^ 32 * 2 ^ 32 + get_or b.bits i 0 % 2 ^ 32 ≡ get_or b.bits i 0 = λ i. pair_again (get_or b.bits i 0) (k.bits_fit i) in
    rw (pair_again b.held k.held_fits, d, w 0, w 1, w 2, w 3, w 4, w 5, w 6, w 7, eight b.bits k.words)

first : (words : List ℕ) (b : Builder) → builder_words ≤ length words → sets words 0 (words_of b) ≡ words_of b ++ drop 20 words
unfolding words_of
first words b h = sets-eq (words_of b) words 0 h

pub words_again : (words : List ℕ) (b : Builder) → builder_words ≤ length words → Small b → builder_in (store_of words b) ≡ b
unfolding store_of
words_again words b h k = rw (le-ltb (length words) builder_words h, first words b h) (front b (drop 20 words) k)

-- enough words are the builder that is loaded
pub loaded : (words : List ℕ) {b : Builder} → few_words words ≡ false → b ≡ load_of words → b ≡ builder_in words
unfolding load_of
loaded words e l = rw e at l

-- words of 0 are the empty builder
pub zero_words : (rest : List ℕ) → builder_in (replicate builder_words 0 ++ rest) ≡ empty_builder
unfolding builder_in pair_at
zero_words rest = refl

pub small_empty : Small empty_builder
small_empty = record { held_fits = omega arith; depth_fits = omega arith; words = refl; bits_fit = none }
  where
    none : (i : ℕ) → get_or (replicate open_words 0) i 0 < 2 ^ 64
    none zero = omega arith
    none (suc zero) = omega arith
    none (suc (suc zero)) = omega arith
    none (suc (suc (suc zero))) = omega arith
    none (suc (suc (suc (suc zero)))) = omega arith
    none (suc (suc (suc (suc (suc zero))))) = omega arith
    none (suc (suc (suc (suc (suc (suc zero)))))) = omega arith
    none (suc (suc (suc (suc (suc (suc (suc zero))))))) = omega arith
    none (suc (suc (suc (suc (suc (suc (suc (suc i)))))))) = omega arith

-- a number put into a list of small ones
all_set : (l : List ℕ) (i v : ℕ) → ((j : ℕ) → get_or l j 0 < 2 ^ 64) → v < 2 ^ 64 → (j : ℕ) → get_or (set l i v) j 0 < 2 ^ 64
all_set [] i v h k j = h j
all_set (a ∷ l) zero v h k zero = k
all_set (a ∷ l) zero v h k (suc j) = h (suc j)
all_set (a ∷ l) (suc i) v h k zero = h zero
all_set (a ∷ l) (suc i) v h k (suc j) = all_set l i v (λ n. h (suc n)) k j

pushed_fits : (w : ℕ) (due : Due) → pushed_of w due < 2 ^ 64
unfolding pushed_of
pushed_fits w due = omega (arith, bit_low due)

moved_small : (b : Builder) (n : ℕ) (w : Way) → Small b → n < 2 ^ 64 → Tells b.depth w → Small (moved_by w b n)
unfolding moved_by push_of pop_of
moved_small b n (Past next) k h t = record { held_fits = h; depth_fits = k.depth_fits; words = k.words; bits_fit = k.bits_fit }
moved_small b n (Into first after) k h t =
    record { held_fits = h; depth_fits = omega arith; words = rw length-set k.words; bits_fit = all_set b.bits (b.depth / 64) (pushed_of (get_or b.bits (b.depth / 64) 0) after) k.bits_fit (pushed_fits _ after) }
moved_small b n Out k h t =
    let d = min b.depth max_open - 1 in
    let l : min b.depth max_open ≤ max_open = omega arith in
    let x : get_or b.bits (d / 64) 0 / 2 < 2 ^ 64 = omega (arith, k.bits_fit (d / 64)) in
    record { held_fits = h; depth_fits = omega (arith, l); words = rw length-set k.words; bits_fit = all_set b.bits (d / 64) (get_or b.bits (d / 64) 0 / 2) k.bits_fit x }
moved_small b n (Barred r) k h t = k

pub after_small : (b : Builder) (tape : List ℕ) (m : Meaning) → Small b → length tape < 2 ^ 64 → Small (builder_after b (length tape) m)
unfolding builder_after builder_by
after_small b tape m k h = go (build_of b (length tape) m) refl
  where
    go : (s : Said) → build_of b (length tape) m ≡ s → Small (builder_after b (length tape) m)
    go (refused n ks p) e = rw e k
    go (holds n) e =
        let c = taken b tape m n e in
        let r : b.held + length (bytes_for m) ≤ length tape = leb-true _ _ c.room in
        rw e (moved_small b n (judge_of (due_of b.due) b.depth m) k (omega (arith, c.ends, r)) (judge_tells (due_of b.due) b.depth m))
