-- The walk of the check over UTF-8: the sequence at a place, by its first byte and the bytes that follow it.
use Rattle.std.specs.Bool.{then_some}
use Rattle.utf.specs.Tests.{and_left, and_right}
use Rattle.std.specs.Prelude.{Bool, true, ◌&&◌, cond, ◌≡◌, ℕ, suc, ◌+◌, ◌≤◌, ◌<◌, eqb, length, drop, get_or, Option, MatchOption, None, Some}
use Rattle.std.proofs.Math.Bool.{false}
use Rattle.std.proofs.lemmas.Bool.{false≢true}
use Rattle.std.proofs.Math.Path.{refl}
use Rattle.std.proofs.Common.{sym, ap, ◌∙◌, add-zero, arith, drop_of_length-le, ne_eqb}
use mathlib.Core.List.{List, [], ◌∷◌, ◌++◌}
use Rattle.std.proofs.Math.Decide.{dec_lt}
use Rattle.utf.specs.Left.{left_at}
use Rattle.utf.specs.Interval.{on}
use Rattle.utf.specs.Unicode.{Range, ◌to◌, within, table, row_of, well_formed, is_utf8}
use Rattle.utf.specs.Utf8Laws.{first_in, first_out, next_in_law, next_out}

-- the sequence at a place has so many bytes, and text goes on behind it; or it has none, and no text is there
pub record SequenceAt (s : List ℕ) (i n : ℕ) : Type 0 where
  pub absent : n ≡ 0 → is_utf8 (drop i s) ≡ false
  pub present : 0 < n → (i + n ≤ length s) × (is_utf8 (drop i s) ≡ is_utf8 (drop (i + n) s))

-- the sequence in front has so many bytes, and text goes on behind it; or there is none, and the bytes are no text
abbrev pub FrontSequence : List ℕ → Option ℕ → Type 0
FrontSequence s width = MatchOption width (is_utf8 s ≡ false) (λ n. (0 < n) × (n ≤ length s) × (is_utf8 s ≡ is_utf8 (drop n s)))

-- table 3-7: the second byte of a sequence of three or four, by its first
unfoldable pub low_after : ℕ → ℕ
low_after b = cond (eqb b 0xE0) 0xA0 (cond (eqb b 0xF0) 0x90 0x80)

unfoldable pub high_after : ℕ → ℕ
high_after b = cond (eqb b 0xED) 0x9F (cond (eqb b 0xF4) 0x8F 0xBF)

-- any other first byte
pub after_other : (b : ℕ) → (b ≡ 0xE0 → ⊥) → (b ≡ 0xED → ⊥) → (b ≡ 0xF0 → ⊥) → (b ≡ 0xF4 → ⊥) → (0x80 ≡ low_after b) × (0xBF ≡ high_after b)
unfolding low_after high_after
after_other b h g k m = rw (ne_eqb b 0xE0 h, ne_eqb b 0xED g, ne_eqb b 0xF0 k, ne_eqb b 0xF4 m) (refl, refl)

-- a byte is next, within a range
unfoldable pub next_in : Range → List ℕ → Bool
next_in r [] = false
next_in r (b ∷ s) = within r b

-- those after it, and that of a sequence of two
abbrev pub later : Range
later = 0x80 to 0xBF

-- what a first byte has to follow it
module _ (b : ℕ) (s : List ℕ) where
  pub after_two : 0xC2 ≤ b → b < 0xE0 → is_utf8 (b ∷ s) ≡ well_formed (later ∷ []) s
  unfolding is_utf8 within table row_of
  after_two h g = first_in b s (sym (on (λ (m : ℕ). Some (later ∷ [])) (row_of table) 0xC2 30 b refl h (omega arith)))

  pub after_three : 0xE0 ≤ b → b < 0xF0 → is_utf8 (b ∷ s) ≡ well_formed (low_after b to high_after b ∷ later ∷ []) s
  unfolding is_utf8 within table row_of low_after high_after
  after_three h g = first_in b s (sym (on (λ (m : ℕ). Some (low_after m to high_after m ∷ later ∷ [])) (row_of table) 0xE0 16 b refl h (omega arith)))

  pub after_four : 0xF0 ≤ b → b < 0xF5 → is_utf8 (b ∷ s) ≡ well_formed (low_after b to high_after b ∷ later ∷ later ∷ []) s
  unfolding is_utf8 within table row_of low_after high_after
  after_four h g = first_in b s (sym (on (λ (m : ℕ). Some (low_after m to high_after m ∷ later ∷ later ∷ [])) (row_of table) 0xF0 5 b refl h (omega arith)))

  -- a byte that no sequence begins with
  pub after_none : (0x80 ≤ b) → b < 0xC2 → is_utf8 (b ∷ s) ≡ false
  unfolding is_utf8 within table row_of
  after_none h g = first_out b s (sym (on (λ (m : ℕ). None) (row_of table) 0x80 66 b refl h (omega arith)))

  pub after_above : 0xF5 ≤ b → b < 256 → is_utf8 (b ∷ s) ≡ false
  unfolding is_utf8 within table row_of
  after_above h g = first_out b s (sym (on (λ (m : ℕ). None) (row_of table) 0xF5 11 b refl h (omega arith)))

-- a byte that follows within its range, at a place
module _ (s : List ℕ) (i : ℕ) (r : Range) (rs : List Range) where
  pub next_yes : next_in r (drop i s) ≡ true → (i < length s) × (well_formed (r ∷ rs) (drop i s) ≡ well_formed rs (drop (i + 1) s))
  unfolding next_in
  next_yes e =
      elim (dec_lt i (length s)) [
        | yes p ↦ (p, rw (left_at s i p) (next_in_law r rs (get_or s i 0) (drop (i + 1) s) (rw (left_at s i p) at e)))
        | no p ↦ absurd (false≢true (rw (drop_of_length-le s {i = i} (omega arith)) at e))
      ]

  -- or none
  pub next_no : next_in r (drop i s) ≡ false → well_formed (r ∷ rs) (drop i s) ≡ false
  unfolding next_in well_formed
  next_no e = go (drop i s) e
    where
      go : (t : List ℕ) → next_in r t ≡ false → well_formed (r ∷ rs) t ≡ false
      go [] e = refl
      go (b ∷ t) e = next_out r rs b t e

-- all that follow from a place on are within their ranges
abbrev pub Follow : List ℕ → ℕ → List Range → Type 0
Follow s i [] = Unit {0}
Follow s i (r ∷ rs) = (next_in r (drop i s) ≡ true) × Follow s (i + 1) rs

-- then text goes on behind them
follow_all : (s : List ℕ) (rs : List Range) (i : ℕ) → i ≤ length s → Follow s i rs → (i + length rs ≤ length s) × (well_formed rs (drop i s) ≡ is_utf8 (drop (i + length rs) s))
unfolding is_utf8
follow_all s [] i h f = (omega arith, rw (add-zero i))
follow_all s (r ∷ rs) i h f =
    let n = next_yes s i r rs f.0 in
    let ih = follow_all s rs (i + 1) (omega (arith, n.0)) f.1 in
    let e : i + 1 + length rs ≡ i + suc (length rs) = omega arith in
    (omega (arith, ih.0), n.1 ∙ rw e at ih.1)

-- and where one does not follow, there is no text
follow_not : (s : List ℕ) (rs : List Range) (i : ℕ) (r : Range) (qs : List Range) → Follow s i rs → next_in r (drop (i + length rs) s) ≡ false → well_formed (rs ++ r ∷ qs) (drop i s) ≡ false
follow_not s [] i r qs f e = next_no s i r qs (rw (add-zero i) at e)
follow_not s (t ∷ rs) i r qs f e =
    let j : i + suc (length rs) ≡ i + 1 + length rs = omega arith in
    (next_yes s i t (rs ++ r ∷ qs) f.0).1 ∙ follow_not s rs (i + 1) r qs f.1 (rw j at e)

-- the first byte at a place, and what its row has to follow
module _ (s : List ℕ) (i : ℕ) (h : i < length s) where
  pub first_at : is_utf8 (drop i s) ≡ is_utf8 (get_or s i 0 ∷ drop (i + 1) s)
  first_at = ap is_utf8 (left_at s i h)

  -- no row has it
  pub no_first : is_utf8 (get_or s i 0 ∷ drop (i + 1) s) ≡ false → SequenceAt s i 0
  no_first e = record { absent = λ z. first_at ∙ e; present = λ z. absurd (omega arith) }

  -- all bytes of the row follow
  pub sequence : (rs : List Range) → is_utf8 (get_or s i 0 ∷ drop (i + 1) s) ≡ well_formed rs (drop (i + 1) s) → Follow s (i + 1) rs → SequenceAt s i (1 + length rs)
  sequence rs e f =
      let a = follow_all s rs (i + 1) (omega arith) f in
      let j : i + 1 + length rs ≡ i + (1 + length rs) = omega arith in
      record { absent = λ z. absurd (omega arith); present = λ z. (omega (arith, a.0), first_at ∙ e ∙ rw j at a.1) }

  -- the one at j does not, behind those that do
  pub no_sequence :
      (rs : List Range) (r : Range) (qs : List Range) (j : ℕ) → i + 1 + length rs ≡ j →
      is_utf8 (get_or s i 0 ∷ drop (i + 1) s) ≡ well_formed (rs ++ r ∷ qs) (drop (i + 1) s) →
      Follow s (i + 1) rs → next_in r (drop j s) ≡ false → SequenceAt s i 0
  no_sequence rs r qs j at e f g = no_first (e ∙ follow_not s rs (i + 1) r qs f (rw (← at) at g))

-- The sequence in front.

-- whether all that follow from a place on are within their ranges
abbrev pub follow : List ℕ → ℕ → List Range → Bool
follow s i [] = true
follow s i (r ∷ rs) = next_in r (drop i s) && follow s (i + 1) rs

follow_yes : (s : List ℕ) (i : ℕ) (rs : List Range) → follow s i rs ≡ true → Follow s i rs
follow_yes s i [] e = tt
follow_yes s i (r ∷ rs) e = (and_left (next_in r (drop i s)) (follow s (i + 1) rs) e, follow_yes s (i + 1) rs (and_right (next_in r (drop i s)) (follow s (i + 1) rs) e))

follow_no : (s : List ℕ) (i : ℕ) (rs : List Range) → follow s i rs ≡ false → well_formed rs (drop i s) ≡ false
follow_no s i [] e = absurd (false≢true (sym e))
follow_no s i (r ∷ rs) e = go (next_in r (drop i s)) refl (follow_no s (i + 1) rs) e
  where
    go : (b : Bool) → next_in r (drop i s) ≡ b → (follow s (i + 1) rs ≡ false → well_formed rs (drop (i + 1) s) ≡ false) → (b && follow s (i + 1) rs) ≡ false → well_formed (r ∷ rs) (drop i s) ≡ false
    go true n ih f = (next_yes s i r rs n).1 ∙ ih f
    go false n ih f = next_no s i r rs n

-- the bytes of its row follow the first byte, or they don't
pub front : (s : List ℕ) (rs : List Range) → 0 < length s → is_utf8 (get_or s 0 0 ∷ drop 1 s) ≡ well_formed rs (drop 1 s) → FrontSequence s (then_some (follow s 1 rs) (1 + length rs))
front s rs h e = go (follow s 1 rs) refl
  where
    go : (b : Bool) → follow s 1 rs ≡ b → FrontSequence s (then_some b (1 + length rs))
    go true f =
        let a = follow_all s rs 1 (omega arith) (follow_yes s 1 rs f) in
        (omega arith, a.0, first_at s 0 h ∙ e ∙ a.1)
    go false f = first_at s 0 h ∙ e ∙ follow_no s 1 rs f
