-- Laws of UTF-16: what one scalar value in front does, and that scalar values and well-formed units are each other's.
use Rattle.std.proofs.Math.Path.{◌≡◌, refl}
use Rattle.std.proofs.Common.{sym, ap, ap₂, ◌∙◌, inl, inr, ⊎_elim, true≢false}
use Rattle.std.specs.Prelude.{◌⊎◌, Bool, true, false, not, ◌&&◌, ℕ, ◌+◌, ◌-◌, ◌*◌, ◌/◌, ◌%◌, ◌≤◌, ◌<◌, length, None, Some}
use Rattle.std.proofs.lemmas.Bool.{false≢true}
use mathlib.Core.List.{List, [], ◌∷◌}
use Rattle.std.proofs.Math.Decide.{dec_lt}
use native.Mathlib.Omega.{arith}
use Rattle.std.proofs.Math.Arith.{digits_div, digits_mod}
use Rattle.utf.specs.Tests.{and_left, and_right, cond_yes, cond_no}
use Rattle.utf.specs.Bounds.{Below, between, outside, put_between, put_outside}
use Rattle.utf.specs.ScalarLaws.{scalar_is, is_scalar_law, scalar_lt, by_scalar, utf16_one, utf16_two}
use Rattle.utf.specs.Unicode.{is_scalar, all_scalar, utf16_of, utf16, is_high, is_low, paired, scalars16, units_of, unit_bytes, is_even, is_utf16, to_utf8}
use Rattle.utf.specs.Utf16.{utf8_length_of}

-- Surrogates and scalar values.

-- a unit that is no surrogate lies below them or above
pub plain_is : (u : ℕ) → is_high u ≡ false → is_low u ≡ false → (u < 0xD800) ⊎ (0xE000 ≤ u)
unfolding is_high is_low
plain_is u h l = go (outside 0xD800 0xDBFF u h) (outside 0xDC00 0xDFFF u l)
  where
    go : (u < 0xD800) ⊎ (0xDBFF < u) → (u < 0xDC00) ⊎ (0xDFFF < u) → (u < 0xD800) ⊎ (0xE000 ≤ u)
    go (inl a) b = inl a
    go (inr a) (inl b) = absurd (omega arith)
    go (inr a) (inr b) = inr (omega arith)

-- the bounds of a high surrogate
pub high_is : (u : ℕ) → is_high u ≡ true → (0xD800 ≤ u) × (u ≤ 0xDBFF)
unfolding is_high
high_is u h = between 0xD800 0xDBFF u h

-- the bounds of a low one
pub low_is : (u : ℕ) → is_low u ≡ true → (0xDC00 ≤ u) × (u ≤ 0xDFFF)
unfolding is_low
low_is u h = between 0xDC00 0xDFFF u h

-- what lies between them is a high surrogate
pub is_high_law : (u : ℕ) → 0xD800 ≤ u → u ≤ 0xDBFF → is_high u ≡ true
unfolding is_high
is_high_law u h k = put_between 0xD800 0xDBFF u h k

-- and a low one
pub is_low_law : (u : ℕ) → 0xDC00 ≤ u → u ≤ 0xDFFF → is_low u ≡ true
unfolding is_low
is_low_law u h k = put_between 0xDC00 0xDFFF u h k

-- what lies outside is no high surrogate
pub no_high : (u : ℕ) → (u < 0xD800) ⊎ (0xDBFF < u) → is_high u ≡ false
unfolding is_high
no_high u h = put_outside 0xD800 0xDBFF u h

-- and no low one
pub no_low : (u : ℕ) → (u < 0xDC00) ⊎ (0xDFFF < u) → is_low u ≡ false
unfolding is_low
no_low u h = put_outside 0xDC00 0xDFFF u h

-- a unit that is no surrogate is a scalar value
pub plain_scalar : (u : ℕ) → u < 0x10000 → is_high u ≡ false → is_low u ≡ false → is_scalar u ≡ true
plain_scalar u b h l = is_scalar_law u (⊎_elim (λ a. inl a) (λ a. inr (a, omega arith)) (plain_is u h l))

-- a scalar value is no high surrogate
pub scalar_not_high : (v : ℕ) → is_scalar v ≡ true → is_high v ≡ false
scalar_not_high v s = no_high v (⊎_elim (λ a. inl a) (λ a. inr (omega arith)) (scalar_is v s))

-- and no low one
pub scalar_not_low : (v : ℕ) → is_scalar v ≡ true → is_low v ≡ false
scalar_not_low v s = no_low v (⊎_elim (λ a. inl (omega arith)) (λ a. inr (omega arith)) (scalar_is v s))

-- A pair of surrogates and its scalar value.

-- the scalar value of a pair
abbrev pub pair_of : ℕ → ℕ → ℕ
pair_of u v = 0x10000 + (u - 0xD800) * 0x400 + (v - 0xDC00)

module _ (u v : ℕ) (h : is_high u ≡ true) (l : is_low v ≡ true) where
  -- a pair's value is at most 10FFFF
  pub pair_lt : pair_of u v < 0x110000
  pair_lt = omega (arith, high_is u h, low_is v l)

  -- so it is a scalar value
  pub pair_scalar : is_scalar (pair_of u v) ≡ true
  pair_scalar = is_scalar_law (pair_of u v) (inr (omega arith, pair_lt))

  -- and D91 gives the pair again
  pub utf16_pair : utf16_of (pair_of u v) ≡ u ∷ v ∷ []
  utf16_pair =
      let a = high_is u h in
      let b = low_is v l in
      let e : pair_of u v - 0x10000 ≡ (u - 0xD800) * 0x400 + (v - 0xDC00) = omega arith in
      let k : v - 0xDC00 < 0x400 = omega arith in
      rw (utf16_two (pair_of u v) (omega arith), e, digits_div (u - 0xD800) k, digits_mod (u - 0xD800) k) (ap₂ (λ (x y : ℕ). x ∷ y ∷ []) (omega arith) (omega arith))

-- a scalar value from 10000 on
module _ (v : ℕ) (h : 0x10000 ≤ v) (k : v < 0x110000) where
  -- its first unit is a high surrogate
  pub first_high : is_high (0xD800 + (v - 0x10000) / 0x400) ≡ true
  first_high = is_high_law _ (omega arith) (omega arith)

  -- its second a low one
  pub second_low : is_low (0xDC00 + (v - 0x10000) % 0x400) ≡ true
  second_low = is_low_law _ (omega arith) (omega arith)

  -- and their value is the scalar value again
  pub pair_again : pair_of (0xD800 + (v - 0x10000) / 0x400) (0xDC00 + (v - 0x10000) % 0x400) ≡ v
  pair_again = omega arith

-- What one scalar value in front does.

-- the clause of two units, by the first
paired_step : (u v : ℕ) (us : List ℕ) → paired (u ∷ v ∷ us) ≡ elim (is_high u) [ true ↦ is_low v && paired us | false ↦ not (is_low u) && paired (v ∷ us) ]
unfolding paired
paired_step u v us = refl

scalars_step : (u v : ℕ) (us : List ℕ) → scalars16 (u ∷ v ∷ us) ≡ elim (is_high u) [ true ↦ pair_of u v ∷ scalars16 us | false ↦ u ∷ scalars16 (v ∷ us) ]
unfolding scalars16
scalars_step u v us = refl

module _ (u : ℕ) (h : is_high u ≡ false) where
  -- a unit that is no surrogate passes
  pub paired_plain : is_low u ≡ false → (us : List ℕ) → paired (u ∷ us) ≡ paired us
  unfolding paired
  paired_plain l [] = rw (h, l)
  paired_plain l (v ∷ us) = rw (paired_step, h, l)

  -- a low surrogate that follows no high one
  pub paired_low : is_low u ≡ true → (us : List ℕ) → paired (u ∷ us) ≡ false
  unfolding paired
  paired_low l [] = rw (h, l)
  paired_low l (v ∷ us) = rw (paired_step, h, l)

  -- a unit that is no high surrogate is a scalar value by itself
  pub scalars_plain : (us : List ℕ) → scalars16 (u ∷ us) ≡ u ∷ scalars16 us
  unfolding scalars16
  scalars_plain [] = refl
  scalars_plain (v ∷ us) = rw (scalars_step, h)

module _ (u : ℕ) (h : is_high u ≡ true) where
  -- a high surrogate that nothing follows
  pub paired_high : paired (u ∷ []) ≡ false
  unfolding paired
  paired_high = rw h

  -- a high surrogate, and whether the next unit is a low one
  pub paired_next : (v : ℕ) (us : List ℕ) → paired (u ∷ v ∷ us) ≡ (is_low v && paired us)
  paired_next v us = rw (paired_step, h)

  -- a high surrogate and the next unit are one scalar value
  pub scalars_pair : (v : ℕ) (us : List ℕ) → scalars16 (u ∷ v ∷ us) ≡ pair_of u v ∷ scalars16 us
  scalars_pair v us = rw (scalars_step, h)

-- Well-formed units, one scalar value after another.

pub data Text : List ℕ → Type 0 where
  done : Text []
  plain : (u : ℕ) {us : List ℕ} → is_high u ≡ false → is_low u ≡ false → Text us → Text (u ∷ us)
  pair : (u v : ℕ) {us : List ℕ} → is_high u ≡ true → is_low v ≡ true → Text us → Text (u ∷ v ∷ us)

-- what is well formed is such a text
pub text : (us : List ℕ) → paired us ≡ true → Text us
text [] p = done
text (u ∷ []) p = go (is_high u) refl (is_low u) refl
  where
    go : (b : Bool) → is_high u ≡ b → (d : Bool) → is_low u ≡ d → Text (u ∷ [])
    go true h d l = absurd (true≢false (sym p ∙ paired_high u h))
    go false h true l = absurd (true≢false (sym p ∙ paired_low u h l []))
    go false h false l = plain u h l done
text (u ∷ v ∷ us) p = go (is_high u) refl (is_low u) refl (text us) (text (v ∷ us))
  where
    go : (b : Bool) → is_high u ≡ b → (d : Bool) → is_low u ≡ d → (paired us ≡ true → Text us) → (paired (v ∷ us) ≡ true → Text (v ∷ us)) → Text (u ∷ v ∷ us)
    go true h d l far near =
        let e : (is_low v && paired us) ≡ true = sym (paired_next u h v us) ∙ p in
        pair u v h (and_left (is_low v) (paired us) e) (far (and_right (is_low v) (paired us) e))
    go false h true l far near = absurd (true≢false (sym p ∙ paired_low u h l (v ∷ us)))
    go false h false l far near = plain u h l (near (sym (paired_plain u h l (v ∷ us)) ∙ p))

text_scalars : {us : List ℕ} → Text us → Below 0x10000 us → all_scalar (scalars16 us) ≡ true
unfolding all_scalar scalars16
text_scalars done b = refl
text_scalars (plain u {us} h l t) b = rw (scalars_plain u h us, plain_scalar u b.0 h l) (text_scalars t b.1)
text_scalars (pair u v {us} h l t) b = rw (scalars_pair u h v us, pair_scalar u v h l) (text_scalars t b.1.1)

text_units : {us : List ℕ} → Text us → Below 0x10000 us → utf16 (scalars16 us) ≡ us
unfolding utf16 scalars16
text_units done b = refl
text_units (plain u {us} h l t) b = rw (scalars_plain u h us, utf16_one u b.0) (ap (λ (l : List ℕ). u ∷ l) (text_units t b.1))
text_units (pair u v {us} h l t) b = rw (scalars_pair u h v us, utf16_pair u v h l) (ap (λ (l : List ℕ). u ∷ v ∷ l) (text_units t b.1.1))

-- what well-formed units say are scalar values
pub scalars16_scalar : (us : List ℕ) → Below 0x10000 us → paired us ≡ true → all_scalar (scalars16 us) ≡ true
scalars16_scalar us b p = text_scalars (text us p) b

-- and these scalar values are written as the same units
pub utf16_scalars16 : (us : List ℕ) → Below 0x10000 us → paired us ≡ true → utf16 (scalars16 us) ≡ us
utf16_scalars16 us b p = text_units (text us p) b

-- Scalar values, one after another.

-- what one scalar value in front does to the units: below 10000, and from there on
module _ (v : ℕ) (vs : List ℕ) (s : is_scalar v ≡ true) where
  in_front : (P : List ℕ → Type 0) → (v < 0x10000 → P (v ∷ utf16 vs)) → (0x10000 ≤ v → P ((0xD800 + (v - 0x10000) / 0x400) ∷ (0xDC00 + (v - 0x10000) % 0x400) ∷ utf16 vs)) → P (utf16 (v ∷ vs))
  unfolding utf16
  in_front P one two =
      elim (dec_lt v 0x10000) [
        | yes p ↦ rw (utf16_one v p) (one p)
        | no q ↦ let h : 0x10000 ≤ v = omega arith in rw (utf16_two v h) (two h)
      ]

-- scalar values are written as well-formed units
pub paired_utf16 : (vs : List ℕ) → all_scalar vs ≡ true → paired (utf16 vs) ≡ true
unfolding utf16 paired
paired_utf16 = by_scalar (λ (vs : List ℕ). paired (utf16 vs) ≡ true) refl more
  where
    more : (v : ℕ) (vs : List ℕ) → is_scalar v ≡ true → paired (utf16 vs) ≡ true → paired (utf16 (v ∷ vs)) ≡ true
    more v vs s ih =
        in_front v vs s (λ (us : List ℕ). paired us ≡ true)
        (λ h. paired_plain v (scalar_not_high v s) (scalar_not_low v s) (utf16 vs) ∙ ih)
        (λ h. paired_next _ (first_high v h (scalar_lt v s)) _ (utf16 vs) ∙ rw (second_low v h (scalar_lt v s)) ih)

-- and these units say the same scalar values
pub scalars16_utf16 : (vs : List ℕ) → all_scalar vs ≡ true → scalars16 (utf16 vs) ≡ vs
unfolding utf16 scalars16
scalars16_utf16 = by_scalar (λ (vs : List ℕ). scalars16 (utf16 vs) ≡ vs) refl more
  where
    more : (v : ℕ) (vs : List ℕ) → is_scalar v ≡ true → scalars16 (utf16 vs) ≡ vs → scalars16 (utf16 (v ∷ vs)) ≡ v ∷ vs
    more v vs s ih =
        in_front v vs s (λ (us : List ℕ). scalars16 us ≡ v ∷ vs)
        (λ h. scalars_plain v (scalar_not_high v s) (utf16 vs) ∙ ap (λ (l : List ℕ). v ∷ l) ih)
        (λ h. scalars_pair _ (first_high v h (scalar_lt v s)) _ (utf16 vs) ∙ ap₂ (λ (x : ℕ) (l : List ℕ). x ∷ l) (pair_again v h (scalar_lt v s)) ih)

-- the units of scalar values are units
pub utf16_below : (vs : List ℕ) → all_scalar vs ≡ true → Below 0x10000 (utf16 vs)
unfolding utf16
utf16_below = by_scalar (λ (vs : List ℕ). Below 0x10000 (utf16 vs)) tt more
  where
    more : (v : ℕ) (vs : List ℕ) → is_scalar v ≡ true → Below 0x10000 (utf16 vs) → Below 0x10000 (utf16 (v ∷ vs))
    more v vs s ih =
        in_front v vs s (Below 0x10000)
        (λ h. (h, ih))
        (λ h. (omega (arith, scalar_lt v s), (omega arith, ih)))

-- Units and their bytes.

-- the bytes of units make the same units
pub units_of_unit_bytes : (us : List ℕ) → units_of (unit_bytes us) ≡ us
unfolding units_of unit_bytes
units_of_unit_bytes [] = refl
units_of_unit_bytes (u ∷ us) = ap₂ (λ (x : ℕ) (l : List ℕ). x ∷ l) (omega arith) (units_of_unit_bytes us)

-- an even number of bytes are those of their units
pub unit_bytes_units_of : (s : List ℕ) → Below 256 s → is_even s ≡ true → unit_bytes (units_of s) ≡ s
unfolding units_of unit_bytes is_even
unit_bytes_units_of [] b e = refl
unit_bytes_units_of (x ∷ []) b e = absurd (false≢true e)
unit_bytes_units_of (x ∷ y ∷ s) b e = rw (digits_div x b.1.0, digits_mod x b.1.0, unit_bytes_units_of s b.1.1 e)

-- the bytes of units are even in number
pub even_unit_bytes : (us : List ℕ) → is_even (unit_bytes us) ≡ true
unfolding unit_bytes is_even
even_unit_bytes [] = refl
even_unit_bytes (u ∷ us) = even_unit_bytes us

-- the bytes of units are bytes
pub unit_bytes_below : (us : List ℕ) → Below 0x10000 us → Below 256 (unit_bytes us)
unfolding unit_bytes
unit_bytes_below [] b = tt
unit_bytes_below (u ∷ us) b = (omega (arith, b.0), (omega arith, unit_bytes_below us b.1))

-- bytes make units
pub units_of_below : (s : List ℕ) → Below 256 s → Below 0x10000 (units_of s)
unfolding units_of
units_of_below [] b = tt
units_of_below (x ∷ []) b = tt
units_of_below (x ∷ y ∷ s) b = (omega (arith, b.0, b.1.0), units_of_below s b.1.1)

-- well-formed UTF-16 has an even number of bytes
pub good_even : (t : List ℕ) → is_utf16 t ≡ true → is_even t ≡ true
unfolding is_utf16
good_even t g = and_left (is_even t) (paired (units_of t)) g

-- its surrogates are paired
pub good_paired : (t : List ℕ) → is_utf16 t ≡ true → paired (units_of t) ≡ true
unfolding is_utf16
good_paired t g = and_right (is_even t) (paired (units_of t)) g

-- and that is all
pub even_paired : (t : List ℕ) → is_even t ≡ true → paired (units_of t) ≡ true → is_utf16 t ≡ true
unfolding is_utf16
even_paired t e p = rw (e, p)

-- What the measured length tells.

module _ (s : List ℕ) where
  -- a length: this is UTF-16, and its text in UTF-8 has that length
  pub measured : (n : ℕ) → utf8_length_of s ≡ Some n → (is_utf16 s ≡ true) × (length (to_utf8 s) ≡ n)
  unfolding utf8_length_of
  measured n h =
      let m = cond_yes (is_utf16 s) (Some (length (to_utf8 s))) None (Some n) h (λ (e : None ≡ Some n). let z : ◌≡◌ {A = ℕ} 0 1 = cc in absurd (omega arith)) in
      (m.0, cc)

  -- none: this is no UTF-16
  pub not_measured : utf8_length_of s ≡ None → is_utf16 s ≡ false
  unfolding utf8_length_of
  not_measured h = cond_no (is_utf16 s) (Some (length (to_utf8 s))) None None h (λ (e : Some (length (to_utf8 s)) ≡ None). let z : ◌≡◌ {A = ℕ} 0 1 = cc in absurd (omega arith))
