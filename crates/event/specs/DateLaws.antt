-- A date's bits are those of a finite number, by IEEE 754. The limits, computed.
use Rattle.std.specs.Prelude.{Bool, true, false, not, cond, List, [], ◌∷◌, map, ◌≡◌, refl, ℕ, zero, suc, ◌+◌, ◌/◌, ◌%◌, ◌^◌, ◌≤◌, ◌<◌, ltb, leb, eqb, replicate, Float}
use Rattle.std.proofs.Common.{sym, ◌∙◌, mod-lt, div-lt_iff_lt-mul, le-div_iff_mul-le, arith, eq-eqb, ne_eqb, ltb-true, ltb-false, lit<}
use Rattle.std.specs.Float.{nan, inf, binary64}
use Rattle.std.specs.Float.Ieee.{prec, low, hid, odd, of_fields, of_bits}
use Rattle.std.specs.Float.Ieee.Scale.{finite}
use Rattle.event.specs.Date.{is_date}

-- ---- a number by its fields

odd_finite : (d : ℕ) (s : Bool) (q k l : ℕ) → finite (odd d s q k l) ≡ true
unfolding odd
odd_finite d s zero k l = refl
odd_finite d s (suc q) k l = refl

either_finite : (a b s : Bool) (v : Float) → finite v ≡ true → finite (cond a (cond b (inf s) nan) v) ≡ not a
either_finite true true s v h = refl
either_finite true false s v h = refl
either_finite false b s v h = h

fields_finite : (s : Bool) (x t : ℕ) → finite (of_fields binary64 s x t) ≡ not (eqb x 2047)
unfolding of_fields
fields_finite s zero t = odd_finite (prec binary64) s t 0 (low binary64)
fields_finite s (suc x) t = either_finite (eqb (suc x) 2047) (eqb t 0) s _ (odd_finite (prec binary64) s (hid binary64 + t) x (low binary64))

-- ---- the exponent's field by a comparison

below_ones : (r : ℕ) → r < 2 ^ 63 → ltb r 0x7FF0_0000_0000_0000 ≡ not (eqb (r / 2 ^ 52) 2047)
below_ones r h = go (ltb r 0x7FF0_0000_0000_0000) refl
  where
    go : (b : Bool) → ltb r 0x7FF0_0000_0000_0000 ≡ b → b ≡ not (eqb (r / 2 ^ 52) 2047)
    go true e =
        let l : r / 2 ^ 52 < 2047 = (div-lt_iff_lt-mul (lit< tt)).1 (ltb-true _ _ e) in
        rw (ne_eqb (r / 2 ^ 52) 2047 (λ q. omega arith))
    go false e =
        let l : 2047 ≤ r / 2 ^ 52 = (le-div_iff_mul-le (lit< tt)).1 (ltb-false _ _ e) in
        let m : r / 2 ^ 52 < 2048 = (div-lt_iff_lt-mul (lit< tt)).1 h in
        rw (eq-eqb (r / 2 ^ 52) 2047 (omega arith))

-- every date is a finite number, and every finite number may be a date
pub date_finite : (bits : ℕ) → is_date bits ≡ finite (of_bits binary64 bits)
unfolding is_date of_bits
date_finite bits = below_ones (bits % 2 ^ 63) (mod-lt bits (lit< tt)) ∙ sym (fields_finite (leb (2 ^ 63) bits) (bits % 2 ^ 63 / 2 ^ 52) (bits % 2 ^ 52))

-- the neighbours of both infinities; these, a quiet and a signalling NaN, and all bits set
abbrev pub largest : List ℕ
largest = 0x7FEF_FFFF_FFFF_FFFF ∷ 0xFFEF_FFFF_FFFF_FFFF ∷ []

abbrev pub beyond : List ℕ
beyond = 0x7FF0_0000_0000_0000 ∷ 0xFFF0_0000_0000_0000 ∷ 0x7FF8_0000_0000_0000 ∷ 0x7FF0_0000_0000_0001 ∷ 0xFFFF_FFFF_FFFF_FFFF ∷ []

pub limits : (map is_date largest ≡ replicate 2 true) × (map is_date beyond ≡ replicate 5 false)
unfolding is_date
limits = (refl, refl)
