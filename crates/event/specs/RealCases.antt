-- IEEE 754's worked examples, 32 bits to 64, and the rule for NaN, computed. docs/FORMAT.md, rule R11.
use Rattle.std.specs.Prelude.{[], ◌∷◌, map, ◌≡◌, refl, ℕ}
use Rattle.std.specs.Float.Ieee.{nan_bits, is_nan, of_bits, to_bits}
use Rattle.event.specs.Meaning.{real, meaning_of}
use Rattle.event.specs.Real.{short_real_of, wide_nan, float_bits}

-- 1.5, -0, infinity, 2^-149, the largest subnormal and the largest finite number, then three NaNs
pub widened :
    map (λ (b : ℕ). meaning_of (short_real_of b) [])
    (0x3FC0_0000 ∷ 0x8000_0000 ∷ 0x7F80_0000 ∷ 0x0000_0001 ∷ 0x007F_FFFF ∷ 0x7F7F_FFFF ∷ 0x7FC0_0000 ∷ 0x7F80_0001 ∷ 0xFFBF_FFFF ∷ []) ≡
    map real
    (0x3FF8_0000_0000_0000 ∷ 0x8000_0000_0000_0000 ∷ 0x7FF0_0000_0000_0000 ∷ 0x36A0_0000_0000_0000 ∷ 0x380F_FFFF_C000_0000 ∷ 0x47EF_FFFF_E000_0000 ∷ 0x7FF8_0000_0000_0000 ∷ 0x7FF8_0000_2000_0000 ∷ 0xFFFF_FFFF_E000_0000 ∷ [])
unfolding meaning_of short_real_of wide_nan float_bits nan_bits is_nan of_bits to_bits
widened = refl
