-- Laws of reals: every pattern of 64 bits comes back, and 32 bits are widened exactly.
use Rattle.std.specs.Prelude.{Bool, true, false, not, List, ◌≡◌, refl, ℕ, ◌<◌, ◌^◌, T}
use Rattle.std.proofs.Common.{sym, ap, ◌∙◌}
use Rattle.std.specs.Float.{binary32, binary64}
use Rattle.std.specs.Float.Ieee.{of_bits, to_bits, nan_bits, is_nan}
use Rattle.std.specs.Float.Ieee.Bits.{nan_bits_is, of_bits-fits, of_bits-to_bits, to_bits-lt, to_bits-of_bits}
use Rattle.std.specs.Float.Ieee.Fits.{fits_widens}
use Rattle.event.specs.Meaning.{real, meaning_of}
use Rattle.event.specs.Real.{real_of, short_real_of, float_bits}

-- a test that came out false, as the fact that it tells
pub failed : {b : Bool} → b ≡ false → T (not b)
failed e = rw e tt

-- the event of 64 bits means those bits, whatever they are
pub real_bits : (b : ℕ) (s : List ℕ) → b < 2 ^ 64 → meaning_of (real_of b) s ≡ real b
unfolding real_of meaning_of float_bits
real_bits b s h = go (nan_bits binary64 b) refl
  where
    go : (t : Bool) → nan_bits binary64 b ≡ t → meaning_of (real_of b) s ≡ real b
    go true e = rw e
    go false e =
        let f : is_nan (of_bits binary64 b) ≡ false = sym (nan_bits_is binary64 b) ∙ e in
        rw e (ap real (rw (f, float_bits) (to_bits-of_bits binary64 b h (failed f))))

-- A real of 32 bits is widened exactly (docs/FORMAT.md, R11). The event of 32 bits that are no NaN's means 64 bits, and the number of these is the number of the 32
pub widened_exactly : (b : ℕ) (s : List ℕ) → nan_bits binary32 b ≡ false
    → (w : ℕ) × (w < 2 ^ 64) × (meaning_of (short_real_of b) s ≡ real w) × (of_bits binary64 w ≡ of_bits binary32 b)
unfolding meaning_of short_real_of float_bits
widened_exactly b s e =
    let x = of_bits binary32 b in
    let f = fits_widens x (of_bits-fits binary32 b) in
    let n : is_nan x ≡ false = sym (nan_bits_is binary32 b) ∙ e in
    (to_bits binary64 x, to_bits-lt binary64 x f, rw (e, n), of_bits-to_bits binary64 x f)
