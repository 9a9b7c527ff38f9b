-- What a test for NaN tells.
use Prim.Native.Nat.{ℕ}
use mathlib.Core.Path.{◌≡◌, refl, sym, ◌∙◌}
use mathlib.Core.Bool.{Bool, true, false, not, ◌&&◌, true≢false}
use lib.Dec.{T}
use lib.Ieee.{Float, binary32, binary64, nan, inf, fin, ne, is_nan, fits, nan_bits, of_bits}
use lib.Ieee.Bits.{nan_bits_is, nan_bits_above, of_bits-fits}
use lib.Ieee.Compare.{nan_differs, differs_from_itself}
use lib.Ieee.Fits.{and_i, fits_widens}
use Rattle.event.specs.RealLaws.{failed}

passed : {b : Bool} → b ≡ true → T b
passed e = rw e tt

-- a float that differs from itself is a NaN
pub is_nan_law : (x : Float) → ne x x ≡ true → is_nan x ≡ true
unfolding is_nan
is_nan_law x e = rw (differs_from_itself x (passed e))

-- a float that doesn't is none
pub no_nan : (x : Float) → ne x x ≡ false → is_nan x ≡ false
unfolding is_nan
no_nan nan e = absurd (true≢false (sym nan_differs ∙ e))
no_nan (inf s) e = refl
no_nan (fin s m k) e = refl

-- what the cast from f32 to f64 asks
pub widens : (n : ℕ) → nan_bits binary32 n ≡ false → T (fits binary64 (of_bits binary32 n) && not (is_nan (of_bits binary32 n)))
widens n e =
    and_i (fits binary64 (of_bits binary32 n)) (not (is_nan (of_bits binary32 n)))
    (fits_widens (of_bits binary32 n) (of_bits-fits binary32 n))
    (failed (sym (nan_bits_is binary32 n) ∙ e))

pub ruleset nan_steps = (nan_bits_above, widens)
