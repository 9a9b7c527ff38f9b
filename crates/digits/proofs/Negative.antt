-- The sign of a number of 64 bits, as the machine reads it back from its bits, and the digits of what it is made of.
use mathlib.Core.Bool.{true, false, false≢true}
use mathlib.Core.Path.{◌≡◌, refl, sym, ap}
use Prim.Native.Nat.{ℕ, suc, ◌+◌, ◌^◌, ◌≤◌, ◌<◌}
use native.Mathlib.Omega.{arith}
use borrow.Author.Tests.{ltb-true}
use lib.IntN.{ℤ, pos, negsuc, nat_abs}
use lib.Signed.{lt_z}
use mir.Syntax.{w64}
use mir.Val.{SFits, to_z, of_z}
use mir.Facts.{to_z-of_z}
use lib.ListN.{length}
use Rattle.digits.specs.Digits.{minus, signed}
use Rattle.digits.specs.DigitsLaws.{signed_few}
use Rattle.digits.specs.Sign.{sign_digits}
use Rattle.digits.specs.declared.decimal.Sign.TheVariants.{Plus, Minus}

-- a negative number is its size behind a minus
pub below : (z : ℤ) → SFits w64 z → lt_z (to_z w64 (of_z w64 z)) (pos 0) ≡ true → (sign_digits (Minus (nat_abs (to_z w64 (of_z w64 z)))) ≡ signed z) × (length (signed z) ≤ 20)
unfolding sign_digits signed
below (pos n) f e = absurd (let h : n < 0 = ltb-true n 0 (rw (to_z-of_z f) at e) in omega arith)
below (negsuc k) f e = let a : suc k ≡ k + 1 = omega arith in rw (to_z-of_z f) (ap minus a, signed_few (negsuc k) f.sfits)

-- any other is its size
pub above : (z : ℤ) → SFits w64 z → lt_z (to_z w64 (of_z w64 z)) (pos 0) ≡ false → (sign_digits (Plus (nat_abs (to_z w64 (of_z w64 z)))) ≡ signed z) × (length (signed z) ≤ 20)
unfolding sign_digits signed
above (pos n) f e = let h : n < 2 ^ 63 = f.sfits in rw (to_z-of_z f) (refl, signed_few (pos n) (omega arith))
above (negsuc k) f e = absurd (false≢true (sym (rw (to_z-of_z f) at e)))

pub plus_is : (n : ℕ) → sign_digits (Plus n) ≡ signed (pos n)
unfolding sign_digits signed
plus_is n = refl

pub plus_few : (n : ℕ) → n < 2 ^ 64 → length (sign_digits (Plus n)) ≤ 20
unfolding sign_digits signed
plus_few n h = signed_few (pos n) h

pub ruleset sign_steps = (below, above, plus_is, plus_few)
