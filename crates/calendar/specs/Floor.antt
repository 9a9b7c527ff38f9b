-- The floor of the number that 64 bits are. IEEE 754's values are the kit's (`lib.Ieee`): `fin s m e` is the number m * 2 ^ e, negative where s
-- is true, and 2 ^ e is the fraction `up e / down e`. docs/FORMAT.md, C5.
use Rattle.std.specs.Prelude.{Bool, true, false, cond, ℕ, ◌+◌, ◌*◌, ◌/◌, ◌%◌, eqb, ℤ, pos, neg_ℤ, Float, None, Option, Some}
use Rattle.std.specs.Float.{nan, inf, fin, binary64}
use Rattle.std.specs.Float.Ieee.{up, down, of_bits}

-- a / b rounded up: one more than the quotient where something is left
unfoldable pub ceiling : ℕ → ℕ → ℕ
ceiling a b = cond (eqb (a % b) 0) (a / b) (a / b + 1)

-- a / b, or -a / b where the sign is set, rounded down
unfoldable pub floor_fraction : Bool → ℕ → ℕ → ℤ
floor_fraction false a b = pos (a / b)
floor_fraction true a b = neg_ℤ (pos (ceiling a b))

-- NaNs and infinities have none
unfoldable pub floor_of : Float → Option ℤ
floor_of nan = None
floor_of (inf s) = None
floor_of (fin s m e) = Some (floor_fraction s (m * up e) (down e))

unfoldable pub floor_of_bits : ℕ → Option ℤ
floor_of_bits bits = floor_of (of_bits binary64 bits)
