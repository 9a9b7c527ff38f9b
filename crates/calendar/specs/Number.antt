-- Numbers of seconds that need not be whole, as fractions: the range judged by the number itself, and what a floor is. docs/FORMAT.md, C5 and C6.
use Rattle.std.specs.Prelude.{Bool, true, false, ℕ, suc, ◌+◌, ◌*◌, ltb, leb, ℤ, pos, negsuc, Float, Option, None, Some}
use Rattle.std.specs.Float.{nan, inf, fin}
use Rattle.std.specs.Float.Ieee.{up, down}

-- a / b is below 252,423,993,600; -a / b is at or above -63,113,904,000
unfoldable pub in_range : Float → Bool
in_range nan = false
in_range (inf s) = false
in_range (fin false m e) = ltb (m * up e) (252_423_993_600 * down e)
in_range (fin true m e) = leb (m * up e) (63_113_904_000 * down e)

-- whether seconds since year one are given
unfoldable pub lies : Option ℕ → Bool
lies (Some n) = true
lies None = false

-- whether a whole number is at or below a / b, or -a / b where the sign is set; `negsuc k` is -1 - k
unfoldable pub at_or_below : ℤ → Bool → ℕ → ℕ → Bool
at_or_below (pos n) false a b = leb (n * b) a
at_or_below (pos n) true a b = leb (n * b + a) 0
at_or_below (negsuc k) false a b = true
at_or_below (negsuc k) true a b = leb a (suc k * b)
