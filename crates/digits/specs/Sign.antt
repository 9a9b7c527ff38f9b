-- The digits of what the code makes of an integer.
use Rattle.std.specs.Prelude.{List, ℕ}
use Rattle.digits.specs.Digits.{decimal, minus}
use Rattle.digits.specs.declared.decimal.Sign.{Sign}
use Rattle.digits.specs.declared.decimal.Sign.TheVariants.{Plus, Minus}

unfoldable pub sign_digits : Sign → List ℕ
sign_digits (Plus n) = decimal n
sign_digits (Minus n) = minus n
