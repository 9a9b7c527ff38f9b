-- `signed_length` counts the digits and the minus.
use native.Mathlib.Omega.{arith}
use Rattle.digits.specs.DigitsLaws.{length_minus}
use Rattle.digits.specs.Sign.{sign_digits}
use Rattle.digits.proofs.decimal.signed_length.Goals as goal

pub returns-in-Plus : goal.returns-in-Plus
unfolding sign_digits
returns-in-Plus c =
    let e = rw c.in-Plus.is at c.sign_of.ensures.result_value in
    rw (← e) c.decimal_length.ensures

pub returns-in-Minus : goal.returns-in-Minus
unfolding sign_digits
returns-in-Minus c =
    let e = rw c.in-Minus.is at c.sign_of.ensures in
    rw (← e.result_value) (record { value = omega (arith, length_minus c.in-Minus.n, c.decimal_length-in-Minus.ensures.value); upper_bound = omega (arith, length_minus c.in-Minus.n, c.decimal_length-in-Minus.ensures.value, e.result_len_bound) })
