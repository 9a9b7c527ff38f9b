-- `put_signed` puts the digits, behind a minus where the number is negative.
use Rattle.digits.specs.Sign.{sign_digits}
use Rattle.digits.proofs.decimal.put_signed.Goals as goal

pub returns-in-Plus : goal.returns-in-Plus
unfolding sign_digits
returns-in-Plus c =
    let e = rw c.in-Plus.is at c.sign_of.ensures.result_value in
    rw (← e) c.put_decimal.ensures

pub returns-in-Minus : goal.returns-in-Minus
unfolding sign_digits
returns-in-Minus c =
    let e = rw c.in-Minus.is at c.sign_of.ensures.result_value in
    rw (← e) c.put_minus.ensures
