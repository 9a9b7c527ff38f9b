-- `write_digits` stores all digits: those not yet stored, with what is stored behind them, are the whole.
use Rattle.std.proofs.Common.{◌≡◌, ◌∙◌, arith}
use Rattle.digits.specs.Digits.{digits_of}
use Rattle.digits.specs.DigitsLaws.{length_digits}
use Rattle.digits.proofs.Turns.{next_digit}
use Rattle.digits.proofs.decimal.write_digits.Goals as goal

pub loop-k-preserved : goal.loop-k-preserved
loop-k-preserved c =
    let l = c.loop-k in
    next_digit l.out c.args.at l.k l.left c.loop-k-test.true ∙ l.invariant

pub returns : goal.returns
unfolding digits_of
returns c =
    let l = c.loop-k in
    let e : l.k ≡ 0 = omega arith in
    record { place = rw length_digits; memory = rw (e, digits_of) at l.invariant }
