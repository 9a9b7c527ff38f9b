-- `after_negative`: the place behind the number, where it is below 2^63.
use borrow.Author.Tests.{lt-ltb, le-ltb}
use Rattle.tape.specs.End.{after_negative}
use Rattle.tape.proofs.end.after_negative.Goals as goal

pub returns-in_err-n : goal.returns-in_err-n
unfolding after_negative
returns-in_err-n c = rw c.in_err-n.was c.from_residual.ensures

pub returns-then-n-lt9223372036854775808 : goal.returns-then-n-lt9223372036854775808
unfolding after_negative
returns-then-n-lt9223372036854775808 c = rw (c.in_ok-n.was, lt-ltb _ _ c.if-n-lt9223372036854775808.true)

pub returns : goal.returns
unfolding after_negative
returns c = rw (c.in_ok-n.was, le-ltb _ _ c.if-n-lt9223372036854775808.false)
