-- `after_number`: the place behind the number.
use Rattle.tape.specs.End.{after_number}
use Rattle.tape.proofs.end.after_number.Goals as goal

pub returns-in_err-next : goal.returns-in_err-next
unfolding after_number
returns-in_err-next c = rw c.in_err-next.was c.from_residual.ensures

pub returns : goal.returns
unfolding after_number
returns c = rw c.in_ok-next.was
