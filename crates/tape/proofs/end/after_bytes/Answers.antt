-- `after_bytes`: the place behind as many bytes as the length tells.
use Rattle.tape.specs.End.{after_bytes}
use Rattle.tape.proofs.end.after_bytes.Goals as goal

pub returns-in_err-n : goal.returns-in_err-n
unfolding after_bytes
returns-in_err-n c = rw c.in_err-n.was c.from_residual.ensures

pub returns : goal.returns
unfolding after_bytes
returns c = rw c.in_ok-n.was c.after_size.ensures
