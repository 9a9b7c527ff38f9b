-- `numbered`: the event of the number, where there is one.
use Rattle.tape.specs.Item.{numbered}
use Rattle.tape.proofs.step.numbered.Goals as goal

pub returns-in_err-n : goal.returns-in_err-n
unfolding numbered
returns-in_err-n c = rw c.in_err-n.was c.from_residual.ensures

pub returns : goal.returns
unfolding numbered
returns c = rw (c.in_ok-n.was, ← c.event_of.ensures) c.no_bytes.ensures
