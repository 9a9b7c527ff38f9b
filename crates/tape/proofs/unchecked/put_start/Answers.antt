-- `put_start`: the kind, or the next one and the length.
use Rattle.tape.specs.Kinds.{start_bytes}
use Rattle.tape.proofs.unchecked.put_start.Goals as goal

pub returns-in-None : goal.returns-in-None
unfolding start_bytes
returns-in-None c = rw c.in-None.is c.put_kind.ensures

pub returns-in-Some : goal.returns-in-Some
unfolding start_bytes
returns-in-Some c = rw c.in-Some.is c.put_number.ensures
