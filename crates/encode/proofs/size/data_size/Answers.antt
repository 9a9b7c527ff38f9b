-- `data_size`: a head and the bytes, where they lie within the tape.
use mathlib.Core.Path.{sym, ◌∙◌}
use Rattle.encode.specs.Size.{data_size}
use Rattle.encode.proofs.size.data_size.Goals as goal

pub returns-in_err-n : goal.returns-in_err-n
unfolding data_size
returns-in_err-n c = rw c.in_err-n.was c.from_residual.ensures

pub returns-then-lacks_room : goal.returns-then-lacks_room
unfolding data_size
returns-then-lacks_room c = rw (c.in_ok-n.was, sym c.lacks_room.ensures ∙ c.if-lacks_room.true)

pub returns : goal.returns
unfolding data_size
returns c = rw (c.in_ok-n.was, sym c.lacks_room.ensures ∙ c.if-lacks_room.false, ← c.run_size.ensures) c.bytes_alone.ensures
