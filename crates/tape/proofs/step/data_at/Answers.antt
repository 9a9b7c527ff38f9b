-- `data_at`: the bytes, where they lie within the tape.
use Prim.Native.Nat.{◌+◌, ◌≤◌}
use native.Mathlib.Omega.{arith}
use borrow.Author.Tests.{le-leb, lt-leb}
use lib.ListN.{length}
use Rattle.tape.specs.Item.{data_in}
use Rattle.tape.proofs.Tests.{lacks, has}
use Rattle.tape.proofs.step.data_at.Goals as goal

pub returns-in_err-n : goal.returns-in_err-n
unfolding data_in
returns-in_err-n c = rw c.in_err-n.was c.from_residual.ensures

pub returns-then-lacks_room : goal.returns-then-lacks_room
unfolding data_in
returns-then-lacks_room c = rw (c.in_ok-n.was, lt-leb _ _ (lacks _ _ _ c.lacks_room.ensures c.if-lacks_room.true))

-- the bytes lie within the tape
room : (c : goal.Else-lacks_room) → c.in_ok-n.start + c.in_ok-n.n ≤ length c.args.tape.now
room c = has _ _ _ c.lacks_room.ensures c.if-lacks_room.false

pub with_bytes-requires : goal.with_bytes-requires
with_bytes-requires c = omega (arith, room c)

pub returns : goal.returns
unfolding data_in
returns c = rw (c.in_ok-n.was, le-leb _ _ (has _ _ _ c.lacks_room.ensures c.if-lacks_room.false)) c.with_bytes.ensures
