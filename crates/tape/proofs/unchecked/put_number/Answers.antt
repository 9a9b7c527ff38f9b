-- `put_number` writes the kind and the number, where there is room.
use Prim.Native.Nat.{◌+◌, ◌≤◌, ◌<◌}
use native.Mathlib.Omega.{arith}
use lib.ListN.{length}
use Rattle.tape.specs.Append.{said}
use Rattle.tape.proofs.AppendLaws.{put_none, put_room}
use Rattle.tape.specs.Seven.{seven}
use Rattle.tape.proofs.Tests.{lacks, has}
use Rattle.tape.proofs.unchecked.put_number.Goals as goal

pub returns-then-lacks_number : goal.returns-then-lacks_number
unfolding said
returns-then-lacks_number c =
    let a = c.args in
    let l : length a.tape.now < a.held + (1 + length (seven a.n)) = lacks _ _ _ c.lacks_number.ensures c.if-lacks_number.true in
    put_none a.tape.now a.held a.kind (seven a.n) (omega arith)

pub returns : goal.returns
unfolding said
returns c =
    let a = c.args in
    let room : a.held + (1 + length (seven a.n)) ≤ length a.tape.now = has _ _ _ c.lacks_number.ensures c.if-lacks_number.false in
    put_room a.tape.now a.held a.kind (seven a.n) (omega arith) c.write_number.ensures.value c.write_number.ensures.tape_after
