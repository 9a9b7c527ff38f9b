-- `after_size`: the place behind the bytes, where they lie within the tape.
use Prim.Native.Nat.{◌+◌}
use native.Mathlib.Omega.{arith}
use borrow.Author.Tests.{le-leb, lt-leb}
use Rattle.tape.specs.End.{after_size}
use Rattle.tape.proofs.Tests.{lacks, has}
use Rattle.tape.proofs.end.after_size.Goals as goal

pub returns-then-lacks_room : goal.returns-then-lacks_room
unfolding after_size
returns-then-lacks_room c = rw (lt-leb _ _ (lacks _ _ _ c.lacks_room.ensures c.if-lacks_room.true))

pub overflow_add-result : goal.overflow_add-result
overflow_add-result c =
    let a = c.args in
    omega (arith, has c.lacks_room.result a.end (a.at + a.size) c.lacks_room.ensures c.if-lacks_room.false)

pub returns : goal.returns
unfolding after_size
returns c = rw (le-leb _ _ (has _ _ _ c.lacks_room.ensures c.if-lacks_room.false))
