-- `put_kind` writes the kind, where there is room.
use mathlib.Core.List.{[]}
use mathlib.Core.Path.{refl}
use native.Mathlib.Omega.{arith}
use Rattle.tape.specs.Append.{said}
use Rattle.tape.proofs.AppendLaws.{put_none, put_room}
use Rattle.tape.proofs.Tests.{lacks, has}
use Rattle.tape.proofs.unchecked.put_kind.Goals as goal

pub returns-then-lacks_room : goal.returns-then-lacks_room
unfolding said
returns-then-lacks_room c =
    let a = c.args in
    put_none a.tape.now a.held a.kind [] (lacks _ _ _ c.lacks_room.ensures c.if-lacks_room.true)

pub returns : goal.returns
unfolding said
returns c =
    let a = c.args in
    put_room a.tape.now a.held a.kind [] (has _ _ _ c.lacks_room.ensures c.if-lacks_room.false) (omega arith) refl
