-- `put_eight` copies the eight bytes behind their marker, where both lie within and there is room.
use Prim.Native.Nat.{◌+◌, ◌<◌}
use native.Mathlib.Omega.{arith}
use lib.ListN.{length}
use Rattle.tape.proofs.Tests.{lacks, has}
use Rattle.encode.proofs.Putting.{nothing, refused, written, renamed}
use Rattle.encode.proofs.Runs.{length_between, eight_past, eight_part}
use Rattle.encode.proofs.put.put_eight.Goals as goal

pub returns-then-lacks_room : goal.returns-then-lacks_room
returns-then-lacks_room c =
    let a = c.args in
    let l : length a.tape.now < a.at + 8 = lacks _ _ _ c.lacks_room.ensures c.if-lacks_room.true in
    renamed _ (eight_past a.tape.now a.at a.marker l) (nothing _)

pub returns-then-out-lt9 : goal.returns-then-out-lt9
returns-then-out-lt9 c =
    let a = c.args in
    let r = has _ _ _ c.lacks_room.ensures c.if-lacks_room.false in
    renamed _ (eight_part a.tape.now a.at a.marker r) (refused _ _ (omega (arith, length_between a.tape.now a.at 8 r)))

pub returns : goal.returns
returns c =
    let a = c.args in
    let r = has _ _ _ c.lacks_room.ensures c.if-lacks_room.false in
    let n = length_between a.tape.now a.at 8 r in
    let w = c.write_bytes.ensures in
    renamed _ (eight_part a.tape.now a.at a.marker r) (written _ _ (omega arith) (omega arith) (omega arith) w)
