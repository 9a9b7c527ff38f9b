-- `put_headed` writes the head, then the bytes, where there is room for both.
use mathlib.Core.Path.{◌∙◌}
use Prim.Native.Nat.{◌+◌, ◌<◌}
use native.Mathlib.Omega.{arith}
use lib.ListN.{length}
use Rattle.tape.proofs.Tests.{lacks, has}
use Rattle.encode.specs.Put.{base_of}
use Rattle.encode.specs.SizeLaws.{head_some}
use Rattle.encode.proofs.Heads.{headed_length, headed_sets}
use Rattle.encode.proofs.Putting.{refused, written}
use Rattle.encode.proofs.put.put_headed.Goals as goal

pub returns-then-lacks_room : goal.returns-then-lacks_room
returns-then-lacks_room c =
    let a = c.args in
    let l : length a.out.now < c.head_size.result + length a.bytes.now = lacks _ _ _ c.lacks_room.ensures c.if-lacks_room.true in
    refused _ _ (omega (arith, c.head_size.ensures, headed_length (base_of a.base) a.bytes.now))

pub returns : goal.returns
returns c =
    let a = c.args in
    let s = a.bytes.now in
    let n = headed_length (base_of a.base) s in
    let w = c.write_bytes.ensures in
    written _ _ (omega (arith, head_some (length s))) (omega (arith, has _ _ _ c.lacks_room.ensures c.if-lacks_room.false, c.head_size.ensures)) (omega (arith, c.write_head-start.ensures.value)) (w ∙ rw (c.write_head-start.ensures.value, c.write_head-start.ensures.out_after) (headed_sets (base_of a.base) s a.out.now))
