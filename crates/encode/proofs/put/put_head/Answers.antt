-- `put_head` writes the head, where there is room.
use native.Mathlib.Omega.{arith}
use Rattle.encode.specs.Put.{base_of}
use Rattle.encode.specs.SizeLaws.{length_head}
use Rattle.encode.proofs.Putting.{none_put, all_put, said}
use Rattle.encode.proofs.put.put_head.Goals as goal

pub returns-then-out-head_size : goal.returns-then-out-head_size
returns-then-out-head_size c =
    let a = c.args in
    said 0 (none_put _ _ (omega (arith, c.head_size.ensures, length_head (base_of a.base) a.length)))

pub returns : goal.returns
returns c =
    let a = c.args in
    let n = length_head (base_of a.base) a.length in
    said 0 (all_put _ _ (omega (arith, c.head_size.ensures)) (omega (arith, c.write_head.ensures.value)) c.write_head.ensures.out_after)
