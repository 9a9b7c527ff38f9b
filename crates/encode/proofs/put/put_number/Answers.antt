-- `put_number` writes the number, where there is room.
use native.Mathlib.Omega.{arith}
use Rattle.number.specs.BeLaws.{length_bytes_of}
use Rattle.encode.proofs.Putting.{none_put, all_put, said}
use Rattle.encode.proofs.put.put_number.Goals as goal

pub returns-then-out-size : goal.returns-then-out-size
returns-then-out-size c =
    let a = c.args in
    said 0 (none_put _ _ (omega (arith, length_bytes_of a.size a.n)))

pub returns : goal.returns
returns c =
    let a = c.args in
    let n = length_bytes_of a.size a.n in
    said 0 (all_put _ _ (omega arith) (omega (arith, c.write_number.ensures.value)) c.write_number.ensures.out_after)
