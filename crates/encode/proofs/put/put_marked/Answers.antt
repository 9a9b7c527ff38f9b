-- `put_marked` writes the marker and the number, where there is room.
use native.Mathlib.Omega.{arith}
use Rattle.number.specs.BeLaws.{length_bytes_of}
use Rattle.encode.proofs.Putting.{refused, written}
use Rattle.encode.proofs.put.put_marked.Goals as goal

pub returns-then-out-size : goal.returns-then-out-size
returns-then-out-size c =
    let a = c.args in
    refused _ _ (omega (arith, length_bytes_of a.size a.n))

pub returns : goal.returns
returns c =
    let a = c.args in
    let n = length_bytes_of a.size a.n in
    written _ _ (omega arith) (omega arith) (omega (arith, c.write_number.ensures.value)) c.write_number.ensures.out_after
