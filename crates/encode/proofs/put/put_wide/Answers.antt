-- `put_wide` writes the marker and both halves, where there is room.
use mathlib.Core.Path.{◌∙◌}
use native.Mathlib.Omega.{arith}
use lib.ListN.{set}
use Rattle.number.specs.BeLaws.{length_bytes_of}
use Rattle.encode.proofs.Putting.{refused, written, wide_sets}
use Rattle.encode.proofs.put.put_wide.Goals as goal

pub returns-then-out-lt17 : goal.returns-then-out-lt17
returns-then-out-lt17 c = refused _ _ (omega (arith, length_bytes_of 16 c.args.n))

pub returns : goal.returns
returns c =
    let a = c.args in
    let n = length_bytes_of 16 a.n in
    written _ _ (omega arith) (omega arith) (omega (arith, c.write_between-2.ensures.value)) (c.write_between-2.ensures.out_after ∙ rw c.write_between.ensures.out_after (wide_sets (set a.out.now 0 0x14) 1 a.n (omega arith)))
