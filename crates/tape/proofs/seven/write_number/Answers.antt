-- `write_number` writes the groups: what is still to be written, from `i` on, is what was to be written.
use mathlib.Core.Path.{ap}
use native.Mathlib.Numerals.{add-one}
use native.Mathlib.Omega.{arith}
use lib.ListN.{length, length-set}
use Rattle.tape.specs.SevenLaws.{seven_last, seven_more, seven_some}
use Rattle.tape.proofs.seven.write_number.Goals as goal

pub bounds-tape-i : goal.bounds-tape-i
bounds-tape-i c = omega (arith, seven_some c.loop-left.left)

pub loop-left-preserved : goal.loop-left-preserved
loop-left-preserved c =
    let l = c.loop-left in
    let s = seven_more l.left c.loop-left-test.true l.invariant.0 in
    (omega arith, simp length-set l.invariant.1, omega (arith, ap length s, l.invariant.2), rw add-one (rw s at l.invariant.3))

pub bounds-tape-i-2 : goal.bounds-tape-i-2
bounds-tape-i-2 c = omega (arith, seven_some c.loop-left.left)

pub returns : goal.returns
returns c =
    let l = c.loop-left in
    let s = seven_last l.left c.loop-left-test.false in
    (record { value = omega (arith, ap length s, l.invariant.2); tape_after = rw s at l.invariant.3 })
