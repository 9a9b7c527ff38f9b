-- `are_plain`: what was seen, and what is left, decide.
use Rattle.std.proofs.Common.{◌∙◌, arith, drop_of_length-le}
use mathlib.Core.Bool.{and-true, and_assoc}
use Rattle.utf.specs.Unicode.{is_ascii}
use Rattle.utf.specs.Bounds.{below_all}
use Rattle.utf.specs.Left.{left_at}
use Rattle.utf.specs.PlainLaws.{tops_ascii}
use Rattle.utf.proofs.plain.are_plain.Goals as goal

pub returns-in-Some : goal.returns-in-Some
returns-in-Some c =
    let part = c.args.part.now in
    let w = c.in-Some.ensures.cases in
    rw (c.top_bits.ensures, w.same) (rw w.long at (tops_ascii part (below_all 256 part (λ i. omega (arith, c.type_inv.part i)))))

pub loop-byte-preserved : goal.loop-byte-preserved
unfolding is_ascii
loop-byte-preserved c =
    let l = c.loop-byte in
    and_assoc l.plain _ _ ∙ rw (left_at c.args.part.now l.byte-index c.loop-byte-test.true) at l.invariant

pub returns : goal.returns
unfolding is_ascii
returns c = rw (drop_of_length-le c.args.part.now c.loop-byte-test.false, and-true) at c.loop-byte.invariant
