-- Member by member; what is marked from the start is marked by what is left.
use Rattle.std.proofs.Common.{length, sym, ap, ◌∙◌, arith}
use Rattle.writer.specs.MarksLaws.{new_length}
use Rattle.writer.specs.PathLaws.{walk_start, walk_done, walk_turn, walk_less, walk_further}
use Rattle.writer.proofs.assign.assign_each.Goals as goal

pub loop-i-init : goal.loop-i-init
loop-i-init c =
    let p = c.requires in
    walk_start p.1.0 p.0 p.1.1 p.1.2

pub word-rep-requires : goal.word-rep-requires
word-rep-requires c = let t = walk_turn c.loop-i.invariant c.loop-i-test.true in omega (arith, c.named.ensures, t.sided, c.loop-i.invariant.long)

pub mark-k-requires : goal.mark-k-requires
mark-k-requires c =
    let o = c.loop-i.invariant in
    let t = walk_turn o c.loop-i-test.true in
    (rw (c.word-rep.ensures.0, c.named.ensures) (omega (arith, t.under, o.long)), omega (arith, o.few, ap length t.left_is))

pub word-i-requires : goal.word-i-requires
word-i-requires c =
    let t = walk_turn c.loop-i.invariant c.loop-i-test.true in
    rw (c.mark-k.ensures.0, new_length) (omega (arith, c.last.ensures, t.paired, c.loop-i.invariant.long))

pub loop-i-smaller : goal.loop-i-smaller
loop-i-smaller c =
    let l = c.loop-i in
    let h = c.loop-i-test.true in
    let rep = rw c.named.ensures at c.word-rep.ensures.0 in
    let next = rw c.last.ensures at c.word-i.ensures.0 in
    omega (arith, h, walk_less l.invariant h rep c.mark-k.ensures.0 c.mark-k.ensures.1 next)

pub loop-i-preserved : goal.loop-i-preserved
loop-i-preserved c =
    let rep = rw c.named.ensures at c.word-rep.ensures.0 in
    let next = rw c.last.ensures at c.word-i.ensures.0 in
    walk_further c.loop-i.invariant c.loop-i-test.true rep c.mark-k.ensures.0 c.mark-k.ensures.1 next

pub shape_of-work : goal.shape_of-work
shape_of-work c = c.loop-i.invariant.long ∙ sym c.requires.0

pub returns : goal.returns
returns c = walk_done c.loop-i.invariant c.loop-i-test.false
