-- Reference by reference.
use Rattle.std.proofs.Common.{arith}
use Rattle.writer.proofs.Numbers.{rest_start, going_met, going_fits, going_turn, going_done}
use Rattle.writer.proofs.put.put_each.Goals as goal

pub loop-i-init : goal.loop-i-init
loop-i-init c =
    λ ks e. record { left = ks; way = e.refs; rest = rest_start c.args.out.now c.args.from c.args.width ks }

pub word-rep-requires : goal.word-rep-requires
word-rep-requires c = let m = going_met (c.loop-i.invariant _ c.requires.1) c.loop-i-test.true in omega (arith, c.named.ensures, c.requires.1.long, m.sided)

pub number_of-requires : goal.number_of-requires
number_of-requires c =
    let m = going_met (c.loop-i.invariant _ c.requires.1) c.loop-i-test.true in
    rw (c.word-rep.ensures.0, c.named.ensures) (c.requires.1.long, m.under, omega (arith, m.is))

pub put_at-pos-requires : goal.put_at-pos-requires
put_at-pos-requires c = going_fits (c.loop-i.invariant _ c.requires.1) c.loop-i-test.true c.requires.1.room

pub word-i-requires : goal.word-i-requires
word-i-requires c = let m = going_met (c.loop-i.invariant _ c.requires.1) c.loop-i-test.true in omega (arith, c.last.ensures, c.requires.1.long, m.paired)

pub loop-i-smaller : goal.loop-i-smaller
loop-i-smaller c = let m = going_met (c.loop-i.invariant _ c.requires.1) c.loop-i-test.true in rw (c.word-i.ensures.0, c.last.ensures) (omega (arith, c.loop-i-test.true, m.above))

pub loop-i-preserved : goal.loop-i-preserved
loop-i-preserved c =
    λ ks e.
    let p = c.put_at-pos.ensures in
    rw (c.word-i.ensures.0, c.last.ensures, p.0, p.1)
    (going_turn (c.loop-i.invariant ks e) c.loop-i-test.true (rw (c.word-rep.ensures.0, c.named.ensures) at c.number_of.ensures))

pub shape_of-out : goal.shape_of-out
shape_of-out c = (c.loop-i.invariant _ c.requires.1).rest.long

pub returns : goal.returns
returns c = λ ks e. going_done (c.loop-i.invariant ks e) c.loop-i-test.false
