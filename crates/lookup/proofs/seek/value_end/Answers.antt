-- `value_end`: every turn takes one event of the value.
use native.Mathlib.Omega.{arith}
use Rattle.lookup.proofs.Walking.{walk_first, walk_over, walk_on, walk_end, walk_again}
use Rattle.lookup.proofs.seek.value_end.Goals as goal

pub loop-at-init : goal.loop-at-init
loop-at-init c = walk_first c.requires

pub deeper-depth-requires : goal.deeper-depth-requires
deeper-depth-requires c = let f = c.loop-at.invariant.few in omega (arith, f, c.loop-at-test.true)

pub returns-then-depth-eq0 : goal.returns-then-depth-eq0
returns-then-depth-eq0 c =
    walk_end c.loop-at.invariant c.loop-at-test.true c.place_after-at.ensures c.deeper-depth.ensures c.if-depth-eq0.true

pub loop-at-smaller : goal.loop-at-smaller
loop-at-smaller c =
    let w = walk_on c.loop-at.invariant c.loop-at-test.true c.place_after-at.ensures in
    omega (arith, w.0, w.1)

pub loop-at-preserved : goal.loop-at-preserved
loop-at-preserved c =
    walk_again c.loop-at.invariant c.loop-at-test.true c.place_after-at.ensures c.deeper-depth.ensures c.if-depth-eq0.false

pub returns : goal.returns
returns c = walk_over c.loop-at.invariant c.loop-at-test.false
