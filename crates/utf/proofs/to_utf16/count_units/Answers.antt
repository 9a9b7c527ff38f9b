-- `count_units`: what is counted and what is left make the whole.
use Rattle.std.proofs.Common.{arith}
use Rattle.utf.specs.ToUtf16Walk.{units_next, units_none, units_few}
use Rattle.utf.proofs.to_utf16.count_units.Goals as goal

pub overflow_add-count : goal.overflow_add-count
overflow_add-count c =
    omega (arith, c.units_of-count.ensures, units_next _ _ _ c.in-Some.ensures.value, units_few c.args.s.now, c.loop-value.invariant, c.well_formed.0.1)

pub loop-value-preserved : goal.loop-value-preserved
loop-value-preserved c = omega (arith, c.units_of-count.ensures, units_next _ _ _ c.in-Some.ensures.value, c.loop-value.invariant)

pub returns : goal.returns
returns c = omega (arith, units_none c.loop-value.rest.now c.in_default.ensures, c.loop-value.invariant)
