-- `units_in`: what is counted and what is left make the whole. No slice is as long as 2 ^ 63, so twice its length fits.
use Rattle.std.proofs.Common.{◌≡◌, ◌∙◌, ◌+◌, ℕ, List, sym, ap, arith, take, drop, take-append-drop}
use Rattle.utf.specs.ToUtf16.{units_in}
use Rattle.utf.specs.ToUtf16Walk.{units_le, units_append}
use Rattle.utf.proofs.unchecked.units_in.Goals as goal

-- what 64 bytes add, and what is left behind them
more : (rest part behind : List ℕ) (n : ℕ) → part ≡ take 64 rest → behind ≡ drop 64 rest → n ≡ units_in part → units_in rest ≡ n + units_in behind
more rest part behind n p q e = rw (e, p, q) (sym (ap units_in (take-append-drop 64 rest)) ∙ units_append (take 64 rest) (drop 64 rest))

pub overflow_add-count : goal.overflow_add-count
overflow_add-count c =
    let p = c.in-Some.ensures.cases in
    omega (arith, more _ _ _ _ p.0 p.1 c.few_units.ensures, units_le c.args.s.now, c.loop-part.invariant, c.well_formed.0.1)

pub loop-part-preserved : goal.loop-part-preserved
loop-part-preserved c =
    let p = c.in-Some.ensures.cases in
    omega (arith, more _ _ _ _ p.0 p.1 c.few_units.ensures, c.loop-part.invariant)

pub overflow_add-result : goal.overflow_add-result
overflow_add-result c = omega (arith, c.few_units-2.ensures, units_le c.args.s.now, c.loop-part.invariant, c.well_formed.0.1)
