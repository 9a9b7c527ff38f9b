-- `year_of` finds the year by cycles that counting off finds.
use Rattle.calendar.proofs.Fit.{part_fits, whole_fits, next_fits}
use Rattle.calendar.specs.YearLaws.{year_small, year_cut}
use Prim.Native.Nat.{◌+◌, ◌*◌, ◌-◌, ◌/◌, ◌%◌, ◌<◌}
use Rattle.calendar.proofs.days.year_of.Goals as goal

small : (c : goal.After-min-ones) → 400 * (c.args.days / 146_097) + 100 * c.min-hundreds.result + 4 * ((c.args.days % 146_097 - 36_524 * c.min-hundreds.result) / 1461) + c.min-ones.result < 10000
small c = year_small c.args.days c.min-hundreds.result c.min-ones.result c.requires c.min-hundreds.ensures c.min-ones.ensures

pub overflow_add-result-2 : goal.overflow_add-result-2
overflow_add-result-2 c = part_fits _ _ (small c)

pub overflow_add-result-3 : goal.overflow_add-result-3
overflow_add-result-3 c = whole_fits _ (small c)

pub overflow_add-result-4 : goal.overflow_add-result-4
overflow_add-result-4 c = next_fits _ (small c)

pub returns : goal.returns
returns c = year_cut c.args.days c.min-hundreds.result c.min-ones.result c.requires c.min-hundreds.ensures c.min-ones.ensures
