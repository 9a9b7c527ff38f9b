-- `days_before_year` is the sum of the years: 365 days each, and the leap days by three quotients.
use Rattle.std.proofs.Common.{◌-◌}
use Rattle.calendar.specs.Calendar.{days_before_year}
use Rattle.calendar.specs.YearLaws.{years_sum}
use Rattle.calendar.proofs.days.days_before_year.Goals as goal

pub returns : goal.returns
unfolding days_before_year
returns c = rw c.saturating_sub-n.ensures (years_sum (c.args.year - 1))
