-- `month_of` counts months off: what is left to count gives the same place each turn.
use Rattle.std.proofs.Common.{◌≡◌, ◌-◌}
use Rattle.calendar.specs.Calendar.{days_in_month}
use Rattle.calendar.specs.Count.{count_off}
use Rattle.calendar.proofs.months.month_of.Given as goal

abbrev pub invariant-loop-month : goal.invariant-loop-month
invariant-loop-month l = count_off (days_in_month l.year) (12 - l.month) l.month l.rest ≡ count_off (days_in_month l.year) 11 1 l.days
