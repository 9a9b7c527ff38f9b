-- `days_before_month` adds up the months one by one.
use Rattle.std.proofs.Common.{◌≡◌, ◌-◌, ◌*◌, ◌≤◌, max}
use Rattle.calendar.specs.Calendar.{days_in_month}
use Rattle.calendar.specs.Count.{total}
use Rattle.calendar.proofs.months.days_before_month.Given as goal

abbrev pub invariant-loop-before : goal.invariant-loop-before
invariant-loop-before l = (l.before ≤ max 1 l.month) × (l.days ≤ 31 * l.before) × (l.days ≡ total (days_in_month l.year) (l.before - 1))
