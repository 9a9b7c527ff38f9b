-- `calendar_of` answers the time of the seconds since year one, or that there are none in the range.
use mathlib.Core.Path.{sym, ap, ◌∙◌}
use Rattle.calendar.specs.Date.{gives, time_since, calendar_of, dated_said}
use Rattle.calendar.specs.RangeLaws.{since_range}
use Rattle.calendar.proofs.calendar_of.Goals as goal

pub returns-in_err-seconds : goal.returns-in_err-seconds
unfolding calendar_of time_since dated_said
returns-in_err-seconds c = rw (sym c.since_of.ensures ∙ c.in_err-seconds.was, c.from_residual.ensures)

pub time_since_one-requires : goal.time_since_one-requires
time_since_one-requires c =
    let n = c.in_ok-seconds.seconds in
    since_range c.args.bits n (sym c.since_of.ensures ∙ c.in_ok-seconds.was)

pub returns : goal.returns
unfolding calendar_of time_since dated_said
returns c =
    rw (sym c.since_of.ensures ∙ c.in_ok-seconds.was) (ap gives c.time_since_one.ensures)
