-- `seconds_since_one` adds up days and the seconds of the last one, none of which passes its type.
use native.Mathlib.Omega.{arith}
use Rattle.calendar.specs.Calendar.{seconds_since_one, days_since_one, clock_of}
use Rattle.calendar.specs.TimeLaws.{IsTime, time_says}
use Rattle.calendar.proofs.Fit.{Sums, sums}
use Rattle.calendar.proofs.seconds_since_one.Goals as goal
use Rattle.calendar.proofs.seconds_since_one.Lts as lts
use Rattle.calendar.proofs.seconds_since_one.Reads as reads
use Rattle.calendar.proofs.seconds_since_one.Tie as tie

-- what the fields are, and how large the sum of days is
fields : (c : lts.Start tie.the-claims reads.Pre reads.Post) → IsTime c.args.time
fields c = time_says c.args.time c.requires

days : (c : lts.After-days_before_month tie.the-claims reads.Pre reads.Post) → Sums c.args.time c.days_before_year.result c.days_before_month.result
days c = sums c.args.time _ _ c.requires c.days_before_year.ensures c.days_before_month.ensures

pub days_before_year-requires : goal.days_before_year-requires
days_before_year-requires c = (fields c).year_to

pub days_before_month-requires : goal.days_before_month-requires
days_before_month-requires c = (fields c.before).month_to

pub overflow_add-days : goal.overflow_add-days
overflow_add-days c =
    let s = days c in
    omega arith

pub overflow_sub-days : goal.overflow_sub-days
overflow_sub-days c = (days c.before).day

pub overflow_add-days-2 : goal.overflow_add-days-2
overflow_add-days-2 c =
    let s = days c.before in
    omega arith

pub overflow_mul-clock : goal.overflow_mul-clock
overflow_mul-clock c =
    let s = days c.before.before in
    omega arith

pub overflow_mul-clock-2 : goal.overflow_mul-clock-2
overflow_mul-clock-2 c =
    let s = days c.before.before.before in
    omega arith

pub overflow_add-clock : goal.overflow_add-clock
overflow_add-clock c =
    let s = days c.before.before.before in
    omega arith

pub overflow_add-clock-2 : goal.overflow_add-clock-2
overflow_add-clock-2 c =
    let s = days c.before.before.before.before in
    omega arith

pub returns : goal.returns
unfolding seconds_since_one days_since_one clock_of
returns c = rw (c.days_before_year.ensures, c.days_before_month.ensures)
