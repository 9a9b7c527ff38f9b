-- `time_since_one` counts off as the definition does, its year found by cycles.
use Prim.Native.Nat.{◌/◌, ◌≤◌}
use native.Mathlib.Omega.{arith}
use Rattle.calendar.specs.Calendar.{days_in_year, days_in_month, time_since_one}
use Rattle.calendar.specs.CountLaws.{rest_most}
use Rattle.calendar.proofs.time_since_one.Goals as goal

pub overflow_add-result : goal.overflow_add-result
overflow_add-result c =
    let n = c.args.seconds / 86400 in
    let y = c.year_of-year.result in
    let m = c.month_of-month.result in
    let p : y.rest ≤ n = rw c.year_of-year.ensures (rest_most days_in_year 9998 1 n) in
    let q : m.rest ≤ y.rest = rw c.month_of-month.ensures (rest_most (days_in_month y.part) 11 1 y.rest) in
    omega arith

pub returns : goal.returns
unfolding time_since_one
returns c =
    let y = c.year_of-year.ensures in
    let m = c.month_of-month.ensures in
    rw (m, y)
