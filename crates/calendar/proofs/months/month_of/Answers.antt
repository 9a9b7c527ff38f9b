-- `month_of` counts months off: what is left to count gives the same place each turn.
use Rattle.std.proofs.Common.{◌≡◌, ◌∙◌, ◌+◌, ◌-◌, suc, sym, arith}
use Rattle.calendar.specs.Calendar.{days_in_month}
use Rattle.calendar.specs.Count.{count_off}
use Rattle.calendar.specs.CountLaws.{count_here, count_next}
use Rattle.calendar.proofs.months.month_of.Goals as goal

pub returns-then-rest-size : goal.returns-then-rest-size
returns-then-rest-size c =
    let l = c.loop-month in
    let s = days_in_month c.args.year in
    sym (count_here s (12 - l.month) l.month l.rest (rw c.days_in_month-size.ensures at c.if-rest-size.true)) ∙ l.invariant

pub loop-month-preserved : goal.loop-month-preserved
loop-month-preserved c =
    let l = c.loop-month in
    let s = days_in_month c.args.year in
    let e = c.days_in_month-size.ensures in
    let k : 12 - l.month ≡ suc (12 - (l.month + 1)) = omega arith in
    rw e (sym (rw k (count_next s (12 - (l.month + 1)) l.month l.rest (rw e at c.if-rest-size.false))) ∙ l.invariant)

pub returns : goal.returns
unfolding count_off
returns c =
    let l = c.loop-month in
    let k : l.month ≡ 12 = omega arith in
    rw k at l.invariant
