-- `days_before_month` adds up the months one by one.
use Rattle.std.proofs.Common.{ℕ, ◌≡◌, ◌∙◌, ◌-◌, refl, sym, ap, arith}
use Rattle.calendar.specs.Calendar.{days_in_month, days_before_month}
use Rattle.calendar.specs.Count.{total}
use Rattle.calendar.specs.CountLaws.{total_next}
use Rattle.calendar.specs.MonthLaws.{month_most}
use Rattle.calendar.proofs.months.days_before_month.Goals as goal

pub loop-before-init : goal.loop-before-init
unfolding total
loop-before-init c = (omega arith, omega arith, refl)

pub overflow_add-days : goal.overflow_add-days
overflow_add-days c =
    omega (arith, c.days_in_month-days.ensures, month_most c.args.year c.loop-before.before)

pub loop-before-preserved : goal.loop-before-preserved
loop-before-preserved c =
    let a = c.args in
    let i = c.loop-before.before in
    let e = c.days_in_month-days.ensures in
    (omega arith, omega (arith, e, month_most a.year i), rw (e, c.loop-before.invariant.2) (sym (total_next (days_in_month a.year) i (omega arith))))

pub returns : goal.returns
unfolding days_before_month
returns c =
    let a = c.args in
    c.loop-before.invariant.2 ∙ ap (λ (n : ℕ). total (days_in_month a.year) n) (let e : c.loop-before.before - 1 ≡ a.month - 1 = omega arith in e)
