-- `zm_calendar` hands on the day and time field by field.
use mathlib.Core.Path.{ap, ◌∙◌}
use Rattle.calendar.specs.declared.Time.{Time}
use Rattle.exports.specs.Date.{said_number, time_for}
use Rattle.exports.proofs.date.zm_calendar.Goals as goal

pub returns : goal.returns
returns c =
    let e = c.calendar_of-dated.ensures in
    let t = c.time_for-time.ensures ∙ ap time_for e in
    (record { value = c.dated_number.ensures ∙ ap said_number e; year_after = ap (λ (x : Time). x.year) t; month_after = ap (λ (x : Time). x.month) t; day_after = ap (λ (x : Time). x.day) t; hour_after = ap (λ (x : Time). x.hour) t; minute_after = ap (λ (x : Time). x.minute) t; second_after = ap (λ (x : Time). x.second) t })
