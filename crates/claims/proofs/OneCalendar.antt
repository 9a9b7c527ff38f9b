-- Each contract of the calendar's public functions leaves one answer, and one content of all lent memory.
use mathlib.Core.Path.{refl, sym, ◌∙◌}
use lib.IntN.{ℤ}
use Rattle.calendar.specs.DateLaws.{dated_said_one, seconds_said_one}
use Rattle.calendar.specs.declared.Time.{Time}
use Rattle.calendar.proofs.calendar_of.Kinds as calendar-of-kinds
use Rattle.calendar.proofs.calendar_of.Reads as calendar-of-reads
use Rattle.calendar.proofs.seconds_of.Kinds as seconds-of-kinds
use Rattle.calendar.proofs.seconds_of.Reads as seconds-of-reads
use Rattle.exports.proofs.date.zm_calendar.Kinds as zm-calendar-kinds
use Rattle.exports.proofs.date.zm_calendar.Reads as zm-calendar-reads
use Rattle.exports.proofs.date.zm_seconds.Kinds as zm-seconds-kinds
use Rattle.exports.proofs.date.zm_seconds.Reads as zm-seconds-reads
use Rattle.reader.proofs.One.{One}

calendar_of_one : One 0 calendar-of-kinds.ps calendar-of-kinds.r calendar-of-reads.Post (Unit {0}) (λ κs e. tt)
calendar_of_one κs a x y e f p q = (dated_said_one x y (p ∙ sym q), refl)

seconds_of_one : One 0 seconds-of-kinds.ps seconds-of-kinds.r seconds-of-reads.Post (Unit {0}) (λ κs e. tt)
seconds_of_one κs a x y e f p q = (seconds_said_one x y (p ∙ sym q), refl)

-- the six fields stand in one record
zm_calendar_one : One 6 zm-calendar-kinds.ps zm-calendar-kinds.r zm-calendar-reads.Post Time (λ κs e. record { year = e.1.0.now; month = e.1.1.0.now; day = e.1.1.1.0.now; hour = e.1.1.1.1.0.now; minute = e.1.1.1.1.1.0.now; second = e.1.1.1.1.1.1.0.now })
zm_calendar_one κs a x y e f p q = (
  p.0 ∙ sym q.0,
  rw (p.1.0 ∙ sym q.1.0, p.1.1.0 ∙ sym q.1.1.0, p.1.1.1.0 ∙ sym q.1.1.1.0, p.1.1.1.1.0 ∙ sym q.1.1.1.1.0, p.1.1.1.1.1.0 ∙ sym q.1.1.1.1.1.0, p.1.1.1.1.1.1 ∙ sym q.1.1.1.1.1.1),
)

zm_seconds_one : One 1 zm-seconds-kinds.ps zm-seconds-kinds.r zm-seconds-reads.Post ℤ (λ κs e. e.1.1.1.1.1.1.0.now)
zm_seconds_one κs a x y e f p q = (p.0 ∙ sym q.0, p.1 ∙ sym q.1)
