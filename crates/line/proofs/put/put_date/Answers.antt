-- `put_date` puts the day and time that the calendar gives, or the bits.
use mathlib.Core.Path.{sym, ap, ◌∙◌}
use Rattle.calendar.specs.Date.{dated_said}
use Rattle.line.specs.Line.{date_row, dated}
use Rattle.line.specs.Piece.{numeral_of}
use Rattle.line.proofs.put.put_date.Goals as goal

pub returns-in_default : goal.returns-in_default
unfolding dated_said date_row dated
returns-in_default c =
    let e = sym c.calendar_of.ensures ∙ ap dated_said c.in_default.is in
    rw e c.put_bits.ensures

pub returns : goal.returns
unfolding dated_said date_row dated numeral_of
returns c =
    let e = sym c.calendar_of.ensures ∙ ap dated_said c.in-Some.is in
    rw e c.put_row.ensures
