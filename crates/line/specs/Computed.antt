-- What computed lines unfold, by one name.
use Rattle.std.specs.Float.Ieee
use Rattle.number.specs.Be
use Rattle.calendar.specs.Calendar
use Rattle.calendar.specs.Count
use Rattle.calendar.specs.Date
use Rattle.calendar.specs.Floor
use Rattle.digits.specs.Computed as digits
use Rattle.line.specs.Line
use Rattle.line.specs.Put

unfoldable pub computed : Unit {0}
unfolding digits.computed Be.bytes_of
    Calendar.is_leap Calendar.days_in_year Calendar.days_in_month Calendar.time_since_one Count.count_off
    Date.since_whole Date.since_floor Date.since_of Date.time_since Date.calendar_of
    Floor.ceiling Floor.floor_fraction Floor.floor_of Floor.floor_of_bits Ieee.of_bits
    Line.hex_digit Line.hex Line.tail Line.spaced Line.row Line.ended Line.length_given Line.truth Line.dated Line.date_row Line.row_of Line.line_of Line.refusal_line
    Line.labelled Line.origin_of Line.trace_of
    Put.fixed_line
computed = tt
