-- What computed XML unfolds, by one name.
use Rattle.radix64.specs.Computed as base64
use Rattle.calendar.specs.Calendar
use Rattle.calendar.specs.Count
use Rattle.calendar.specs.Date
use Rattle.calendar.specs.Floor
use Rattle.digits.specs.Computed as digits
use Rattle.event.specs.Unmeasured
use Rattle.grammar.specs.Computed as grammar
use Rattle.tape.specs.Code
use Rattle.tape.specs.Events
use Rattle.tape.specs.Seven
use Rattle.utf.specs.Unicode
use Rattle.xml.specs.Shown
use Rattle.xml.specs.Words
use Rattle.xml.specs.Write
use Rattle.xml.specs.Xml

unfoldable pub computed : Unit {0}
unfolding base64.computed digits.computed grammar.computed
    Calendar.is_leap Calendar.days_in_year Calendar.days_in_month Calendar.time_since_one Count.count_off
    Date.since_whole Date.since_floor Date.since_of Date.time_since Date.calendar_of
    Floor.ceiling Floor.floor_fraction Floor.floor_of Floor.floor_of_bits
    Code.bytes_for Events.meant_by Events.meanings_in Seven.groups Seven.seven Unmeasured.unmeasured
    Unicode.scalars8 Unicode.scalars_from
    Shown.shown_of
    Words.declaration Words.doctype Words.plist Words.header Words.footer
    Write.is_char Write.all_chars Write.date_bar Write.bar_of Write.by_events Write.by_check Write.measured_of Write.in_room Write.answer_of
    Xml.start_tag Xml.end_tag Xml.empty_tag Xml.entity Xml.line Xml.element Xml.escape_of Xml.escape Xml.day_of Xml.truth Xml.is_key Xml.closed
    Xml.worded Xml.line_for Xml.lines_from Xml.xml_of
computed = tt
