-- What the computed cases unfold, by one name: `unfolding computed` opens all of it. A definition that a case goes through is added here.
use Rattle.number.specs.Computed as number
use Rattle.utf.specs.Computed as unicode
use Rattle.event.specs.Computed as event
use Rattle.tape.specs.Append
use Rattle.tape.specs.Code
use Rattle.tape.specs.Events
use Rattle.tape.specs.Item
use Rattle.tape.specs.Seven
use Rattle.tape.specs.Value

unfoldable pub computed : Unit {0}
unfolding number.computed unicode.computed event.computed
    Append.fits Append.put_of Append.put_to Append.append_of Append.append_to
    Code.bytes_for Code.allowed
    Events.before Events.events_from Events.events_of Events.tape_of Events.meant_by Events.meanings_in
    Item.plain Item.numbered Item.negative Item.date_in Item.bytes_at Item.data_in Item.text_in Item.of_kind Item.item_at Item.meaning_in
    Item.reading_of Item.read_at
    Seven.groups Seven.seven
    Value.onto Value.number_from Value.number_at Value.eight_at
computed = tt
