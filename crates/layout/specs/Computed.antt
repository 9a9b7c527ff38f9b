-- What the computed cases unfold, by one name: `unfolding computed` opens all of it. A definition that a case goes through is added here.
use Rattle.object.specs.Computed as object
use Rattle.layout.specs.Bytes
use Rattle.layout.specs.Frame
use Rattle.layout.specs.Layout
use Rattle.layout.specs.Listed
use Rattle.layout.specs.Looked
use Rattle.layout.specs.References
use Rattle.layout.specs.Trailer

unfoldable pub computed : Unit {0}
unfolding object.computed
    Bytes.data_asked Bytes.text_asked Bytes.scalar_asked Bytes.start_asked Bytes.end_asked Bytes.found_asked Bytes.event_asked Bytes.has_bytes
    Frame.next_in
    Layout.number_at Layout.entry_at Layout.place_in Layout.given Layout.due_at Layout.in_array Layout.in_dictionary Layout.due_in Layout.stands_from
    Layout.stands_at Layout.kept_from Layout.stands_in Layout.due_of Layout.look_in Layout.look_from Layout.look_of Layout.source_of
    Listed.is_entry Listed.is_listed
    Looked.start_of
    References.row References.in_turn References.entries_in References.number_in References.references References.entries_of References.references_of
    Trailer.begins Trailer.eight_at Trailer.table_of Trailer.ref_size_of Trailer.sizes_of Trailer.trailer_of
computed = tt
