-- What the computed cases unfold, by one name: `unfolding computed` opens all of it. A definition that a case goes through is added here.
use Rattle.tape.specs.Computed as tape
use Rattle.written.specs.Encoding
use Rattle.written.specs.File
use Rattle.written.specs.Graph
use Rattle.written.specs.Nub
use Rattle.written.specs.Shape

unfoldable pub computed : Unit {0}
unfolding tape.computed
    Encoding.size_marker Encoding.number_bytes Encoding.integer_bytes Encoding.nibble_of Encoding.head_bytes Encoding.text_bytes Encoding.scalar_bytes
    Encoding.numbers_bytes Encoding.object_bytes Encoding.trailer_bytes
    File.flat File.ahead File.ref_size File.bytes_at File.body File.place_of File.table_at File.offset_size File.table File.file_of File.file_for
    Graph.piece_of Graph.same_bytes Graph.same Graph.kids Graph.evens Graph.odds Graph.laid Graph.names Graph.order Graph.number Graph.meaning_in
    Graph.meant Graph.body_of Graph.object_of Graph.spoken Graph.emission
    Nub.has Nub.nub Nub.nub_onto Nub.index_of
    Shape.is_text Shape.fits Shape.whole
computed = tt
