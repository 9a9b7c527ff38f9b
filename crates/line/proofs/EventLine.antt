-- What the line of an event unfolds, by one name.
use Rattle.event.specs.Meaning
use Rattle.line.specs.Line
use Rattle.line.specs.Piece
use Rattle.line.specs.Put

unfoldable pub opened : Unit {0}
unfolding Put.event_line Line.row_of Line.truth Piece.numeral_of Meaning.meaning_of
opened = tt
