-- What an answer's numbers unfold, by one name.
use Rattle.exports.specs.Computed as exports
use Rattle.exports_xml.specs.Xml
use Rattle.xml.specs.Said

unfoldable pub answered : Unit {0}
unfolding exports.written Xml.as_written Said.answer_said
answered = tt
