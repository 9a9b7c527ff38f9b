-- What an ending's numbers unfold, by one name.
use Rattle.plainly.specs.Said
use Rattle.exports_plain.specs.Plain

unfoldable pub ended : Unit {0}
unfolding Plain.end_code Plain.end_place Plain.end_marker Said.ending_said
ended = tt
