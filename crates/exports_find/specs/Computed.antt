-- What an answer's numbers unfold, by one name.
use Rattle.exports.specs.Write
use Rattle.exports_find.specs.Find
use Rattle.lookup.specs.Find as lookup

unfoldable pub found : Unit {0}
unfolding Find.find_code Find.find_start Find.find_length Find.find_expected Find.find_found lookup.found_said lookup.part_said Write.first_number Write.second_number
found = tt
