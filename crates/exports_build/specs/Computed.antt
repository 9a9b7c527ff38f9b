-- What an answer's numbers unfold, by one name.
use Rattle.builder.specs.Build as builder
use Rattle.exports.specs.Write
use Rattle.exports_build.specs.Build

unfoldable pub answered : Unit {0}
unfolding Build.numbers_by builder.answer_said Write.first_number Write.second_number
answered = tt
