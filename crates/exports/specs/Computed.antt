-- What the answers' numbers unfold, by one name each.
use Rattle.event.specs.Meaning
use Rattle.transcribe.specs.Said as transcribe
use Rattle.writer.specs.Write as writer
use Rattle.exports.specs.TapeAppend
use Rattle.exports.specs.Transcript
use Rattle.exports.specs.Write

unfoldable pub chosen : Unit {0}
unfolding TapeAppend.meaning_for TapeAppend.chosen_meaning Meaning.meaning_of Meaning.value_of
chosen = tt

unfoldable pub ended : Unit {0}
unfolding Transcript.end_code Transcript.end_place Transcript.end_marker transcribe.end_said
ended = tt

unfoldable pub written : Unit {0}
unfolding Write.first_number Write.second_number Write.write_code Write.write_value Write.expected_number Write.found_number Write.written_numbers
    writer.written_said
written = tt
