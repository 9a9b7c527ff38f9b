-- What proofs of the code open, by one name.
use Rattle.object.specs.Found
use Rattle.object.specs.Object
use Rattle.layout.specs.Said as FileSaid
use Rattle.reader.specs.Said

-- what a call's answer says
unfoldable pub answers : Unit {0}
unfolding Said.said Said.step_said Said.number_of Said.values_of FileSaid.number_of FileSaid.values_of FileSaid.trailer_said
answers = tt

-- what a request is answered, of an object that was found
unfoldable pub requests : Unit {0}
unfolding Said.asked_said Said.number_of Said.values_of FileSaid.number_of FileSaid.values_of FileSaid.trailer_said Found.found_of Object.refused_by
requests = tt
