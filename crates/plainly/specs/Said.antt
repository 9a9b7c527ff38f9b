-- What the answers say in the numbers, values and places of docs/FORMAT.md, N.
use Rattle.std.specs.Prelude.{Result, Ok, Err, List, [], ℕ}
use Rattle.reader.specs.Said.{number_of, values_of}
use Rattle.plainly.specs.Plain.{Last, whole, stopped, Put, put, going, over}
use Rattle.plainly.specs.declared.Ending.{Ending}
use Rattle.plainly.specs.declared.Ending.TheVariants.{Ended, Refused, OverBudget, NoRoomForTape}
use Rattle.plainly.specs.declared.Far.{Far}
use Rattle.plainly.specs.declared.Reading.{Reading}

unfoldable pub ending_said : Ending → Last
ending_said Ended = whole
ending_said (Refused r place) = stopped (number_of r) (values_of r) place
ending_said OverBudget = stopped 37 [] 0
ending_said (NoRoomForTape place) = stopped 27 [] place

-- how far it came, with the tape
unfoldable pub went_said : Result Far Reading → List ℕ → Put
went_said (Ok f) tape = put (going f.place f.left) f.held tape
went_said (Err r) tape = put (over (ending_said r.ending)) r.held tape
