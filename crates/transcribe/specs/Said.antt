-- What the answers say in the numbers, values and places of docs/FORMAT.md, N.
use Rattle.std.specs.Prelude.{Result, Ok, Err, [], ℕ}
use Rattle.reader.specs.Said.{number_of, values_of}
use Rattle.transcribe.specs.Note.{Noted, kept, refused}
use Rattle.transcribe.specs.Run.{End, ended, stopped}
use Rattle.transcribe.specs.Run as run
use Rattle.transcribe.specs.declared.Ending.{Ending}
use Rattle.transcribe.specs.declared.Ending.TheVariants.{Ended, Stopped, Refused, NoRoomForTape}
use Rattle.transcribe.specs.declared.note.Failure.{Failure}
use Rattle.transcribe.specs.declared.note.Failure.TheVariants as failure
use Rattle.transcribe.specs.declared.walk.End.{End as WalkEnd}
use Rattle.transcribe.specs.declared.walk.End.TheVariants as walk

unfoldable pub end_said : Ending → End
end_said Ended = ended
end_said Stopped = stopped
end_said (Refused r place) = run.refused (number_of r) (values_of r) place
end_said (NoRoomForTape place) = run.refused 27 [] place

unfoldable pub fail_said : Failure → Noted
fail_said (failure.Refused r place) = refused (number_of r) (values_of r) place
fail_said (failure.NoRoomForTape place) = refused 27 [] place

unfoldable pub note_said : Result ℕ Failure → Noted
note_said (Ok n) = kept n
note_said (Err f) = fail_said f

unfoldable pub walked_said : Result WalkEnd Failure → End
walked_said (Ok walk.Ended) = ended
walked_said (Ok walk.Stopped) = stopped
walked_said (Err (failure.Refused r place)) = run.refused (number_of r) (values_of r) place
walked_said (Err (failure.NoRoomForTape place)) = run.refused 27 [] place
