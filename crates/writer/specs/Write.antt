-- What the writer answers, and what it leaves in the lent memory. docs/FORMAT.md, rules W17 and W18.
use Rattle.std.specs.Prelude.{ℕ, ◌*◌, cond, List, [], length, nat_lt, Result, Ok, Err}
use Rattle.std.proofs.lemmas.List.Edits.{sets}
use Rattle.event.specs.Format.{max_length}
use Rattle.tape.specs.Events.{meanings_in}
use Rattle.grammar.specs.Check.{check_of}
use Rattle.grammar.specs.Said.{number_of, kinds_of}
use Rattle.grammar.specs.Said as check
use Rattle.grammar.specs.declared.answer.EventKind.{EventKind}
use Rattle.written.specs.File.{file_for}
use Rattle.writer.specs.declared.answer.WriteError.{WriteError}
use Rattle.writer.specs.declared.answer.WriteError.TheVariants.{Refused, NoRoomForWork, NoRoomForOutput, FileTooLong}

-- the file's length; or a refusal's number, what it names as expected and found, and its place
pub data Said : Type 0 where
  long : ℕ → Said
  refused : ℕ → List EventKind → ℕ → Said

-- what the code's answer says
unfoldable pub written_said : Result ℕ WriteError → Said
written_said (Ok n) = long n
written_said (Err (Refused r place)) = refused (number_of r) (kinds_of r) place
written_said (Err NoRoomForWork) = refused 24 [] 0
written_said (Err NoRoomForOutput) = refused 25 [] 0
written_said (Err FileTooLong) = refused 26 [] 0

-- words for n events
unfoldable pub words_for : ℕ → ℕ
words_for n = n * 8

-- a file that is to stand in so much room
unfoldable pub fitted_of : List ℕ → ℕ → Said
fitted_of file room = cond (nat_lt max_length (length file)) (refused 26 [] 0) (cond (nat_lt room (length file)) (refused 25 [] 0) (long (length file)))

-- the answer, by what the check of the tape says, for so many words and so much room
unfoldable pub by_check : check.Said → List ℕ → ℕ → ℕ → Said
by_check (check.refused number kinds place) file words room = refused number kinds place
by_check (check.whole n) file words room = cond (nat_lt words (words_for n)) (refused 24 [] 0) (fitted_of file room)

unfoldable pub write_of : List ℕ → ℕ → ℕ → Said
write_of tape words room = by_check (check_of tape) (file_for (meanings_in tape)) words room

-- the output afterwards: a file that is answered stands at its start
unfoldable pub output_by : Said → List ℕ → List ℕ → List ℕ
output_by (long n) file out = sets out 0 file
output_by (refused number kinds place) file out = out

unfoldable pub output_of : List ℕ → ℕ → List ℕ → List ℕ
output_of tape words out = output_by (write_of tape words (length out)) (file_for (meanings_in tape)) out

-- how many words may have changed: eight for each event, once there are as many
unfoldable pub used_by : check.Said → ℕ → ℕ
used_by (check.refused number kinds place) words = 0
used_by (check.whole n) words = cond (nat_lt words (words_for n)) 0 (words_for n)

unfoldable pub used_of : List ℕ → ℕ → ℕ
used_of tape words = used_by (check_of tape) words
