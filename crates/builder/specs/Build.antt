-- What a builder answers to an event. docs/FORMAT.md, rules B3 to B5.
use Rattle.std.specs.Prelude.{Result, Ok, Err, Option, cond, List, [], ℕ, ◌+◌, ltb, leb, length}
use Rattle.std.proofs.lemmas.List.Edits.{sets}
use Rattle.event.specs.Format.{max_length}
use Rattle.event.specs.Meaning.{Meaning}
use Rattle.event.specs.declared.Event.{Event}
use Rattle.event.specs.declared.Event.TheVariants.{StartArray, StartDictionary}
use Rattle.tape.specs.Code.{bytes_for, allowed}
use Rattle.grammar.specs.Said.{number_of, kinds_of}
use Rattle.grammar.specs.Turn.{is_nothing}
use Rattle.grammar.specs.Way.{way_of}
use Rattle.grammar.specs.declared.answer.EventKind.{EventKind}
use Rattle.grammar.specs.declared.answer.Refusal.TheVariants.{BadTape, TrailingEvents}
use Rattle.grammar.specs.declared.turn.Due.{Due}
use Rattle.grammar.specs.declared.way.Way.{Way}
use Rattle.grammar.specs.declared.way.Way.TheVariants.{Past, Into, Out, Barred}
use Rattle.builder.specs.State.{due_of, moved_by}
use Rattle.builder.specs.declared.answer.BuildError.{BuildError}
use Rattle.builder.specs.declared.answer.BuildError.TheVariants.{Refused, NoRoom, TapeShrank}
use Rattle.builder.specs.declared.build.Container.{Container}
use Rattle.builder.specs.declared.build.Container.TheVariants.{Array, Dictionary}
use Rattle.builder.specs.declared.state.Builder.{Builder}

-- how many bytes are held afterwards; or a refusal's number, what it names as expected and found, and its place
pub data Said : Type 0 where
  holds : ℕ → Said
  refused : ℕ → List EventKind → ℕ → Said

unfoldable pub answer_said : Result ℕ BuildError → Said
answer_said (Ok n) = holds n
answer_said (Err (Refused r place)) = refused (number_of r) (kinds_of r) place
answer_said (Err (NoRoom place)) = refused 27 [] place
answer_said (Err TapeShrank) = refused 32 [] 0

unfoldable pub start_of : Container → Option ℕ → Event
start_of Array given = StartArray given
start_of Dictionary given = StartDictionary given

-- where an event leads that is on no tape yet: 23, then 20 (G3, G4), then 21 and 15 (G5, G6)
unfoldable pub judge_of : Due → ℕ → Meaning → Way
judge_of due depth m = cond (is_nothing due) (Barred TrailingEvents) (cond (allowed m) (way_of due depth m) (Barred BadTape))

-- B4: an event that may come there is appended where it fits, and else refused with 27
unfoldable pub fitted_of : ℕ → ℕ → ℕ → Said
fitted_of at size room = cond (leb (at + size) room) (holds (at + size)) (refused 27 [] at)

unfoldable pub by_way : ℕ → ℕ → ℕ → Way → Said
by_way at size room (Past next) = fitted_of at size room
by_way at size room (Into first after) = fitted_of at size room
by_way at size room Out = fitted_of at size room
by_way at size room (Barred r) = refused (number_of r) (kinds_of r) at

-- B3: 32 before all; then 1, of what is held with the event behind it; then the event's own
unfoldable pub build_of : Builder → ℕ → Meaning → Said
build_of b room m =
    cond (ltb room b.held) (refused 32 [] 0)
    (cond (ltb max_length (b.held + length (bytes_for m))) (refused 1 [] 0)
    (by_way b.held (length (bytes_for m)) room (judge_of (due_of b.due) b.depth m)))

-- B5: the tape afterwards
unfoldable pub tape_by : Said → List ℕ → ℕ → List ℕ → List ℕ
tape_by (holds n) tape at s = sets tape at s
tape_by (refused number kinds place) tape at s = tape

unfoldable pub tape_after : Builder → List ℕ → Meaning → List ℕ
tape_after b tape m = tape_by (build_of b (length tape) m) tape b.held (bytes_for m)

-- and the builder: as it was, or the event is behind what was held
unfoldable pub builder_by : Said → Builder → Meaning → Builder
builder_by (holds n) b m = moved_by (judge_of (due_of b.due) b.depth m) b n
builder_by (refused number kinds place) b m = b

unfoldable pub builder_after : Builder → ℕ → Meaning → Builder
builder_after b room m = builder_by (build_of b room m) b m
