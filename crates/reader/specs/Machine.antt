-- The reader as a machine over what a file answers: which reference of an open container is due, and what an object is.
use Rattle.std.specs.Prelude.{cond, List, [], ℕ, leb}
use Rattle.event.specs.declared.Event.{Event}
use Rattle.event.specs.declared.Event.TheVariants.{EndCollection}
use Rattle.layout.specs.Looked.{Shape, Looked, barred, missing, faulty, scalar, container, Source, start_of}
use Rattle.layout.specs.declared.layout.Due.{Due}
use Rattle.layout.specs.declared.layout.Due.TheVariants.{Wrong, Close, Member}
use Rattle.reader.specs.State.{max_open, ended_reader, innermost, open_of, member_of, passed, entered, closed}
use Rattle.reader.specs.declared.answer.Record.{Record}
use Rattle.reader.specs.declared.state.Reader.{Reader}

-- where an event comes from: its object's number and offset, for an end those of the container that is closed (R18)
pub record Origin : Type 0 where
  pub number : ℕ
  pub offset : ℕ

abbrev pub origin : ℕ → ℕ → Origin
origin number offset = record { number = number; offset = offset }

-- a record, from an event and where it comes from
abbrev pub record_of : Event → Origin → Record
record_of e o = record { event = e; number = o.number; offset = o.offset }

-- an answer of the reader: an event's record; the end; a refusal with its number, its values and its place
pub data Said : Type 0 where
  event : Record → Said
  ended : Said
  refused : ℕ → List ℕ → ℕ → Said

abbrev pub event_at : Event → Origin → Said
event_at e o = event (record_of e o)

-- the state after a call, and its answer
pub record Step : Type 0 where
  pub state : Reader
  pub answer : Said

abbrev pub step : Reader → Said → Step
step r a = record { state = r; answer = a }

-- a refusal that ends, and 17, which leaves the state as it was (docs/FORMAT.md, N)
abbrev pub refuse : ℕ → List ℕ → ℕ → Step
refuse number values place = step ended_reader (refused number values place)

abbrev pub wrong_file : Reader → Step
wrong_file r = step r (refused 17 [] 0)

-- a container is opened, or refused with 14 or 15 (R16)
unfoldable pub enter : Reader → ℕ → Shape → ℕ → ℕ → Step
enter r object shape length offset =
    cond (member_of (open_of r) object) (refuse 14 [] offset)
    (cond (leb max_open r.depth) (refuse 15 [] offset)
    (step (entered r object length offset) (event_at (start_of shape length) (origin object offset))))

-- an object is read. What is refused before it is sought has the place of what was read before (R8)
unfoldable pub arrive : Reader → ℕ → Looked → Step
arrive r object (barred number values) = refuse number values r.place
arrive r object missing = wrong_file r
arrive r object (faulty number values offset) = refuse number values offset
arrive r object (scalar e offset) = step (passed r offset) (event_at e (origin object offset))
arrive r object (container shape length offset) = enter r object shape length offset

unfoldable pub follow : Source → Reader → Due → Step
follow src r Wrong = wrong_file r
follow src r (Close offset) = step (closed r) (event_at EndCollection (origin (innermost r).object offset))
follow src r (Member object) = arrive r object (src.look object)

-- one call of a reader with an open container
unfoldable pub step_of : Source → Reader → Step
step_of src r = follow src r (src.due (innermost r))
