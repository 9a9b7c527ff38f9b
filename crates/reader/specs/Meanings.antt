-- What the calls on a file mean, in order.
use Rattle.std.specs.Prelude.{List, [], map, ℕ}
use Rattle.utf.specs.Unicode.{to_utf8}
use Rattle.event.specs.Meaning.{Meaning, meaning_of}
use Rattle.event.specs.declared.Event.{Event}
use Rattle.number.specs.Part.{part}
use Rattle.layout.specs.Bytes.{Asked, in_file, in_utf16, no_bytes, denied, event_asked}
use Rattle.reader.specs.Calls.{calls, answers_of}
use Rattle.reader.specs.Machine as Machine
use Rattle.reader.specs.Machine.{Said}
use Rattle.reader.specs.declared.state.Reader.{Reader}

-- the bytes of data or text that stand in a file
unfoldable pub bytes_asked : List ℕ → Asked → List ℕ
bytes_asked file (in_file start n) = part file start n
bytes_asked file (in_utf16 start n) = to_utf8 (part file start n)
bytes_asked file no_bytes = []
bytes_asked file (denied number values) = []

-- what an event that was handed out with an offset means
unfoldable pub meaning_at : List ℕ → Event → ℕ → Meaning
meaning_at file e offset = meaning_of e (bytes_asked file (event_asked file e offset))

-- an answer with its event's meaning
pub data Told : Type 0 where
  means : Meaning → ℕ → Told
  ended : Told
  refused : ℕ → List ℕ → ℕ → Told

unfoldable pub told : List ℕ → Said → Told
told file (Machine.event r) = means (meaning_at file r.event r.offset) r.offset
told file Machine.ended = ended
told file (Machine.refused number values place) = refused number values place

-- the first n answers of a reader on a file, with what they mean
unfoldable pub answers : ℕ → List ℕ → Reader → List Told
unfolding calls
answers n file r = map (told file) (answers_of (calls n file r))
