-- One event of a reader put on the tape: its bytes are taken from where they were read, then it is appended.
use Rattle.std.specs.Prelude.{cond, List, [], ℕ}
use Rattle.event.specs.Meaning.{Meaning, meaning_of}
use Rattle.event.specs.declared.Event.{Event}
use Rattle.layout.specs.Bytes.{Asked, event_asked, has_bytes}
use Rattle.reader.specs.Request.{TextSaid, long, refusing, length_said, scratch_after, part_said}
use Rattle.tape.specs.Append.{append_of, append_to}
use Rattle.tape.specs.Append as tape

-- how many bytes of the tape are held afterwards, or a refusal with number, values and place
pub data Noted : Type 0 where
  kept : ℕ → Noted
  refused : ℕ → List ℕ → ℕ → Noted

-- the answer, and both lent memories afterwards
pub record Note : Type 0 where
  pub answer : Noted
  pub tape : List ℕ
  pub scratch : List ℕ

abbrev pub noting : Noted → List ℕ → List ℕ → Note
noting answer tape scratch = record { answer = answer; tape = tape; scratch = scratch }

unfoldable pub from_tape : tape.Said → Noted
from_tape (tape.held n) = kept n
from_tape (tape.refused number place) = refused number [] place

-- an event that means m is appended
unfoldable pub put_note : List ℕ → List ℕ → ℕ → Meaning → Note
put_note scratch tape held m = noting (from_tape (append_of tape held m)) (append_to tape held m) scratch

-- the bytes of data or text, which stand there, are handed out as the text request hands them out
unfoldable pub text_note : List ℕ → List ℕ → List ℕ → ℕ → Event → Asked → TextSaid → Note
text_note file scratch tape held e a (long n) =
    put_note (scratch_after file scratch a) tape held (meaning_of e (part_said file (scratch_after file scratch a) a))
text_note file scratch tape held e a (refusing number values place) = noting (refused number values place) tape (scratch_after file scratch a)

-- an event that was read at an offset
unfoldable pub note_of : List ℕ → List ℕ → List ℕ → ℕ → Event → ℕ → Note
note_of file scratch tape held e offset =
    cond (has_bytes e)
    (text_note file scratch tape held e (event_asked file e offset) (length_said file scratch offset (event_asked file e offset)))
    (put_note scratch tape held (meaning_of e []))
