-- The line of a record and of an answer, what the scratch holds once it is put, and what a writer gets. docs/FORMAT.md, rules L1, L3, L9 and R30.
use Rattle.std.specs.Prelude.{Bool, true, false, cond, List, [], ℕ, leb, length, take, Option, None, Some}
use Rattle.digits.specs.Ascii.{ascii}
use Rattle.event.specs.Meaning.{meaning_of}
use Rattle.reader.specs.Said.{number_of}
use Rattle.line.specs.Line.{refusal_line}
use Rattle.line.specs.Put.{fixed_line, event_line}
use Rattle.line.specs.declared.piece.Origin.{Origin}
use Rattle.line.specs.declared.put.Fixed.TheVariants.{End}
use Rattle.reader.specs.Request.{asked_of, scratch_after, part_said}
use Rattle.reader.specs.declared.answer.Answer.{Answer}
use Rattle.reader.specs.declared.answer.Answer.TheVariants.{Handed, Ended, Refused}
use Rattle.reader.specs.declared.answer.Record.{Record}

-- what stands behind a record's line: in a trace its number and its offset, in a listing nothing
unfoldable pub mark_for : Bool → Record → Option Origin
mark_for true r = Some (record { number = r.number; offset = r.offset })
mark_for false r = None

-- a record whose bytes have been asked for, in a trace or in a listing: they are a part of the file or of the scratch
unfoldable pub filled_line : Bool → List ℕ → List ℕ → Record → List ℕ
filled_line traced file scratch r = event_line (mark_for traced r) (meaning_of r.event (part_said file scratch (asked_of file r)))

-- a record: its bytes are asked for first
unfoldable pub record_line : Bool → List ℕ → List ℕ → Record → List ℕ
record_line traced file scratch r = filled_line traced file (scratch_after file scratch (asked_of file r)) r

-- an answer, in a listing
unfoldable pub answer_line : List ℕ → List ℕ → Answer → List ℕ
answer_line file scratch (Handed r) = record_line false file scratch r
answer_line file scratch Ended = fixed_line End
answer_line file scratch (Refused refusal place) = refusal_line (number_of refusal) place

-- the scratch afterwards: only a record's text stands there
unfoldable pub answer_scratch : List ℕ → List ℕ → Answer → List ℕ
answer_scratch file scratch (Handed r) = scratch_after file scratch (asked_of file r)
answer_scratch file scratch Ended = scratch
answer_scratch file scratch (Refused refusal place) = scratch

-- what a writer gets of a memory: what stands at its start, as far as the answer says that a line was put there
unfoldable pub printed : List ℕ → Option ℕ → List ℕ
printed out (Some end) = cond (leb end (length out)) (take end out) []
printed out None = ascii "no room\n"

-- what a writer gets of a line: all of it where the memory has room for it, else that it has none (L1)
unfoldable pub printed_line : List ℕ → List ℕ → List ℕ
printed_line out line = cond (leb (length line) (length out)) line (ascii "no room\n")
