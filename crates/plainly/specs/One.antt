-- One event put on the tape, within the budget, as the code has it.
use Rattle.std.specs.Prelude.{cond, List, [], ℕ, zero, suc, ◌+◌, ◌-◌, length}
use Rattle.std.proofs.lemmas.List.Edits.{sets}
use Rattle.event.specs.Meaning.{Meaning, meaning_of}
use Rattle.event.specs.declared.Event.{Event}
use Rattle.layout.specs.LookLaws.{BytesRight}
use Rattle.layout.specs.Said.{span_said}
use Rattle.layout.specs.declared.lookup.Span.{Span}
use Rattle.reader.proofs.Inside.{AskedIn}
use Rattle.reader.specs.Meanings.{bytes_asked}
use Rattle.tape.specs.Append.{fits}
use Rattle.tape.specs.Append as tape
use Rattle.tape.specs.Code.{bytes_for}
use Rattle.plainly.specs.Plain.{Put, put, going, refused_with}

-- an event that means m, and then the place that was sought last
unfoldable pub one_put : ℕ → ℕ → List ℕ → Meaning → ℕ → Put
one_put zero held tape m place = put (refused_with 37 [] 0) held tape
one_put (suc left) held tape m place =
    cond (fits tape held (bytes_for m)) (put (going place left) (held + length (bytes_for m)) (sets tape held (bytes_for m))) (put (refused_with 27 [] held) held tape)

-- from what the tape answered: held so many bytes, or no room
unfoldable pub count_of : ℕ → ℕ → List ℕ → ℕ → tape.Said → Put
count_of left held t place (tape.held n) = put (going place (left - 1)) n t
count_of left held t place (tape.refused number at) = put (refused_with 27 [] held) held t

-- a scalar whose bytes stand in a file: they lie within it, and are those of such an event
pub record Scalar (file : List ℕ) (e : Event) (span : Span) : Type 0 where
  pub inside : AskedIn file (span_said span)
  pub right : BytesRight file e (span_said span)

-- what it means
abbrev pub scalar_means : List ℕ → Event → Span → Meaning
scalar_means file e span = meaning_of e (bytes_asked file (span_said span))
