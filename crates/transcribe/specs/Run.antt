-- A file read from a fresh reader to its end, every event appended to a tape. docs/FORMAT.md, rules T7 and T8.
use Rattle.std.specs.Prelude.{List, ℕ, zero, suc}
use Rattle.reader.specs.Machine.{Said, Step, event}
use Rattle.reader.specs.Machine as reader
use Rattle.reader.specs.Next.{next_of}
use Rattle.reader.specs.State.{fresh_reader}
use Rattle.reader.specs.declared.state.Reader.{Reader}
use Rattle.transcribe.specs.Note.{Note, Noted, kept, note_of}
use Rattle.transcribe.specs.Note as note

-- how it ends: the file's end; the budget of events is used up, whatever would follow; a refusal of the reader, of the text request or of
-- the tape
pub data End : Type 0 where
  ended : End
  stopped : End
  refused : ℕ → List ℕ → ℕ → End

-- the ending, how many bytes of the tape are held, and both lent memories
pub record Run : Type 0 where
  pub ending : End
  pub held : ℕ
  pub tape : List ℕ
  pub scratch : List ℕ

abbrev pub run : End → ℕ → List ℕ → List ℕ → Run
run e held tape scratch = record { ending = e; held = held; tape = tape; scratch = scratch }

-- after an event was noted: on with the reader's next state, or the refusal
unfoldable pub by_noted : (List ℕ → List ℕ → ℕ → Reader → Run) → ℕ → Reader → List ℕ → List ℕ → Noted → Run
by_noted on held r scratch tape (kept n) = on scratch tape n r
by_noted on held r scratch tape (note.refused number values place) = run (refused number values place) held tape scratch

unfoldable pub by_note : (List ℕ → List ℕ → ℕ → Reader → Run) → ℕ → Reader → Note → Run
by_note on held r n = by_noted on held r n.scratch n.tape n.answer

-- after a call of the reader
unfoldable pub by_said : (List ℕ → List ℕ → ℕ → Reader → Run) → List ℕ → List ℕ → List ℕ → ℕ → Reader → Said → Run
by_said on file scratch tape held r (event e) = by_note on held r (note_of file scratch tape held e.event e.offset)
by_said on file scratch tape held r reader.ended = run ended held tape scratch
by_said on file scratch tape held r (reader.refused number values place) = run (refused number values place) held tape scratch

-- with so many events left
unfoldable pub run_of : ℕ → List ℕ → List ℕ → List ℕ → ℕ → Reader → Run
run_of zero file scratch tape held r = run stopped held tape scratch
run_of (suc n) file scratch tape held r =
    by_said (λ s t h q. run_of n file s t h q) file scratch tape held (next_of file r).state (next_of file r).answer

unfoldable pub transcript_of : ℕ → List ℕ → List ℕ → List ℕ → Run
transcript_of budget file scratch tape = run_of budget file scratch tape 0 fresh_reader

-- the same from a call that was made: what is left of a run, its next step given
unfoldable pub onward : ℕ → List ℕ → List ℕ → List ℕ → ℕ → Step → Run
onward zero file scratch tape held x = run stopped held tape scratch
onward (suc n) file scratch tape held x = by_said (λ s t h q. run_of n file s t h q) file scratch tape held x.state x.answer

-- the ending where an event is not noted; where it is, the run goes on
unfoldable pub end_of : Noted → End
end_of (kept n) = stopped
end_of (note.refused number values place) = refused number values place

-- the ending where nothing is open any more: the end takes one call of the budget
unfoldable pub finished_of : ℕ → End
finished_of zero = stopped
finished_of (suc n) = ended
