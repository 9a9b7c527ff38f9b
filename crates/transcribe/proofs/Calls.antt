-- One call of a run: what its answer and the note of it do; the first call; the end.
use mathlib.Core.Bool.{false}
use mathlib.Core.List.{List, []}
use mathlib.Core.Path.{◌≡◌, refl, sym, ap, ◌∙◌}
use Prim.Native.Nat.{ℕ, zero, suc, ◌-◌, ◌<◌}
use native.Mathlib.Omega.{arith}
use Rattle.event.specs.Meaning.{meaning_of}
use Rattle.event.specs.declared.Event.{Event}
use Rattle.layout.specs.Layout.{look_of}
use Rattle.layout.specs.Bytes.{has_bytes}
use Rattle.layout.specs.Trailer.{keeps, ends, lays, trailer_in}
use Rattle.layout.specs.declared.layout.Layout.{Layout}
use Rattle.reader.specs.Machine.{Step, Origin, event_at, step, arrive}
use Rattle.reader.specs.Machine as reader
use Rattle.reader.specs.Next.{laid_out, begin}
use Rattle.reader.specs.NextLaws.{next_begin, next_ended}
use Rattle.reader.specs.State.{fresh_reader, ended_reader}
use Rattle.reader.specs.declared.state.Reader.{Reader}
use Rattle.tape.specs.Append.{append_of, append_to}
use Rattle.transcribe.specs.Note.{Noted, kept, noting, from_tape, put_note, note_of}
use Rattle.transcribe.specs.Run.{stopped, refused, run, by_noted, by_note, by_said, run_of, transcript_of, onward, end_of, finished_of}
use Rattle.transcribe.specs.RunLaws.{onward_turn, run_onward}
use Rattle.transcribe.specs.Said.{fail_said}
use Rattle.transcribe.specs.declared.note.Failure.{Failure}
use Rattle.transcribe.specs.declared.note.Failure.TheVariants as failure

-- a call that is made, its answer and what noting it answers
module _ (n : ℕ) (file scratch tape : List ℕ) (held : ℕ) (some : 0 < n) (x : Step) where
  pub call_refused : (number : ℕ) (values : List ℕ) (place : ℕ) → x.answer ≡ reader.refused number values place → onward n file scratch tape held x ≡ run (refused number values place) held tape scratch
  unfolding by_said
  call_refused number values place e = onward_turn n file scratch tape held x some ∙ rw e

  module _ (e : Event) (o : Origin) (answers : x.answer ≡ event_at e o) (y : Noted) (t s : List ℕ) (notes : noting y t s ≡ note_of file scratch tape held e o.offset) where
    call_noted : onward n file scratch tape held x ≡ by_noted (λ a t h q. run_of (n - 1) file a t h q) held x.state s t y
    unfolding by_said by_note
    call_noted = onward_turn n file scratch tape held x some ∙ rw (answers, ← notes)

    pub call_kept : (m : ℕ) → y ≡ kept m → onward n file scratch tape held x ≡ run_of (n - 1) file s t m x.state
    unfolding by_noted
    call_kept m k = call_noted ∙ rw k

    pub call_failed : (f : Failure) → y ≡ fail_said f → onward n file scratch tape held x ≡ run (end_of (fail_said f)) held t s
    unfolding by_noted end_of fail_said
    call_failed (failure.Refused r p) k = call_noted ∙ rw k
    call_failed (failure.NoRoomForTape p) k = call_noted ∙ rw k

-- an event without bytes, noted
pub plain_noted : (file scratch tape t : List ℕ) (held : ℕ) (e : Event) (offset : ℕ) (y : Noted) → has_bytes e ≡ false → y ≡ from_tape (append_of tape held (meaning_of e [])) → t ≡ append_to tape held (meaning_of e []) → noting y t scratch ≡ note_of file scratch tape held e offset
unfolding note_of put_note
plain_noted file scratch tape t held e offset y b p q = rw (b, p, q)

-- nothing is open any more: the end takes one call
pub run_ended : (n : ℕ) (file scratch tape : List ℕ) (held : ℕ) → run_of n file scratch tape held ended_reader ≡ run (finished_of n) held tape scratch
unfolding onward by_said finished_of
run_ended n file scratch tape held = run_onward n file scratch tape held ended_reader ∙ ap (onward n file scratch tape held) (next_ended file ended_reader refl refl) ∙ go n
  where
    go : (n : ℕ) → onward n file scratch tape held (step ended_reader reader.ended) ≡ run (finished_of n) held tape scratch
    go zero = refl
    go (suc n) = refl

-- a transcript begins with the trailer
module _ (n : ℕ) (file scratch tape : List ℕ) where
  begins : transcript_of n file scratch tape ≡ onward n file scratch tape 0 (begin file fresh_reader (trailer_in file))
  unfolding transcript_of
  begins = run_onward n file scratch tape 0 fresh_reader ∙ ap (onward n file scratch tape 0) (next_begin file fresh_reader refl)

  pub begins_none : n ≡ 0 → transcript_of n file scratch tape ≡ run stopped 0 tape scratch
  unfolding onward
  begins_none e = begins ∙ rw e

  module _ (some : n ≡ 0 → ⊥) (number : ℕ) (values : List ℕ) (place : ℕ) where
    begins_refused : (r : Reader) → begin file fresh_reader (trailer_in file) ≡ step r (reader.refused number values place) → run (refused number values place) 0 tape scratch ≡ transcript_of n file scratch tape
    begins_refused r e = sym (begins ∙ call_refused n file scratch tape 0 (omega arith) _ number values place (rw e))

    pub begins_keeps : keeps number values place ≡ trailer_in file → run (refused number values place) 0 tape scratch ≡ transcript_of n file scratch tape
    unfolding begin
    begins_keeps e = begins_refused fresh_reader (rw (← e))

    pub begins_ends : ends number values place ≡ trailer_in file → run (refused number values place) 0 tape scratch ≡ transcript_of n file scratch tape
    unfolding begin
    begins_ends e = begins_refused ended_reader (rw (← e))

  pub begins_lays : (l : Layout) (root : ℕ) → lays l root ≡ trailer_in file → onward n file scratch tape 0 (arrive (laid_out file l) root (look_of file l root)) ≡ transcript_of n file scratch tape
  unfolding begin
  begins_lays l root e = sym (begins ∙ rw (← e))
