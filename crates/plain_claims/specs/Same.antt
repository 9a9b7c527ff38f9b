-- `transcribe` and the plain reader, with the same budget and tape: the same bytes are held and the tape is the same, unless the scratch is too
-- short for a text (16), which the plain reader needs none for; and the same ending, where the budget is not used up.
use Rattle.std.specs.Prelude.{Bool}
use Rattle.std.proofs.Math.Bool.{true, false}
use mathlib.Core.List.{List, [], ◌∷◌}
use Rattle.std.proofs.Math.Path.{◌≡◌, refl, ap}
use Rattle.std.proofs.Common.{◌∙◌, arith}
use Prim.Native.Nat.{ℕ, zero, suc, ◌+◌}
use Rattle.std.proofs.Math.ListN.{length}
use Rattle.std.proofs.lemmas.List.Edits.{sets}
use Rattle.number.specs.BeLaws.{Bytes}
use Rattle.event.specs.Meaning.{Meaning}
use Rattle.layout.specs.Bytes.{event_asked}
use Rattle.reader.specs.Machine.{Said, Step, event}
use Rattle.reader.specs.Machine as machine
use Rattle.reader.specs.Meanings.{meaning_at}
use Rattle.reader.specs.Next.{next_of}
use Rattle.reader.specs.NextLaws.{next_ended}
use Rattle.reader.specs.State.{fresh_reader, ended_reader}
use Rattle.reader.specs.declared.state.Reader.{Reader}
use Rattle.tape.specs.Append.{fits, put_of, put_to, append_of, append_to}
use Rattle.tape.specs.Code.{bytes_for, allowed}
use Rattle.transcribe.specs.HandedLaws.{Handed, next_handed, given_allowed}
use Rattle.transcribe.specs.Note.{Note, from_tape, put_note}
use Rattle.transcribe.specs.Run.{Run, run, ended, stopped, refused, by_noted, by_note, by_said, run_of, transcript_of}
use Rattle.transcribe.specs.Run as run
use Rattle.transcribe.specs.TranscriptLaws.{Notes, puts, lacks, notes}
use Rattle.plainly.specs.Plain as plain
use Rattle.plainly.specs.Plain.{Last, Plainly, reach_of, put_all, say_onto, last_of, closing, plain_tape}
use Rattle.plainly.specs.Says.{Stated, End, done, file_says}
use Rattle.plainly.specs.Says as says
use Rattle.plain_claims.specs.Agree.{file_tells}
use Rattle.plain_claims.specs.Walks as walks
use Rattle.plain_claims.specs.Walks.{heard, Walks, Finishes}

-- the same ending; a budget that is used up ends a transcript before the next answer is looked at
abbrev pub Alike : run.End → Last → Type 0
Alike ended x = x ≡ plain.whole
Alike stopped x = Unit {0}
Alike (refused number values place) x = x ≡ plain.stopped number values place

pub data Same (x : Run) (p : Plainly) : Type 0 where
  same : x.held ≡ p.held → x.tape ≡ p.tape → Alike x.ending p.ending → Same x p
  short : (place : ℕ) → x.ending ≡ refused 16 [] place → Same x p

module _ (file : List ℕ) (good : Bytes file) where
  -- an event is put on both tapes, or on neither
  module _ (end : End) (m : Meaning) (n offset : ℕ) (es : List Stated) (left held : ℕ) (scratch tape : List ℕ) (r : Reader) where
    abbrev at_once : Plainly
    at_once = closing (put_all end (suc left) held tape (record { meaning = m; number = n; offset = offset } ∷ es))

    abbrev onward : List ℕ → List ℕ → ℕ → Reader → Run
    onward s t h q = run_of left file s t h q

    same_put : allowed m ≡ true → (s : List ℕ) → ((t : List ℕ) (h : ℕ) → Same (onward s t h r) (closing (put_all end left h t es))) → Same (by_note onward held r (put_note s tape held m)) at_once
    unfolding by_note by_noted put_note from_tape append_of append_to put_of put_to put_all last_of closing
    same_put a s ih = go (fits tape held (bytes_for m)) refl
      where
        go : (b : Bool) → fits tape held (bytes_for m) ≡ b → Same (by_note onward held r (put_note s tape held m)) at_once
        go true f = rw (a, f) (ih (sets tape held (bytes_for m)) (held + length (bytes_for m)))
        go false f = rw (a, f) (same refl refl refl)

    same_note : allowed m ≡ true → (x : Note) → Notes file scratch tape held m offset x → ((s t : List ℕ) (h : ℕ) → Same (onward s t h r) (closing (put_all end left h t es))) → Same (by_note onward held r x) at_once
    unfolding by_note by_noted
    same_note a x (puts s l e) ih = rw e (same_put a s (ih s))
    same_note a x (lacks w e) ih = rw e (short offset refl)

  same_run : (end : End) (es : List Stated) (left held : ℕ) (scratch tape : List ℕ) (r s : Reader) → Walks file r es s → Finishes file (λ q. ended_reader) s end → Same (run_of left file scratch tape held r) (closing (put_all end left held tape es))
  unfolding run_of put_all by_said reach_of last_of closing heard meaning_at
  same_run end [] zero held scratch tape r s w f = same refl refl tt
  same_run end (e ∷ es) zero held scratch tape r s w f = same refl refl tt
  same_run (done place) [] (suc left) held scratch tape r s w f =
      let a : (next_of file r).answer ≡ machine.ended = ap (λ (q : Reader). (next_of file q).answer) (w ∙ f) ∙ ap (λ (t : Step). t.answer) (next_ended file ended_reader refl refl) in
      rw a (same refl refl refl)
  same_run (says.refused number values place) [] (suc left) held scratch tape r s w f =
      let a : (next_of file r).answer ≡ machine.refused number values place = ap (λ (q : Reader). (next_of file q).answer) w ∙ f in
      rw a (same refl refl refl)
  same_run end (e ∷ es) (suc left) held scratch tape r s w f =
      go (next_of file r).answer refl (next_handed file r) w.0
      (λ (s₁ t₁ : List ℕ) (h₁ : ℕ). same_run end es left h₁ s₁ t₁ (next_of file r).state s w.1 f)
    where
      go : (a : Said) → (next_of file r).answer ≡ a → Handed file a → heard file a ≡ walks.event e
          → ((s₁ t₁ : List ℕ) (h₁ : ℕ) → Same (run_of left file s₁ t₁ h₁ (next_of file r).state) (closing (put_all end left h₁ t₁ es)))
          → Same (run_of (suc left) file scratch tape held r) (closing (put_all end (suc left) held tape (e ∷ es)))
      go machine.ended c g t ih = let z : ◌≡◌ {A = ℕ} 0 1 = cc in absurd (omega arith)
      go (machine.refused a b d) c g t ih = let z : ◌≡◌ {A = ℕ} 0 1 = cc in absurd (omega arith)
      go (event q) c g t ih =
          let k : record { meaning = meaning_at file q.event q.offset; number = q.number; offset = q.offset } ≡ e = cc in
          let m : meaning_at file q.event q.offset ≡ e.meaning = ap (λ (x : Stated). x.meaning) k in
          rw c (same_note end e.meaning e.number q.offset es left held scratch tape (next_of file r).state
          (rw m at (given_allowed file good q.event (event_asked file q.event q.offset) g)) _
          (rw m at (notes file scratch tape held q.event q.offset g))
          ih)

  -- THE SAME TAPE
  pub same_tape : (budget : ℕ) (scratch tape : List ℕ) → Same (transcript_of budget file scratch tape) (plain_tape budget file tape)
  unfolding transcript_of plain_tape say_onto
  same_tape budget scratch tape =
      let w = file_tells file in
      same_run (file_says file).ending (file_says file).events budget 0 scratch tape fresh_reader w.state w.walks w.finishes
