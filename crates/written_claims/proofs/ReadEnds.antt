-- Reading a written file onto a tape, whatever is lent: the outcome is that of its events. So it is known which of budget, scratch and tape is
-- short first, at which event and with which place.
use Rattle.std.specs.Prelude.{List, ◌∷◌, [], ◌++◌, ◌≡◌, refl, ℕ, suc, ◌+◌, ◌≤◌, drop}
use Rattle.std.proofs.Common.{sym, ap, ◌∙◌, zero-add, arith, take_at, drop_at}
use Rattle.std.proofs.Math.Numerals.{add-one}
use Rattle.std.proofs.Math.ListN.{length}
use Rattle.std.proofs.lemmas.List.{length-map}
use Rattle.std.proofs.lemmas.List.Edits.{sets, sets-eq}
use Rattle.event.specs.Meaning.{Meaning}
use Rattle.reader.specs.Calls.{calls, answers_of}
use Rattle.reader.specs.Machine.{Said}
use Rattle.reader.specs.Machine as machine
use Rattle.reader.specs.State.{fresh_reader}
use Rattle.tape.specs.Events.{tape_of}
use Rattle.transcribe.specs.Run.{Run, transcript_of}
use Rattle.transcribe.specs.TranscriptLaws.{Put, meanings_of}
use Rattle.written.specs.File.{file_for}
use Rattle.written_claims.specs.Accepted.{Accepted}
use Rattle.written_claims.proofs.Again.{accepted_again, length_filled}
use Rattle.written_claims.specs.Filled.{handed_of}
use Rattle.written_claims.specs.HandsOut.{HandOut}
use Rattle.written_claims.proofs.ReadBack.{said_of, said_back, bytes_back, handed_means}
use Rattle.written_claims.specs.Outcome.{Outcome, outcome_of, ComesTo}
use Rattle.written_claims.proofs.OutcomeLaws.{Shortage, shortage, put_room}
use Rattle.written_claims.proofs.Whole.{ran, run_back}

same_length : (file : List ℕ) (ps : List Put) (xs : List Said) → HandOut file ps xs → length xs ≡ length ps
same_length file [] [] h = refl
same_length file [] (x ∷ xs) h = absurd h
same_length file (p ∷ ps) [] h = absurd h
same_length file (p ∷ ps) (x ∷ xs) h = ap suc (same_length file ps xs h.1)

-- a run that comes to an outcome which has room holds what that puts
reads_run : (y : Outcome) (tape s : List ℕ) (x : Run) → 0 + length (tape_of (meanings_of y.puts)) ≤ length tape → x ≡ ran tape 0 s y → ComesTo y tape x
reads_run y tape s x room r =
    rw r
    (let t = tape_of (meanings_of y.puts) in
    let e : sets tape 0 t ≡ t ++ drop (length t) tape = rw zero-add at (sets-eq t tape 0 room) in
    record { ends = refl; held = zero-add (length t); front = rw (zero-add, e) (take_at t (drop (length t) tape) (length t) refl); behind = rw (zero-add, e) (drop_at t (drop (length t) tape) (length t) refl) })

-- as many events are handed out as there are
pub length_handed : (ms : List Meaning) → Accepted ms → length (handed_of ms) ≡ length ms
length_handed ms a = sym (length-map (handed_of ms) (λ (p : Put). p.meaning)) ∙ ap length (handed_means ms a) ∙ length_filled ms

module _ (ms : List Meaning) (a : Accepted ms) (budget : ℕ) (scratch tape : List ℕ) where
  abbrev comes : Outcome
  comes = outcome_of budget (length scratch) (length tape) 0 (handed_of ms)

  -- which room is short first, and at which event
  pub which_first : Shortage budget (length scratch) (length tape) 0 (handed_of ms) comes
  which_first = shortage budget (length scratch) (length tape) 0 (handed_of ms) (omega arith)

  -- THE ENDING of a reading of a written file, and what it leaves on the tape, whatever is lent: it is fixed by the events and the three lengths
  pub ends_back : ComesTo comes tape (transcript_of budget (file_for ms) scratch tape)
  unfolding transcript_of
  ends_back =
      let f = file_for ms in
      let h = bytes_back ms a in
      let n : length (said_of ms) ≡ length ms = same_length f (handed_of ms) (said_of ms) h ∙ length_handed ms a in
      let e : answers_of (calls (suc (length (said_of ms))) f fresh_reader) ≡ said_of ms ++ (machine.ended ∷ []) = rw n (rw add-one at (said_back ms a 1)) in
      let r = run_back f (handed_of ms) (said_of ms) budget scratch tape 0 fresh_reader h e (rw (handed_means ms a) (accepted_again ms a).held) in
      reads_run comes tape r.0 _ (put_room which_first) r.1
