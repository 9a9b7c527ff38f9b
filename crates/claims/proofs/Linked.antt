-- Through the promises of what Rust and C link. `zm_transcribe` on a written file answers and leaves what the outcome of its events says: with room enough
-- 0, and the events on the tape, lengths filled in.
use mathlib.Core.List.{List}
use mathlib.Core.Path.{◌≡◌, ap, ◌∙◌}
use Prim.Native.Nat.{ℕ}
use borrow.Fn.Kinds.{Dens, ended_of, res_t}
use contract.Lifetimes.{Lfts}
use denote.Triple.Clauses.{AtExit}
use lib.ListN.{length, take, drop}
use Rattle.event.specs.Meaning.{Meaning}
use Rattle.exports.proofs.transcript.zm_transcribe.Kinds as zm-transcribe-kinds
use Rattle.exports.proofs.transcript.zm_transcribe.Reads as zm-transcribe-reads
use Rattle.exports.specs.Transcript.{end_code, end_place, end_marker}
use Rattle.reader.specs.State.{fresh_reader}
use Rattle.tape.specs.Events.{tape_of}
use Rattle.transcribe.specs.Run.{End, ended, Run, transcript_of}
use Rattle.transcribe.specs.TranscriptLaws.{meanings_of, Transcribed, transcript_told}
use Rattle.written_claims.specs.Filled.{filled}
use Rattle.written_claims.proofs.Good.{Good}
use Rattle.written_claims.specs.Outcome.{Enough, outcome_of, Holds}

-- the numbers and the tape that are answered, by how a transcript ends and the events that it holds; nothing behind them has changed
pub record Answered (ending : End) (events : List Meaning) (before : List ℕ) (code held place marker : ℕ) (tape : List ℕ) : Type 0 where
  pub code_is : code ≡ end_code ending
  pub place_is : place ≡ end_place ending
  pub marker_is : marker ≡ end_marker ending
  pub held_is : held ≡ length (tape_of events)
  pub front : take held tape ≡ tape_of events
  pub behind : drop held tape ≡ drop held before

module _ (κs : Lfts 6) (a : Dens κs zm-transcribe-kinds.ps) (x : (res_t zm-transcribe-kinds.r κs).Denot) (e : AtExit (ended_of 6 zm-transcribe-kinds.ps zm-transcribe-kinds.r) κs)
    (p : zm-transcribe-reads.Post κs a x e) where
  abbrev transcript : Run
  transcript = transcript_of a.1.1.1.0 a.0.now a.1.0.now a.1.1.0.now

  abbrev AnsweredBy : End → List Meaning → Type 0
  AnsweredBy ending events = Answered ending events a.1.1.0.now x e.1.1.1.1.0.now e.1.1.1.1.1.0.now e.1.1.1.1.1.1.0.now e.1.1.0.now

  answered : (ending : End) (events : List Meaning) → Holds ending events a.1.1.0.now transcript → AnsweredBy ending events
  answered ending events h = record {
    code_is = p.0 ∙ ap end_code h.ends;
    place_is = p.1.1.0 ∙ ap end_place h.ends;
    marker_is = p.1.1.1.0 ∙ ap end_marker h.ends;
    held_is = p.1.0 ∙ h.held;
    front = rw (p.1.0, p.1.1.1.1.0) h.front;
    behind = rw (p.1.0, p.1.1.1.1.0) h.behind;
  }

  -- of any file: the tape holds what the reader's answers mean, in order, and it ends as the next answer says
  pub zm_transcribe_told : Transcribed a.1.1.1.0 a.0.now a.1.0.now a.1.1.0.now 0 fresh_reader transcript
  zm_transcribe_told = transcript_told a.1.1.1.0 a.0.now p.1.1.1.1.1.1 a.1.0.now a.1.1.0.now

  -- of a written file: with room enough it answers 0 and leaves the events,
  pub zm_transcribe_back : (ms : List Meaning) → Good a.0.now ms → Enough ms a.1.1.1.0 (length a.1.0.now) (length a.1.1.0.now) → (x ≡ 0) × AnsweredBy ended (filled ms)
  unfolding end_code
  zm_transcribe_back ms g room =
      let l = answered ended (filled ms) (g.whole_back a.1.1.1.0 a.1.0.now a.1.1.0.now room) in
      (l.code_is, l)

  -- and whatever is lent, it ends as the outcome of the events does
  pub zm_transcribe_ends : (ms : List Meaning) (g : Good a.0.now ms)
      → AnsweredBy (outcome_of a.1.1.1.0 (length a.1.0.now) (length a.1.1.0.now) 0 g.put).ending (meanings_of (outcome_of a.1.1.1.0 (length a.1.0.now) (length a.1.1.0.now) 0 g.put).puts)
  zm_transcribe_ends ms g = answered _ _ (g.ends_back a.1.1.1.0 a.1.0.now a.1.1.0.now)
