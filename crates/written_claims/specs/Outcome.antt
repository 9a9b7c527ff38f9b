-- How a reading of events onto a tape ends, and what it puts there, by the room that is lent to it: a budget of events, scratch, and tape. docs/FORMAT.md, rules T7 and T8.
use Rattle.std.specs.Prelude.{cond, List, [], ◌∷◌, ◌≡◌, ℕ, zero, suc, ◌+◌, ◌≤◌, max, leb, length, take, drop}
use Rattle.event.specs.Meaning.{Meaning}
use Rattle.tape.specs.Code.{bytes_for}
use Rattle.tape.specs.Events.{tape_of}
use Rattle.transcribe.specs.Run.{End, ended, stopped, refused, Run}
use Rattle.transcribe.specs.TranscriptLaws.{Put, meanings_of}
use Rattle.written_claims.specs.Filled.{filled}
use Rattle.written_claims.specs.HandsOut.{scratch_for}

-- THE NUMBERS that are enough: scratch for the longest text that isn't ASCII,
unfoldable pub scratch_needed : List Meaning → ℕ
scratch_needed [] = 0
scratch_needed (m ∷ ms) = max (scratch_for m) (scratch_needed ms)

-- bytes of tape for the events, their lengths filled in,
abbrev pub tape_needed : List Meaning → ℕ
tape_needed ms = length (tape_of (filled ms))

-- and events of budget, one more than there are, so that the end is read
abbrev pub budget_needed : List Meaning → ℕ
budget_needed ms = suc (length ms)

abbrev pub Enough : List Meaning → ℕ → ℕ → ℕ → Type 0
Enough ms budget scratch tape = (budget_needed ms ≤ budget) × (scratch_needed ms ≤ scratch) × (tape_needed ms ≤ tape)

-- how a reading ends, and the events that are on the tape then
pub record Outcome : Type 0 where
  pub ending : End
  pub puts : List Put

abbrev pub outcome : End → List Put → Outcome
outcome e ps = record { ending = e; puts = ps }

-- one event was put before
unfoldable pub put_first : Put → Outcome → Outcome
put_first p x = outcome x.ending (p ∷ x.puts)

-- THE OUTCOME of reading events, with so many left of the budget, so long a scratch, and a tape of that length of which so many bytes are held. Event by event:
-- the budget is used up; or the event's text is longer than the scratch, 16 at its offset; or its bytes don't fit behind those held, 27 there
unfoldable pub outcome_of : ℕ → ℕ → ℕ → ℕ → List Put → Outcome
outcome_of zero scratch tape held ps = outcome stopped []
outcome_of (suc budget) scratch tape held [] = outcome ended []
outcome_of (suc budget) scratch tape held (p ∷ ps) =
    cond (leb (scratch_for p.meaning) scratch)
    (cond (leb (held + length (bytes_for p.meaning)) tape)
    (put_first p (outcome_of budget scratch tape (held + length (bytes_for p.meaning)) ps))
    (outcome (refused 27 [] held) []))
    (outcome (refused 16 [] p.offset) [])

-- what a run leaves: its ending; the bytes held are those of some events, and nothing behind them has changed
pub record Holds (ending : End) (events : List Meaning) (tape : List ℕ) (x : Run) : Type 0 where
  pub ends : x.ending ≡ ending
  pub held : x.held ≡ length (tape_of events)
  pub front : take x.held x.tape ≡ tape_of events
  pub behind : drop x.held x.tape ≡ drop x.held tape

-- it ends so, and holds the events that were put
abbrev pub ComesTo : Outcome → List ℕ → Run → Type 0
ComesTo y tape x = Holds y.ending (meanings_of y.puts) tape x
