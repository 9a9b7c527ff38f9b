-- A check by events and not by places: how many events there are, that some are missing, or which event is refused.
use Rattle.std.specs.Prelude.{Bool, true, false, cond, List, [], ◌∷◌, ℕ, suc, ◌+◌}
use Rattle.event.specs.Meaning.{Meaning}
use Rattle.tape.specs.Events.{Events, whole, broken}
use Rattle.grammar.specs.Check.{onto, barred, move_of}
use Rattle.grammar.specs.Said as check
use Rattle.grammar.specs.Said.{refused_at}
use Rattle.grammar.specs.Turn.{is_nothing, turn_of}
use Rattle.grammar.specs.declared.answer.Refusal.{Refusal}
use Rattle.grammar.specs.declared.answer.Refusal.TheVariants.{BadTape, IncompleteRoot, TrailingEvents}
use Rattle.grammar.specs.declared.turn.Due.{Due}
use Rattle.grammar.specs.declared.turn.Due.TheVariants.{Root}

pub data Verdict : Type 0 where
  passes : ℕ → Verdict
  unfinished : Verdict
  stops : ℕ → Refusal → Verdict

-- behind one more event
unfoldable pub later : Verdict → Verdict
later (passes n) = passes (suc n)
later unfinished = unfinished
later (stops i r) = stops (suc i) r

-- behind all events: the tape ends there, or what stands there is no event
unfoldable pub last_of : Bool → Due → Verdict
last_of false due = cond (is_nothing due) (passes 0) unfinished
last_of true due = stops 0 (cond (is_nothing due) TrailingEvents BadTape)

unfoldable pub judge_from : Bool → Due → List Due → List Meaning → Verdict
judge_from bad due around [] = last_of bad due
judge_from bad due around (m ∷ ms) = elim (move_of (turn_of due m) due around) [ onto d ds ↦ later (judge_from bad d ds ms) | barred r ↦ stops 0 r ]

unfoldable pub judge : Events → Verdict
judge (whole ms) = judge_from false Root [] ms
judge (broken ms place) = judge_from true Root [] ms

-- the same by places, behind n events: where the tape ends, and where each event begins
unfoldable pub said_by : ℕ → ℕ → (ℕ → ℕ) → Verdict → check.Said
said_by n end starts (passes k) = check.whole (n + k)
said_by n end starts unfinished = refused_at IncompleteRoot end
said_by n end starts (stops i r) = refused_at r (starts i)
