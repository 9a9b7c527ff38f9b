-- Where an event leads, by what is due and how many containers are open. docs/FORMAT.md, rules G3, G5, G6.
use Rattle.std.specs.Prelude.{cond, List, [], ◌∷◌, ℕ, leb, eqb}
use Rattle.event.specs.Format.{max_open}
use Rattle.event.specs.Meaning.{Meaning}
use Rattle.grammar.specs.Check.{Move, onto, barred}
use Rattle.grammar.specs.Turn.{after_of, turn_of, turn_at}
use Rattle.grammar.specs.declared.answer.EventKind.TheVariants.{ValueOrStartCollection, EndCollection}
use Rattle.grammar.specs.declared.answer.Refusal.{Refusal}
use Rattle.grammar.specs.declared.answer.Refusal.TheVariants.{TooDeep, UnexpectedEventType}
use Rattle.grammar.specs.declared.turn.Due.{Due}
use Rattle.grammar.specs.declared.turn.Turn.{Turn}
use Rattle.grammar.specs.declared.turn.Turn.TheVariants.{Pass, Open, Close, Stop}
use Rattle.grammar.specs.declared.way.Gone.{Gone}
use Rattle.grammar.specs.declared.way.Way.{Way}
use Rattle.grammar.specs.declared.way.Way.TheVariants.{Past, Into, Out, Barred}

-- the way of a turn: as `move_of` has it, with a number for the open containers (G5, G6)
unfoldable pub way_by : Turn → Due → ℕ → Way
way_by (Pass next) due depth = Past next
way_by (Open first) due depth = cond (leb max_open depth) (Barred TooDeep) (Into first (after_of due))
way_by Close due depth = cond (eqb depth 0) (Barred (UnexpectedEventType ValueOrStartCollection EndCollection)) Out
way_by (Stop r) due depth = Barred r

unfoldable pub way_of : Due → ℕ → Meaning → Way
way_of due depth m = way_by (turn_of due m) due depth

-- the move that a way is, among what is due once each open container is closed, the innermost first
unfoldable pub move_by : Way → List Due → Move
move_by (Past next) around = onto next around
move_by (Into first behind) around = onto first (behind ∷ around)
move_by Out [] = barred (UnexpectedEventType ValueOrStartCollection EndCollection)
move_by Out (d ∷ around) = onto d around
move_by (Barred r) around = barred r

-- the way of what stands at a place of a tape, and where the next event begins
unfoldable pub barred_at : Refusal → ℕ → Gone
barred_at r at = record { way = Barred r; next = at }

unfoldable pub way_at : List ℕ → ℕ → Due → ℕ → Gone
way_at tape at due depth = record { way = way_by (turn_at tape at due).turn due depth; next = (turn_at tape at due).next }
