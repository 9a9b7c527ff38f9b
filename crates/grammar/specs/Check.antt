-- A tape is one whole root, or the first refusal says why not. docs/FORMAT.md, rules G1, G2, G5 to G7.
use Rattle.std.specs.Prelude.{cond, List, [], ◌∷◌, ℕ, zero, suc, ◌+◌, ltb, leb, length}
use Rattle.event.specs.Format.{max_length, max_open}
use Rattle.grammar.specs.Said.{Said, whole, refused_at}
use Rattle.grammar.specs.Turn.{is_nothing, after_of, turn_at}
use Rattle.grammar.specs.declared.answer.EventKind.TheVariants.{ValueOrStartCollection, EndCollection}
use Rattle.grammar.specs.declared.answer.Refusal.{Refusal}
use Rattle.grammar.specs.declared.answer.Refusal.TheVariants.{TooLong, TooDeep, UnexpectedEventType, IncompleteRoot}
use Rattle.grammar.specs.declared.turn.Due.{Due}
use Rattle.grammar.specs.declared.turn.Due.TheVariants.{Root}
use Rattle.grammar.specs.declared.turn.Turn.{Turn}
use Rattle.grammar.specs.declared.turn.Turn.TheVariants.{Pass, Open, Close, Stop}

-- what is due behind an event, and what is due once each open container is closed, the innermost first; or the refusal
pub data Move : Type 0 where
  onto : Due → List Due → Move
  barred : Refusal → Move

-- G6: a container too many; G5: an end with nothing open
unfoldable pub move_of : Turn → Due → List Due → Move
move_of (Pass next) due around = onto next around
move_of (Open first) due around = cond (leb max_open (length around)) (barred TooDeep) (onto first (after_of due ∷ around))
move_of Close due [] = barred (UnexpectedEventType ValueOrStartCollection EndCollection)
move_of Close due (d ∷ around) = onto d around
move_of (Stop r) due around = barred r

-- G7, behind n events
unfoldable pub finish_of : List ℕ → ℕ → Due → Said
finish_of tape n due = cond (is_nothing due) (whole n) (refused_at IncompleteRoot (length tape))

-- G2: the check from a place on, behind n events, over at most k more; an event has a byte at least
unfoldable pub check_from : ℕ → List ℕ → ℕ → ℕ → Due → List Due → Said
check_from zero tape n at due around = finish_of tape n due
check_from (suc k) tape n at due around =
    cond (ltb at (length tape))
    (elim (move_of (turn_at tape at due).turn due around) [ onto d ds ↦ check_from k tape (n + 1) (turn_at tape at due).next d ds | barred r ↦ refused_at r at ])
    (finish_of tape n due)

-- G1, then from the front
unfoldable pub check_of : List ℕ → Said
check_of tape = cond (ltb max_length (length tape)) (refused_at TooLong 0) (check_from (length tape) tape 0 0 Root [])
