-- The way of an event is its move; and what it tells of how many containers are open.
use Rattle.std.specs.Prelude.{Bool, true, false, cond, List, [], ◌∷◌, ◌≡◌, refl, ℕ, suc, ◌<◌, leb, eqb, length}
use Rattle.std.proofs.Common.{arith, leb-false, ne_eqb}
use Rattle.std.proofs.lemmas.Bool.{eqb-false}
use Rattle.event.specs.Format.{max_open}
use Rattle.event.specs.Meaning.{Meaning}
use Rattle.grammar.specs.Check.{onto, barred, move_of}
use Rattle.grammar.specs.Turn.{after_of, turn_of}
use Rattle.grammar.specs.Way.{way_by, way_of, move_by}
use Rattle.grammar.specs.declared.answer.EventKind.TheVariants.{ValueOrStartCollection, EndCollection}
use Rattle.grammar.specs.declared.answer.Refusal.TheVariants.{TooDeep, UnexpectedEventType}
use Rattle.grammar.specs.declared.turn.Due.{Due}
use Rattle.grammar.specs.declared.turn.Turn.{Turn}
use Rattle.grammar.specs.declared.turn.Turn.TheVariants.{Pass, Open, Close, Stop}
use Rattle.grammar.specs.declared.way.Way.{Way}
use Rattle.grammar.specs.declared.way.Way.TheVariants.{Past, Into, Out, Barred}

pub way_move : (t : Turn) (due : Due) (around : List Due) → move_by (way_by t due (length around)) around ≡ move_of t due around
unfolding move_by way_by move_of
way_move (Pass next) due around = refl
way_move (Open first) due around = go (leb max_open (length around))
  where
    go : (b : Bool) → move_by (cond b (Barred TooDeep) (Into first (after_of due))) around ≡ cond b (barred TooDeep) (onto first (after_of due ∷ around))
    go true = refl
    go false = refl
way_move Close due [] = refl
way_move Close due (d ∷ around) = rw (ne_eqb (suc (length around)) 0 (λ z. omega arith))
way_move (Stop r) due around = refl

-- of an event: all that `move_of` decides is decided by the number of open containers
pub way_moves : (due : Due) (m : Meaning) (around : List Due) → move_by (way_of due (length around) m) around ≡ move_of (turn_of due m) due around
unfolding way_of
way_moves due m around = way_move (turn_of due m) due around

-- what a way tells of how many containers are open: there is room for one more, or one to leave
abbrev pub Tells : ℕ → Way → Type 0
Tells depth (Past next) = Unit {0}
Tells depth (Into first behind) = depth < max_open
Tells depth Out = depth ≡ 0 → ⊥
Tells depth (Barred r) = Unit {0}

pub way_tells : (t : Turn) (due : Due) (depth : ℕ) → Tells depth (way_by t due depth)
unfolding way_by
way_tells (Pass next) due depth = tt
way_tells (Open first) due depth = go (leb max_open depth) refl
  where
    go : (b : Bool) → leb max_open depth ≡ b → Tells depth (cond b (Barred TooDeep) (Into first (after_of due)))
    go true e = tt
    go false e = leb-false max_open depth e
way_tells Close due depth = go (eqb depth 0) refl
  where
    go : (b : Bool) → eqb depth 0 ≡ b → Tells depth (cond b (Barred (UnexpectedEventType ValueOrStartCollection EndCollection)) Out)
    go true e = tt
    go false e = eqb-false depth 0 e
way_tells (Stop r) due depth = tt
