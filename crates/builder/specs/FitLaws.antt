-- What an event's way tells of what was due.
use Rattle.std.specs.Prelude.{Bool, true, false, cond, ◌⊎◌, ◌≡◌, refl, ℕ, leb, eqb}
use Rattle.std.proofs.Common.{inl, inr}
use Rattle.event.specs.Format.{max_open}
use Rattle.event.specs.Meaning.{Meaning, array, dictionary, close, boolean, bytes, date, integer, real, text, uid}
use Rattle.grammar.specs.Said.{number_of}
use Rattle.grammar.specs.Turn.{is_nothing, after_of, unexpected_of, unless_key, end_turn, text_turn, turn_of}
use Rattle.grammar.specs.Way.{way_by, way_of}
use Rattle.grammar.specs.declared.answer.EventKind.{EventKind}
use Rattle.grammar.specs.declared.answer.EventKind.TheVariants.{ValueOrStartCollection, StartArray, StartDictionary, EndCollection, Boolean, Data, Date, Integer, Real, Uid}
use Rattle.grammar.specs.declared.answer.Refusal.TheVariants.{TooDeep, UnexpectedEventType}
use Rattle.grammar.specs.declared.turn.Due.{Due}
use Rattle.grammar.specs.declared.turn.Due.TheVariants.{Root, Element, Key, Value, Nothing}
use Rattle.grammar.specs.declared.turn.Turn.{Turn}
use Rattle.grammar.specs.declared.turn.Turn.TheVariants.{Pass, Open, Close, Stop}
use Rattle.grammar.specs.declared.way.Way.{Way}
use Rattle.grammar.specs.declared.way.Way.TheVariants.{Past, Into, Out, Barred}

-- where a value or a container may come: not in the place of a key, nor behind the root
abbrev pub Takes : Due → Type 0
Takes Root = Unit {0}
Takes Element = Unit {0}
Takes Key = ⊥
Takes Value = Unit {0}
Takes Nothing = ⊥

-- what is due first in a container
abbrev pub First : Due → Type 0
First due = (due ≡ Element) ⊎ (due ≡ Key)

-- a turn leaves due what comes behind the event; it opens a container where one may come; no event is refused as one that is missing
abbrev FitsTurn : Due → Turn → Type 0
FitsTurn due (Pass next) = next ≡ after_of due
FitsTurn due (Open first) = First first × Takes due
FitsTurn due Close = Unit {0}
FitsTurn due (Stop r) = eqb (number_of r) 22 ≡ false

unless_fits : (due : Due) (found : EventKind) (t : Turn) → (Takes due → FitsTurn due t) → FitsTurn due (unless_key due found t)
unfolding unless_key unexpected_of number_of
unless_fits Root found t f = f tt
unless_fits Element found t f = f tt
unless_fits Key found t f = refl
unless_fits Value found t f = f tt
unless_fits Nothing found t f = refl

end_fits : (due : Due) → FitsTurn due (end_turn due)
unfolding end_turn unexpected_of number_of
end_fits Root = tt
end_fits Element = tt
end_fits Key = tt
end_fits Value = refl
end_fits Nothing = refl

text_fits : (due : Due) → FitsTurn due (text_turn due)
unfolding text_turn is_nothing number_of
text_fits Root = refl
text_fits Element = refl
text_fits Key = refl
text_fits Value = refl
text_fits Nothing = refl

turn_fits : (due : Due) (m : Meaning) → FitsTurn due (turn_of due m)
unfolding turn_of
turn_fits due (array n) = unless_fits due StartArray (Open Element) (λ t. (inl refl, t))
turn_fits due (dictionary n) = unless_fits due StartDictionary (Open Key) (λ t. (inr refl, t))
turn_fits due close = end_fits due
turn_fits due (boolean b) = unless_fits due Boolean (Pass (after_of due)) (λ t. refl)
turn_fits due (bytes s) = unless_fits due Data (Pass (after_of due)) (λ t. refl)
turn_fits due (date b) = unless_fits due Date (Pass (after_of due)) (λ t. refl)
turn_fits due (integer z) = unless_fits due Integer (Pass (after_of due)) (λ t. refl)
turn_fits due (real b) = unless_fits due Real (Pass (after_of due)) (λ t. refl)
turn_fits due (text s) = text_fits due
turn_fits due (uid n) = unless_fits due Uid (Pass (after_of due)) (λ t. refl)

-- the same of a way
abbrev pub Fits : Due → Way → Type 0
Fits due (Past next) = next ≡ after_of due
Fits due (Into first after) = (after ≡ after_of due) × (First first × Takes due)
Fits due Out = Unit {0}
Fits due (Barred r) = eqb (number_of r) 22 ≡ false

by_fits : (due : Due) (depth : ℕ) (t : Turn) → FitsTurn due t → Fits due (way_by t due depth)
unfolding way_by number_of
by_fits due depth (Pass next) f = f
by_fits due depth (Open first) f = go (leb max_open depth)
  where
    go : (b : Bool) → Fits due (cond b (Barred TooDeep) (Into first (after_of due)))
    go true = refl
    go false = (refl, f)
by_fits due depth Close f = go (eqb depth 0)
  where
    go : (b : Bool) → Fits due (cond b (Barred (UnexpectedEventType ValueOrStartCollection EndCollection)) Out)
    go true = refl
    go false = tt
by_fits due depth (Stop r) f = f

pub way_fits : (due : Due) (depth : ℕ) (m : Meaning) → Fits due (way_of due depth m)
unfolding way_of
way_fits due depth m = by_fits due depth (turn_of due m) (turn_fits due m)
