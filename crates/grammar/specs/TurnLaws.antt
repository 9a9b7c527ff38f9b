-- What the turn of an event goes by, and where it leads.
use Rattle.std.specs.Prelude.{true, List, [], ◌≡◌, refl, ℕ}
use Rattle.event.specs.Meaning.{Meaning, array, dictionary, close, boolean, bytes, date, integer, real, text, uid, meaning_of}
use Rattle.event.specs.Unmeasured.{unmeasured}
use Rattle.event.specs.declared.Event.{Event}
use Rattle.event.specs.declared.Event.TheVariants.{StartArray, StartDictionary, EndCollection, Boolean, Data, Date, Integer, Real, Nan, String, Uid}
use Rattle.grammar.specs.Turn.{is_nothing, unless_key, end_turn, text_turn, turn_of}
use Rattle.grammar.specs.declared.answer.Refusal.TheVariants.{TrailingEvents}
use Rattle.grammar.specs.declared.turn.Due.{Due}
use Rattle.grammar.specs.declared.turn.Due.TheVariants.{Root, Element, Key, Value, Nothing}
use Rattle.grammar.specs.declared.turn.Turn.TheVariants.{Stop}

-- the bytes of data or text don't count
pub turn_any : (due : Due) (e : Event) (s : List ℕ) → turn_of due (meaning_of e s) ≡ turn_of due (meaning_of e [])
unfolding turn_of meaning_of
turn_any due (StartArray n) s = refl
turn_any due (StartDictionary n) s = refl
turn_any due EndCollection s = refl
turn_any due (Boolean b) s = refl
turn_any due Data s = refl
turn_any due (Date b) s = refl
turn_any due (Integer i) s = refl
turn_any due (Real x) s = refl
turn_any due (Nan b) s = refl
turn_any due String s = refl
turn_any due (Uid n) s = refl

-- given lengths don't count
pub turn_unmeasured : (due : Due) (m : Meaning) → turn_of due (unmeasured m) ≡ turn_of due m
unfolding turn_of unmeasured
turn_unmeasured due (array n) = refl
turn_unmeasured due (dictionary n) = refl
turn_unmeasured due close = refl
turn_unmeasured due (boolean b) = refl
turn_unmeasured due (bytes s) = refl
turn_unmeasured due (date b) = refl
turn_unmeasured due (integer z) = refl
turn_unmeasured due (real b) = refl
turn_unmeasured due (text s) = refl
turn_unmeasured due (uid n) = refl

-- behind the root every event is one too many
trails : (m : Meaning) → turn_of Nothing m ≡ Stop TrailingEvents
unfolding turn_of unless_key end_turn text_turn is_nothing
trails (array n) = refl
trails (dictionary n) = refl
trails close = refl
trails (boolean b) = refl
trails (bytes s) = refl
trails (date b) = refl
trails (integer z) = refl
trails (real b) = refl
trails (text s) = refl
trails (uid n) = refl

pub turn_trails : (due : Due) (m : Meaning) → is_nothing due ≡ true → turn_of due m ≡ Stop TrailingEvents
unfolding is_nothing
turn_trails Root m e = cc
turn_trails Element m e = cc
turn_trails Key m e = cc
turn_trails Value m e = cc
turn_trails Nothing m e = trails m
