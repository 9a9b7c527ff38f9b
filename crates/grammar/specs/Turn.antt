-- What an event does where it comes. docs/FORMAT.md, rules G3 to G5.
use Rattle.std.specs.Prelude.{Bool, true, false, cond, List, ℕ}
use Rattle.event.specs.Meaning.{Meaning, array, dictionary, close, boolean, bytes, date, integer, real, text, uid}
use Rattle.tape.specs.Item.{Reading, event, bad, read_at}
use Rattle.grammar.specs.declared.answer.EventKind.{EventKind}
use Rattle.grammar.specs.declared.answer.EventKind.TheVariants.{DictionaryKeyOrEndCollection, StartArray, StartDictionary, EndCollection, Boolean, Data, Date, Integer, Real, Uid}
use Rattle.grammar.specs.declared.answer.Refusal.{Refusal}
use Rattle.grammar.specs.declared.answer.Refusal.TheVariants.{BadTape, UnexpectedEventType, TrailingEvents}
use Rattle.grammar.specs.declared.turn.Due.{Due}
use Rattle.grammar.specs.declared.turn.Due.TheVariants.{Root, Element, Key, Value, Nothing}
use Rattle.grammar.specs.declared.turn.Turn.{Turn}
use Rattle.grammar.specs.declared.turn.Turn.TheVariants.{Pass, Open, Close, Stop}

unfoldable pub is_nothing : Due → Bool
is_nothing Root = false
is_nothing Element = false
is_nothing Key = false
is_nothing Value = false
is_nothing Nothing = true

-- what is due behind a value or a whole container
unfoldable pub after_of : Due → Due
after_of Root = Nothing
after_of Element = Element
after_of Key = Value
after_of Value = Key
after_of Nothing = Nothing

unfoldable pub unexpected_of : EventKind → EventKind → Turn
unexpected_of expected found = Stop (UnexpectedEventType expected found)

-- the turn of what is no text: no key (G5), and nothing behind the root (G3)
unfoldable pub unless_key : Due → EventKind → Turn → Turn
unless_key Root found t = t
unless_key Element found t = t
unless_key Key found t = unexpected_of DictionaryKeyOrEndCollection found
unless_key Value found t = t
unless_key Nothing found t = Stop TrailingEvents

-- an end closes what is open, but not behind a lone key (G5). Where the root is due nothing is open, which `move_of` refuses
unfoldable pub end_turn : Due → Turn
end_turn Root = Close
end_turn Element = Close
end_turn Key = Close
end_turn Value = unexpected_of DictionaryKeyOrEndCollection EndCollection
end_turn Nothing = Stop TrailingEvents

-- text is a value and a key
unfoldable pub text_turn : Due → Turn
text_turn due = cond (is_nothing due) (Stop TrailingEvents) (Pass (after_of due))

-- given lengths don't count
unfoldable pub turn_of : Due → Meaning → Turn
turn_of due (array n) = unless_key due StartArray (Open Element)
turn_of due (dictionary n) = unless_key due StartDictionary (Open Key)
turn_of due close = end_turn due
turn_of due (boolean b) = unless_key due Boolean (Pass (after_of due))
turn_of due (bytes s) = unless_key due Data (Pass (after_of due))
turn_of due (date b) = unless_key due Date (Pass (after_of due))
turn_of due (integer z) = unless_key due Integer (Pass (after_of due))
turn_of due (real b) = unless_key due Real (Pass (after_of due))
turn_of due (text s) = text_turn due
turn_of due (uid n) = unless_key due Uid (Pass (after_of due))

-- the turn of what stands at a place of a tape, and where the next event begins
pub record Turned : Type 0 where
  pub turn : Turn
  pub next : ℕ

unfoldable pub stopped_at : Refusal → ℕ → Turned
stopped_at r at = record { turn = Stop r; next = at }

-- the turn of what is read at a place (G4)
unfoldable pub turn_by : Due → ℕ → Reading → Turned
turn_by due at (event m next) = record { turn = turn_of due m; next = next }
turn_by due at bad = stopped_at BadTape at

-- behind the root no byte is looked at (G3)
unfoldable pub turn_at : List ℕ → ℕ → Due → Turned
turn_at tape at due = cond (is_nothing due) (stopped_at TrailingEvents at) (turn_by due at (read_at tape at))
