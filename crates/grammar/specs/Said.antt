-- What a check says in the numbers, values and places of docs/FORMAT.md, N.
use Rattle.std.specs.Prelude.{List, [], ◌∷◌, ℕ}
use Rattle.grammar.specs.declared.answer.Checked.{Checked}
use Rattle.grammar.specs.declared.answer.Checked.TheVariants.{Whole, Refused}
use Rattle.grammar.specs.declared.answer.EventKind.{EventKind}
use Rattle.grammar.specs.declared.answer.Refusal.{Refusal}
use Rattle.grammar.specs.declared.answer.Refusal.TheVariants.{TooLong, TooDeep, BadTape, UnexpectedEventType, IncompleteRoot, TrailingEvents}

-- how many events there are, or a refusal's number, the kinds that it names, and its place
pub data Said : Type 0 where
  whole : ℕ → Said
  refused : ℕ → List EventKind → ℕ → Said

-- docs/FORMAT.md, N
unfoldable pub number_of : Refusal → ℕ
number_of TooLong = 1
number_of TooDeep = 15
number_of BadTape = 20
number_of (UnexpectedEventType expected found) = 21
number_of IncompleteRoot = 22
number_of TrailingEvents = 23

-- G5: 21 comes with what was expected and what was found
unfoldable pub kinds_of : Refusal → List EventKind
kinds_of TooLong = []
kinds_of TooDeep = []
kinds_of BadTape = []
kinds_of (UnexpectedEventType expected found) = expected ∷ found ∷ []
kinds_of IncompleteRoot = []
kinds_of TrailingEvents = []

unfoldable pub refused_at : Refusal → ℕ → Said
refused_at r place = refused (number_of r) (kinds_of r) place

unfoldable pub checked_said : Checked → Said
checked_said (Whole n) = whole n
checked_said (Refused r place) = refused_at r place
