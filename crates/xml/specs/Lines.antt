-- The lines of a tape's events put into lent memory from a place on.
use Rattle.std.specs.Prelude.{List, [], ◌≡◌, ℕ, ◌+◌, ◌≤◌, ◌<◌, length, Result, Ok, Err, Some}
use Rattle.std.proofs.lemmas.List.Edits.{sets}
use Rattle.event.specs.Meaning.{Meaning, array, dictionary, close, boolean, bytes, date, integer, real, text, uid}
use Rattle.grammar.specs.Check.{check_of}
use Rattle.grammar.specs.Said as check
use Rattle.grammar.specs.Turn.{after_of}
use Rattle.grammar.specs.declared.turn.Due.{Due}
use Rattle.grammar.specs.declared.turn.Due.TheVariants.{Root, Element, Key}
use Rattle.grammar.specs.declared.way.Way.{Way}
use Rattle.grammar.specs.declared.way.Way.TheVariants.{Past, Into, Out}
use Rattle.tape.specs.Events.{meanings_in}
use Rattle.tape.specs.Item.{item_at, event, read_at}
use Rattle.tape.specs.declared.item.Item.{Item}
use Rattle.xml.specs.Put.{Lined}
use Rattle.xml.specs.Said.{bar_number}
use Rattle.xml.specs.Write.{Said, refused, by_events}
use Rattle.xml.specs.Xml.{lines_from}
use Rattle.xml.specs.declared.answer.Bar.{Bar}
use Rattle.xml.specs.declared.lines.Told.{Told}

-- an event stands at a place
pub record Held (tape : List ℕ) (at : ℕ) : Type 0 where
  pub item : Item
  pub is : item_at tape at ≡ Some item

-- where an event leads that the check lets pass
unfoldable pub open_way : Due → Meaning → Way
open_way due (array n) = Into Element (after_of due)
open_way due (dictionary n) = Into Key (after_of due)
open_way due close = Out
open_way due (boolean b) = Past (after_of due)
open_way due (bytes s) = Past (after_of due)
open_way due (date b) = Past (after_of due)
open_way due (integer z) = Past (after_of due)
open_way due (real b) = Past (after_of due)
open_way due (text s) = Past (after_of due)
open_way due (uid n) = Past (after_of due)

-- what is told of it
pub record Tells (tape : List ℕ) (at : ℕ) (due : Due) (before : List ℕ) (to : ℕ) (after : List ℕ) (r : Told) : Type 0 where
  pub line : (m : Meaning) (next : ℕ) → read_at tape at ≡ event m next → Lined before to due m after r.line
  pub way : (m : Meaning) (next : ℕ) → read_at tape at ≡ event m next → r.way ≡ open_way due m
  pub next : (m : Meaning) (next : ℕ) → read_at tape at ≡ event m next → r.next ≡ next

-- the check finds the tape whole
pub record Rooted (tape : List ℕ) : Type 0 where
  pub count : ℕ
  pub whole : check_of tape ≡ check.whole count

-- no event is refused
pub record Unbarred (tape : List ℕ) : Type 0 where
  pub none : (x : Said) → by_events 0 (meanings_in tape) x ≡ x

-- the answer, where otherwise it is x
unfoldable pub lines_said : Result ℕ (Bar × ℕ) → Said → Said
lines_said (Ok n) x = x
lines_said (Err (b, place)) x = refused (bar_number b) [] place

-- all of them
pub record Laid (tape before : List ℕ) (from : ℕ) (after : List ℕ) (r : Result ℕ (Bar × ℕ)) : Type 0 where
  pub answer : (x : Said) → lines_said r x ≡ by_events 0 (meanings_in tape) x
  pub place : (n : ℕ) → r ≡ Ok n → n ≡ from + length (lines_from Root [] (meanings_in tape))
  pub small : (n : ℕ) → r ≡ Ok n → n < 0x100_0000_0000
  pub memory : (n : ℕ) → r ≡ Ok n → n ≤ length before → after ≡ sets before from (lines_from Root [] (meanings_in tape))
