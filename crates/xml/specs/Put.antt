-- A line put into lent memory from a place on: where it fits it stands there.
use Rattle.std.specs.Prelude.{Bool, true, false, List, ◌≡◌, ℕ, ◌+◌, ◌≤◌, length, Result, Ok, Err, None, Some}
use Rattle.std.proofs.lemmas.List.Edits.{sets}
use Rattle.calendar.specs.Date.{calendar_of}
use Rattle.event.specs.Meaning.{Meaning}
use Rattle.grammar.specs.declared.turn.Due.{Due}
use Rattle.xml.specs.Said.{bar_number}
use Rattle.xml.specs.Text.{barred_in}
use Rattle.xml.specs.Words.{word_date}
use Rattle.xml.specs.Write.{bar_of, date_bar}
use Rattle.xml.specs.Xml.{escape, element, day_of, worded, line_for}
use Rattle.xml.specs.declared.answer.Bar.{Bar}
use Rattle.xml.specs.declared.answer.Bar.TheVariants.{NoCharacter}

-- `end` is the place behind vs; where they fit they stand in the memory from `at` on, which was `before` and is `after`. Nothing is said of
-- the memory where they don't
pub record Placed (before : List ℕ) (at : ℕ) (vs after : List ℕ) (end : ℕ) : Type 0 where
  pub place : end ≡ at + length vs
  pub memory : at + length vs ≤ length before → after ≡ sets before at vs

-- a line that there is
pub record Puts (before : List ℕ) (at : ℕ) (line after : List ℕ) (r : Result ℕ Bar) : Type 0 where
  pub end : ℕ
  pub is : r ≡ Ok end
  pub placed : Placed before at line after end

-- text that may stand, and text that may not
pub record Worded (before : List ℕ) (at : ℕ) (key : Bool) (s after : List ℕ) (r : Result ℕ Bar) : Type 0 where
  pub stands : barred_in s ≡ false → Puts before at (element (worded key) (escape s)) after r
  pub bars : barred_in s ≡ true → r ≡ Err NoCharacter

-- a date that has a day and time, and one that has none
pub record Dayed (before : List ℕ) (at bits : ℕ) (after : List ℕ) (r : Result ℕ Bar) : Type 0 where
  pub stands : date_bar (calendar_of bits) ≡ None → Puts before at (element word_date (day_of (calendar_of bits))) after r
  pub bars : (n : ℕ) → date_bar (calendar_of bits) ≡ Some n → (b : Bar) × (r ≡ Err b) × (bar_number b ≡ n)

-- an event that has a line, and one that has none
pub record Lined (before : List ℕ) (at : ℕ) (due : Due) (m : Meaning) (after : List ℕ) (r : Result ℕ Bar) : Type 0 where
  pub stands : bar_of m ≡ None → Puts before at (line_for due m) after r
  pub bars : (n : ℕ) → bar_of m ≡ Some n → (b : Bar) × (r ≡ Err b) × (bar_number b ≡ n)
