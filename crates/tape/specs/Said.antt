-- A step along the tape, with the number and the place of a refusal. docs/FORMAT.md, rules T3 and G4.
use Rattle.std.specs.Prelude.{List, ℕ, None, Option, Some}
use Rattle.tape.specs.Item.{item_at}
use Rattle.tape.specs.declared.item.Item.{Item}

-- an item, or a refusal's number and place
pub data StepSaid : Type 0 where
  item : Item → StepSaid
  refused : ℕ → ℕ → StepSaid

-- what an answer of `step` at a place says
unfoldable pub step_said : ℕ → Option Item → StepSaid
step_said at (Some i) = item i
step_said at None = refused 20 at

-- what the step at a place of a tape says
unfoldable pub step_at : List ℕ → ℕ → StepSaid
step_at tape at = step_said at (item_at tape at)
