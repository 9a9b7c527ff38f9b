-- What looking an object up answers.
use Rattle.std.specs.Prelude.{List, [], ℕ, Some}
use Rattle.event.specs.declared.Event.{Event}
use Rattle.event.specs.declared.Event.TheVariants.{StartArray, StartDictionary}
use Rattle.layout.specs.declared.frame.Frame.{Frame}
use Rattle.layout.specs.declared.layout.Due.{Due}

pub data Shape : Type 0 where
  array : Shape
  dictionary : Shape

-- what an object is: refused before it is sought, with number and values; not in this file; refused at an offset; a scalar
-- at an offset; a container with its length at an offset
pub data Looked : Type 0 where
  barred : ℕ → List ℕ → Looked
  missing : Looked
  faulty : ℕ → List ℕ → ℕ → Looked
  scalar : Event → ℕ → Looked
  container : Shape → ℕ → ℕ → Looked

-- the same to a reader that sought a place last, which a refusal carries where nothing is sought; what isn't in this file is refused with 17
-- and the place 0
unfoldable pub with_place : ℕ → Looked → Looked
with_place place (barred number values) = faulty number values place
with_place place missing = faulty 17 [] 0
with_place place (faulty number values offset) = faulty number values offset
with_place place (scalar e offset) = scalar e offset
with_place place (container shape n offset) = container shape n offset

-- all that a file tells a reader once its trailer is read. What is due in an open container: Wrong where it isn't what the state says of it;
-- its end, Close, with its offset; or Member, a reference
pub record Source : Type 0 where
  pub due : Frame → Due
  pub look : ℕ → Looked

-- the event that a container begins with
unfoldable pub start_of : Shape → ℕ → Event
start_of array n = StartArray (Some n)
start_of dictionary n = StartDictionary (Some n)
