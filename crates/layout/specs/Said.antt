-- What is looked up, what is due, and a trailer, in the numbers, values and places of table N of docs/FORMAT.md.
use Rattle.std.specs.Prelude.{List, [], ℕ}
use Rattle.object.specs.Refusal.{number_of as object_number, values_of as object_values}
use Rattle.layout.specs.Bytes.{Asked, in_file, in_utf16, no_bytes, denied}
use Rattle.layout.specs.Looked.{Looked, faulty, scalar, container, Shape, array, dictionary}
use Rattle.layout.specs.Trailer.{Trailer, keeps, ends, lays}
use Rattle.layout.specs.declared.layout.Due.{Due}
use Rattle.layout.specs.declared.layout.Due.TheVariants.{Wrong, Close, Member}
use Rattle.layout.specs.declared.lookup.Look.{Look}
use Rattle.layout.specs.declared.lookup.Look.TheVariants.{Missing, Refused, Scalar, Container}
use Rattle.layout.specs.declared.lookup.Shape.{Shape as ShapeRead}
use Rattle.layout.specs.declared.lookup.Shape.TheVariants.{Array, Dictionary}
use Rattle.layout.specs.declared.lookup.Span.{Span}
use Rattle.layout.specs.declared.lookup.Span.TheVariants.{InFile, InUtf16, NoBytes}
use Rattle.layout.specs.declared.refusal.Refusal.{Refusal}
use Rattle.layout.specs.declared.refusal.Refusal.TheVariants.{TooLong, EndOfInput, InvalidMagic, InvalidTrailerObjectOffsetSize, InvalidTrailerObjectReferenceSize, ObjectReferenceTooLarge, Object}
use Rattle.layout.specs.declared.trailer.TrailerRead.{TrailerRead}
use Rattle.layout.specs.declared.trailer.TrailerRead.TheVariants.{Keeps, Ends, Lays}

-- an object's refusals, and the file's own (docs/FORMAT.md, N)
unfoldable pub number_of : Refusal → ℕ
number_of TooLong = 1
number_of EndOfInput = 2
number_of InvalidMagic = 3
number_of InvalidTrailerObjectOffsetSize = 4
number_of InvalidTrailerObjectReferenceSize = 5
number_of ObjectReferenceTooLarge = 7
number_of (Object r) = object_number r

unfoldable pub values_of : Refusal → List ℕ
values_of TooLong = []
values_of EndOfInput = []
values_of InvalidMagic = []
values_of InvalidTrailerObjectOffsetSize = []
values_of InvalidTrailerObjectReferenceSize = []
values_of ObjectReferenceTooLarge = []
values_of (Object r) = object_values r

unfoldable pub shape_said : ShapeRead → Shape
shape_said Array = array
shape_said Dictionary = dictionary

-- what isn't in this file is 17 at the place 0
unfoldable pub look_said : Look → Looked
look_said Missing = faulty 17 [] 0
look_said (Refused r place) = faulty (number_of r) (values_of r) place
look_said (Scalar e span offset) = scalar e offset
look_said (Container shape n offset) = container (shape_said shape) n offset

unfoldable pub trailer_said : TrailerRead → Trailer
trailer_said (Keeps r place) = keeps (number_of r) (values_of r) place
trailer_said (Ends r place) = ends (number_of r) (values_of r) place
trailer_said (Lays l root) = lays l root

unfoldable pub span_said : Span → Asked
span_said (InFile p) = in_file p.start p.length
span_said (InUtf16 p) = in_utf16 p.start p.length
span_said NoBytes = no_bytes

-- where the bytes of what is looked up stand
unfoldable pub look_bytes : Look → Asked
look_bytes Missing = denied 17 []
look_bytes (Refused r place) = denied 17 []
look_bytes (Scalar e span offset) = span_said span
look_bytes (Container shape n offset) = denied 17 []

-- what is due in an open container: a refusal with number, values and place; its end, with its offset; or an object by its number
pub data DueSaid : Type 0 where
  refuses : ℕ → List ℕ → ℕ → DueSaid
  closes : ℕ → DueSaid
  names : ℕ → DueSaid

-- a container that isn't the one that the state says is 17 at the place 0 (R21)
unfoldable pub due_said : Due → DueSaid
due_said Wrong = refuses 17 [] 0
due_said (Close offset) = closes offset
due_said (Member n) = names n
