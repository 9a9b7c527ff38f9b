-- What a file says under the sizes, the count and the table of its trailer.
use Rattle.std.specs.Prelude.{cond, List, [], ℕ, ◌+◌, ◌*◌, ◌/◌, ◌%◌, ltb, leb, eqb, length, None, Option, Some}
use Rattle.number.specs.Be.{be}
use Rattle.number.specs.Width.{bytes_in}
use Rattle.number.specs.declared.width.Width.{Width}
use Rattle.event.specs.declared.Event.TheVariants.{Data, String}
use Rattle.number.specs.Part.{part}
use Rattle.object.specs.Container.{container_at}
use Rattle.object.specs.Object.{Found, object_at}
use Rattle.object.specs.Object as found
use Rattle.object.specs.declared.container.Container.{Container}
use Rattle.object.specs.declared.container.Container.TheVariants.{Array, Dictionary, NoContainer}
use Rattle.object.specs.declared.content.Extent.{Extent}
use Rattle.layout.specs.Looked.{Looked, barred, missing, faulty, scalar, container, array, dictionary, Source}
use Rattle.layout.specs.declared.layout.Due.{Due}
use Rattle.layout.specs.declared.layout.Due.TheVariants.{Wrong, Close, Member}
use Rattle.layout.specs.declared.layout.Layout.{Layout}
use Rattle.layout.specs.declared.layout.Standing.{Standing}
use Rattle.layout.specs.declared.frame.Frame.{Frame}

-- the number of a width that stands at an offset, where it lies within the file
unfoldable pub number_at : List ℕ → Width → ℕ → Option ℕ
number_at file w at = cond (leb (at + bytes_in w) (length file)) (Some (be (part file at (bytes_in w)))) None

-- an entry of the offset table (docs/FORMAT.md, R4)
unfoldable pub entry_at : List ℕ → Layout → ℕ → Option ℕ
entry_at file l i = number_at file l.offsets (l.table + i * bytes_in l.offsets)

-- where the reference at a position stands among a dictionary's: the keys stand before the values, and come in turn with them (R9, R17)
unfoldable pub place_in : ℕ → ℕ → ℕ
place_in count position = position / 2 + position % 2 * count

unfoldable pub given : Option ℕ → Due
given None = Wrong
given (Some n) = Member n

-- what is due at a position of an open container at an offset, of so many references, the reference at the place that the position has
unfoldable pub due_at : List ℕ → Width → ℕ → ℕ → ℕ → ℕ → ℕ → Due
due_at file refs offset start references place position =
    cond (eqb position references) (Close offset)
    (cond (ltb position references) (given (number_at file refs (start + place * bytes_in refs))) Wrong)

-- what is due in an open container, Wrong where R21 refuses it with 17
unfoldable pub in_array : List ℕ → Width → Frame → ℕ → Extent → Due
in_array file refs f offset e =
    cond (eqb e.count f.length) (due_at file refs offset e.start f.length f.position f.position) Wrong

unfoldable pub in_dictionary : List ℕ → Width → Frame → ℕ → Extent → Due
in_dictionary file refs f offset e =
    cond (eqb e.count f.length) (due_at file refs offset e.start (2 * f.length) (place_in f.length f.position) f.position) Wrong

unfoldable pub due_in : List ℕ → Layout → Frame → ℕ → Container → Due
due_in file l f offset NoContainer = Wrong
due_in file l f offset (Array e) = in_array file l.refs f offset e
due_in file l f offset (Dictionary e) = in_dictionary file l.refs f offset e

-- a container's offset, and what stands there
abbrev pub nowhere : Standing
nowhere = record { offset = 0; container = NoContainer }

unfoldable pub stands_from : List ℕ → Option ℕ → Standing
stands_from file None = nowhere
stands_from file (Some offset) = record { offset = offset; container = container_at file offset }

unfoldable pub stands_at : List ℕ → Layout → ℕ → Standing
stands_at file l n = cond (ltb n l.count) (stands_from file (entry_at file l n)) nowhere

-- the same for an open container: nowhere where its entry isn't the offset that was kept
unfoldable pub kept_from : List ℕ → ℕ → Option ℕ → Standing
kept_from file kept None = nowhere
kept_from file kept (Some offset) = cond (eqb offset kept) (record { offset = offset; container = container_at file offset }) nowhere

unfoldable pub stands_in : List ℕ → Layout → Frame → Standing
stands_in file l f = cond (ltb f.object l.count) (kept_from file f.offset (entry_at file l f.object)) nowhere

-- what is due in an open container: it is looked at again where its entry says that it stands, if that is where it stood
unfoldable pub due_of : List ℕ → Layout → Frame → Due
due_of file l f = due_in file l f (stands_in file l f).offset (stands_in file l f).container

-- what is found at an object's offset
unfoldable pub look_in : ℕ → Found → Looked
look_in offset found.outside = barred 6 []
look_in offset (found.refused number values) = faulty number values offset
look_in offset (found.scalar e) = scalar e offset
look_in offset (found.bytes start n) = scalar Data offset
look_in offset (found.utf8 start n) = scalar String offset
look_in offset (found.utf16 start n) = scalar String offset
look_in offset (found.array n) = container array n offset
look_in offset (found.dictionary n) = container dictionary n offset

unfoldable pub look_from : List ℕ → Layout → Option ℕ → Looked
look_from file l None = missing
look_from file l (Some offset) = look_in offset (object_at file l.refs offset)

-- an object by its number (R8)
unfoldable pub look_of : List ℕ → Layout → ℕ → Looked
look_of file l n = cond (ltb n l.count) (look_from file l (entry_at file l n)) (barred 7 [])

unfoldable pub source_of : List ℕ → Layout → Source
source_of file l = record { due = due_of file l; look = look_of file l }
