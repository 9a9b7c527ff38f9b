-- The references of a container, as they stand in the file.
use Rattle.std.specs.Prelude.{List, [], ◌∷◌, map, ℕ, zero, suc, ◌+◌, ◌*◌, None, Some, Option}
use Rattle.number.specs.Width.{bytes_in}
use Rattle.number.specs.declared.width.Width.{Width}
use Rattle.object.specs.Container.{container_at}
use Rattle.object.specs.declared.container.Container.{Container}
use Rattle.object.specs.declared.container.Container.TheVariants.{Array, Dictionary, NoContainer}
use Rattle.layout.specs.Layout.{number_at, stands_at}
use Rattle.layout.specs.declared.layout.Layout.{Layout}

-- so many numbers of a width, one behind the other from an offset on
unfoldable pub row : List ℕ → Width → ℕ → ℕ → List (Option ℕ)
row file w at zero = []
row file w at (suc n) = number_at file w at ∷ row file w (at + bytes_in w) n

-- the elements of two lists in turn
unfoldable pub in_turn : List (Option ℕ) → List (Option ℕ) → List (Option ℕ)
in_turn [] values = values
in_turn (key ∷ keys) [] = key ∷ keys
in_turn (key ∷ keys) (value ∷ values) = key ∷ value ∷ in_turn keys values

-- the references of a container, in the order in which they come: of a dictionary the keys stand before the values, and come in turn with them (R9, R17). One that doesn't lie within the file is None
unfoldable pub entries_in : List ℕ → Width → Container → List (Option ℕ)
entries_in file w NoContainer = []
entries_in file w (Array e) = row file w e.start e.count
entries_in file w (Dictionary e) = in_turn (row file w e.start e.count) (row file w (e.start + e.count * bytes_in w) e.count)

-- how many elements or pairs a container has
unfoldable pub length_of : Container → Option ℕ
length_of NoContainer = None
length_of (Array e) = Some e.count
length_of (Dictionary e) = Some e.count

-- the number that a reference is; 0 for one outside the file, which no container that was looked up has
unfoldable pub number_in : Option ℕ → ℕ
number_in (Some n) = n
number_in None = 0

-- the references of the object at an offset; none where no container stands
unfoldable pub references : List ℕ → Width → ℕ → List ℕ
references file w offset = map number_in (entries_in file w (container_at file offset))

-- the same of the object with a number, which stands where its entry in the offset table says
unfoldable pub entries_of : List ℕ → Layout → ℕ → List (Option ℕ)
entries_of file l n = entries_in file l.refs (stands_at file l n).container

unfoldable pub references_of : List ℕ → Layout → ℕ → List ℕ
references_of file l n = map number_in (entries_of file l n)
