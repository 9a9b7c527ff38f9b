-- ARRAYS, EACH INSIDE THE LAST: their events and their tape; their file, byte by byte; what a check and a reader say of them. The case "depth" of
-- docs/FORMAT.md, P, for any number of arrays.
use Rattle.std.specs.Prelude.{cond, List, [], ◌∷◌, ◌++◌, ℕ, zero, suc, ◌+◌, ◌*◌, eqb, leb, ltb, replicate, None, Some}
use Rattle.number.specs.Be.{bytes_of}
use Rattle.number.specs.Size.{size_of}
use Rattle.event.specs.Format.{magic, max_length, max_open}
use Rattle.event.specs.Meaning.{Meaning, array, close}
use Rattle.reader.specs.Meanings.{Told, means}
use Rattle.grammar.specs.Said.{Said, whole, refused}
use Rattle.written.specs.Encoding.{numbers_bytes, trailer_bytes}

-- n arrays, each inside the last: the events, and the tape of them without lengths
unfoldable pub nest : ℕ → List Meaning
nest n = replicate n (array None) ++ replicate n close

unfoldable pub arrays : ℕ → List ℕ
arrays n = replicate n 0x0A ++ replicate n 0x0E

-- What a check of that tape says where it isn't too long: 22 of no array, 15 at the first array too many
unfoldable pub short_as : ℕ → Said
short_as n = cond (eqb n 0) (refused 22 [] 0) (cond (leb n max_open) (whole (n + n)) (refused 15 [] max_open))

-- and of any
unfoldable pub checked_as : ℕ → Said
checked_as n = cond (ltb max_length (n + n)) (refused 1 [] 0) (short_as n)

-- The file of k + 1 of them. A reference takes the size of the last number, k; each array but the last is its marker and one reference
unfoldable pub refs : ℕ → ℕ
refs k = size_of k

unfoldable pub step : ℕ → ℕ
step k = 1 + refs k

-- where array i stands, and where the table stands, behind the last one's marker
unfoldable pub offset : ℕ → ℕ → ℕ
offset k i = 8 + i * step k

unfoldable pub table_for : ℕ → ℕ
table_for k = offset k k + 1

unfoldable pub offsets : ℕ → ℕ
offsets k = size_of (table_for k)

-- arrays with a reference of w bytes each, to i, the number after it, and so on; then an empty one
unfoldable pub chain : ℕ → ℕ → ℕ → List ℕ
chain w zero i = 0xA0 ∷ []
chain w (suc q) i = 0xA1 ∷ (bytes_of w i ++ chain w q (suc i))

-- n offsets from array i on
unfoldable pub places : ℕ → ℕ → ℕ → List ℕ
places k zero i = []
places k (suc n) i = offset k i ∷ places k n (suc i)

unfoldable pub nested : ℕ → List ℕ
nested k = magic ++ (chain (refs k) k 1 ++ (numbers_bytes (offsets k) (places k (suc k) 0) ++ trailer_bytes (offsets k) (refs k) (suc k) 0 (table_for k)))

unfoldable pub length_for : ℕ → ℕ
length_for k = table_for k + suc k * offsets k + 32

-- What a reader tells of that file: the starts of n arrays from array i on, each with one in it
unfoldable pub opened : ℕ → ℕ → ℕ → List Told
opened k zero i = []
opened k (suc n) i = means (array (Some 1)) (offset k i) ∷ opened k n (suc i)

-- the ends of the first n, the innermost first
unfoldable pub closing : ℕ → ℕ → List Told
closing k zero = []
closing k (suc n) = means close (offset k n) ∷ closing k n

-- the whole file
unfoldable pub told_for : ℕ → List Told
told_for k = opened k k 0 ++ (means (array (Some 0)) (offset k k) ∷ closing k (suc k))
