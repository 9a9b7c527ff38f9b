-- The file that events are written as. docs/FORMAT.md, rules W13 to W16.
use Rattle.std.specs.Prelude.{cond, List, [], ◌∷◌, ◌++◌, map, ℕ, ◌+◌, ◌-◌, length}
use Rattle.number.specs.Size.{size_of}
use Rattle.event.specs.Format.{magic}
use Rattle.event.specs.Meaning.{Meaning}
use Rattle.written.specs.Encoding.{object_bytes, numbers_bytes, trailer_bytes}
use Rattle.written.specs.Graph.{Piece, piece_of, Name, same, order, object_of, emission}

-- one after the other
unfoldable pub flat : (Name → List ℕ) → List Name → List ℕ
flat f [] = []
flat f (x ∷ l) = f x ++ flat f l

-- how many bytes stand before those of x
unfoldable pub ahead : (Name → List ℕ) → Name → List Name → ℕ
ahead f x [] = 0
ahead f x (y ∷ l) = cond (same x y) 0 (length (f y) + ahead f x l)

-- a reference takes the size of the greatest number (W12)
unfoldable pub ref_size : List Piece → ℕ
ref_size es = size_of (length (order es) - 1)

unfoldable pub bytes_at : List Piece → Name → List ℕ
bytes_at es x = object_bytes (ref_size es) (object_of es x)

-- the objects stand behind the magic, in the order of their bytes
unfoldable pub body : List Piece → List ℕ
body es = flat (bytes_at es) (emission es)

unfoldable pub place_of : List Piece → Name → ℕ
place_of es x = 8 + ahead (bytes_at es) x (emission es)

-- the offset table stands behind them, in the order of their numbers; an entry takes the size of the table's own offset (W14)
unfoldable pub table_at : List Piece → ℕ
table_at es = 8 + length (body es)

unfoldable pub offset_size : List Piece → ℕ
offset_size es = size_of (table_at es)

unfoldable pub table : List Piece → List ℕ
table es = numbers_bytes (offset_size es) (map (place_of es) (order es))

-- the root is object 0 (W3, W15)
unfoldable pub file_of : List Piece → List ℕ
file_of es = magic ++ (body es ++ (table es ++ trailer_bytes (offset_size es) (ref_size es) (length (order es)) 0 (table_at es)))

-- the file of what events mean (W16)
unfoldable pub file_for : List Meaning → List ℕ
file_for ms = file_of (map piece_of ms)
