-- A day and time in bytes. docs/FORMAT.md, L8.
use Rattle.std.specs.Prelude.{List, [], ◌∷◌, ◌++◌, ℕ}
use Rattle.calendar.specs.declared.Time.{Time}
use Rattle.digits.specs.Digits.{digits_of}

-- a field in so many digits, with the mark that stands behind it
unfoldable pub field : ℕ → ℕ → ℕ → List ℕ
field places n mark = digits_of places n ++ (mark ∷ [])

unfoldable pub three : ℕ → ℕ → ℕ → ℕ → ℕ → ℕ → List ℕ
three places a b c mark end = field places a mark ++ (field 2 b mark ++ field 2 c end)

-- `2001-01-01T00:00:00Z`; 45 is `-`, 84 is `T`, 58 is `:`, 90 is `Z`
unfoldable pub stamp : Time → List ℕ
stamp t = three 4 t.year t.month t.day 45 84 ++ three 2 t.hour t.minute t.second 58 90
