-- Parts of given sizes, years or months in days, one behind the other. The first is number 1.
use Rattle.std.specs.Prelude.{cond, ℕ, zero, suc, ◌+◌, ◌-◌, ltb}
use Rattle.calendar.specs.declared.days.Place.{Place}

-- the sizes of the first n parts, added up
unfoldable pub total : (ℕ → ℕ) → ℕ → ℕ
total size zero = 0
total size (suc n) = total size n + size (suc n)

-- the part in which day n lies, counted from part i on: a part that n reaches past is taken off, and k parts at most
unfoldable pub count_off : (ℕ → ℕ) → ℕ → ℕ → ℕ → Place
count_off size zero i n = record { part = i; rest = n }
count_off size (suc k) i n = cond (ltb n (size i)) (record { part = i; rest = n }) (count_off size k (suc i) (n - size i))
