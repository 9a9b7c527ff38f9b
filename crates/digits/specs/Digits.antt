-- Numbers in decimal. docs/FORMAT.md, L2.
use Rattle.std.specs.Prelude.{cond, List, [], ◌∷◌, ◌++◌, ℕ, zero, suc, ◌+◌, ◌/◌, ◌%◌, ltb, ℤ, pos, negsuc}

-- how many decimal digits n takes, at least one; k is more than enough where n is below 10 ^ (k + 1)
unfoldable pub places_of : ℕ → ℕ → ℕ
places_of zero n = 1
places_of (suc k) n = cond (ltb n 10) 1 (suc (places_of k (n / 10)))

-- the k low decimal digits of n, the high one first; 48 is `0`
unfoldable pub digits_of : ℕ → ℕ → List ℕ
digits_of zero n = []
digits_of (suc k) n = digits_of k (n / 10) ++ ((48 + n % 10) ∷ [])

-- a number below 2^64 in decimal, without zeros in front; 2^64 - 1 has 20 digits
unfoldable pub decimal : ℕ → List ℕ
decimal n = digits_of (places_of 19 n) n

-- behind a minus; 45 is `-`
unfoldable pub minus : ℕ → List ℕ
minus n = 45 ∷ decimal n

-- an integer with its sign; `negsuc k` is -1 - k
unfoldable pub signed : ℤ → List ℕ
signed (pos n) = decimal n
signed (negsuc k) = minus (k + 1)
