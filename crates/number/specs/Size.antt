-- The size of a maximum: 1, 2, 4 or 8 bytes, the fewest that hold it. docs/FORMAT.md, rules W7, W12 and W14.
use Rattle.std.specs.Prelude.{cond, ℕ, zero, suc, ◌/◌, leb, eqb}

-- how many digits to base 256 a number has, counted up to k
unfoldable pub needed : ℕ → ℕ → ℕ
needed zero n = 0
needed (suc k) n = cond (eqb n 0) 0 (suc (needed k (n / 256)))

-- rounded up to 1, 2, 4, 8
unfoldable pub rounded : ℕ → ℕ
rounded w = cond (leb w 1) 1 (cond (leb w 2) 2 (cond (leb w 4) 4 8))

unfoldable pub size_of : ℕ → ℕ
size_of n = rounded (needed 8 n)
