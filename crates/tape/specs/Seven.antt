-- Numbers on the tape. docs/FORMAT.md, rule T1.
use Rattle.std.specs.Prelude.{cond, List, [], ◌∷◌, ℕ, zero, suc, ◌+◌, ◌/◌, ◌%◌, ltb}

-- the groups of n, at most k of them
unfoldable pub groups : ℕ → ℕ → List ℕ
groups zero n = []
groups (suc k) n = cond (ltb n 128) (n ∷ []) ((n % 128 + 128) ∷ groups k (n / 128))

-- the groups of a number below 2^64: ten hold 70 bits
unfoldable pub seven : ℕ → List ℕ
seven n = groups 10 n
