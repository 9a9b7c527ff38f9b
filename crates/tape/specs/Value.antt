-- Numbers read from the tape. docs/FORMAT.md, rules T1 and T2.
use Rattle.std.specs.Prelude.{cond, List, [], ◌∷◌, ℕ, ◌+◌, ◌-◌, ◌*◌, ◌^◌, ltb, leb, eqb, length, drop, None, Option, Some}
use Rattle.number.specs.Be.{be}
use Rattle.number.specs.Part.{part}

-- a low group in front of the number n of the groups after it. Groups of 0 would be left out in the shortest form; from 2^57 on the whole is
-- above 2^64 - 1 (T1)
unfoldable pub onto : ℕ → Option (ℕ × ℕ) → Option (ℕ × ℕ)
onto b (Some (n, next)) = cond (eqb n 0) None (cond (ltb n (2 ^ 57)) (Some (n * 128 + b, next)) None)
onto b None = None

-- the number that bytes begin with, and the place after it; the bytes stand at the place `at`
unfoldable pub number_from : ℕ → List ℕ → Option (ℕ × ℕ)
number_from at [] = None
number_from at (b ∷ s) = cond (ltb b 128) (Some (b, at + 1)) (onto (b - 128) (number_from (at + 1) s))

-- the number that stands at a place of the tape
unfoldable pub number_at : List ℕ → ℕ → Option (ℕ × ℕ)
number_at tape at = number_from at (drop at tape)

-- the number of the 8 bytes at a place
unfoldable pub eight_at : List ℕ → ℕ → Option (ℕ × ℕ)
eight_at tape at = cond (leb (at + 8) (length tape)) (Some (be (part tape at 8), at + 8)) None
