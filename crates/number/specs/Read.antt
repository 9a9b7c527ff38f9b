-- What a part of a slice is when it is read as a number: 1 to 8 bytes, or 16 as two halves.
use Rattle.number.specs.declared.be.Halves.{Halves}
use Rattle.std.specs.Prelude.{cond, List, ℕ, ltb, eqb, length, take, drop, None, Option, Some}
use Rattle.number.specs.Be.{be}

-- 1 to 8 bytes are a number
unfoldable pub number_of : List ℕ → Option ℕ
number_of s = cond (eqb (length s) 0) None (cond (ltb 8 (length s)) None (Some (be s)))

-- 16 bytes are a number in two halves, the high one first
unfoldable pub halves_of : List ℕ → Option Halves
halves_of s = cond (eqb (length s) 16) (Some (record { high = be (take 8 s); low = be (drop 8 s) })) None
