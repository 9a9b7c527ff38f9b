-- Text byte by byte: what the walks over it go by. `BarLaws` has what that says of its characters.
use Rattle.std.specs.Prelude.{Bool, true, false, not, cond, ◌&&◌, ◌||◌, List, [], ◌∷◌, ℕ, ◌+◌, ltb, leb, eqb, length, get_or}

-- a byte for which no character can be barred: no control but tab, newline and return, and not the first of U+FFFE and U+FFFF
unfoldable pub is_clear : ℕ → Bool
is_clear b = (((leb 0x20 b || eqb b 9) || eqb b 10) || eqb b 13) && not (eqb b 0xEF)

-- a byte that stands for itself
unfoldable pub is_ordinary : ℕ → Bool
is_ordinary b = (not (eqb b 38) && not (eqb b 60)) && not (eqb b 62)

unfoldable pub all_clear : List ℕ → Bool
all_clear [] = true
all_clear (b ∷ s) = is_clear b && all_clear s

-- whether the first character is none of XML's: a control, or EF BF BE and EF BF BF
unfoldable pub barred_first : List ℕ → Bool
barred_first s =
    cond (is_clear (get_or s 0 0)) false
    (cond (not (eqb (get_or s 0 0) 0xEF)) true
    (cond (ltb (length s) 3) false
    (cond (not (eqb (get_or s 1 0) 0xBF)) false
    (leb 0xBE (get_or s 2 0)))))

unfoldable pub barred_in : List ℕ → Bool
barred_in [] = false
barred_in (b ∷ s) = barred_first (b ∷ s) || barred_in s

-- how many bytes more a byte takes once it is escaped
unfoldable pub more_for : ℕ → ℕ
more_for b = cond (eqb b 38) 4 0 + (cond (eqb b 60) 3 0 + cond (eqb b 62) 3 0)

unfoldable pub more_in : List ℕ → ℕ
more_in [] = 0
more_in (b ∷ s) = more_for b + more_in s
