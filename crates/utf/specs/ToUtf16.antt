-- What the functions that change UTF-8 to UTF-16 answer.
use Rattle.std.specs.Prelude.{cond, List, [], ◌∷◌, ℕ, ◌+◌, ltb, length, None, Option, Some}
use Rattle.utf.specs.Unicode.{utf16, is_utf8, scalars8}

-- how many units well-formed UTF-8 has in UTF-16
unfoldable pub utf16_units_of : List ℕ → Option ℕ
utf16_units_of s = cond (is_utf8 s) (Some (length (utf16 (scalars8 s)))) None

-- how many units a byte adds: a first byte one, or two where three more follow it; a later byte none
unfoldable pub units_from : ℕ → ℕ
units_from b = cond (ltb b 0x80) 1 (cond (ltb b 0xC0) 0 (cond (ltb b 0xF0) 1 2))

-- the sum over all bytes: of a text, how many units it has
unfoldable pub units_in : List ℕ → ℕ
units_in [] = 0
units_in (b ∷ s) = units_from b + units_in s
