-- The worked examples of UTF-8 and UTF-16 in one table, and sequences that are not UTF-8 or not UTF-16, computed.
use Rattle.std.specs.Prelude.{Bool, true, false, not, ◌&&◌, ◌≡◌, refl, List, [], ◌∷◌, ℕ, eqb}
use Rattle.utf.specs.Computed.{computed}
use Rattle.utf.specs.Unicode.{all_scalar, utf8, utf16, is_utf8, scalars8, scalars16, unit_bytes, is_utf16, to_utf8, to_utf16}

-- a text's scalar values, its bytes in UTF-8, and its units in UTF-16
pub record Example : Type 0 where
  pub scalars : List ℕ
  pub bytes : List ℕ
  pub units : List ℕ

-- each scalar value by itself, P8 of docs/FORMAT.md, and three widths together
unfoldable pub examples : List Example
examples =
    record { scalars = 0x41 ∷ []; bytes = 0x41 ∷ []; units = 0x0041 ∷ [] } ∷
    record { scalars = 0xE9 ∷ []; bytes = 0xC3 ∷ 0xA9 ∷ []; units = 0x00E9 ∷ [] } ∷
    record { scalars = 0x706C ∷ []; bytes = 0xE7 ∷ 0x81 ∷ 0xAC ∷ []; units = 0x706C ∷ [] } ∷
    record { scalars = 0x6973 ∷ []; bytes = 0xE6 ∷ 0xA5 ∷ 0xB3 ∷ []; units = 0x6973 ∷ [] } ∷
    record { scalars = 0xFFFF ∷ []; bytes = 0xEF ∷ 0xBF ∷ 0xBF ∷ []; units = 0xFFFF ∷ [] } ∷
    record { scalars = 0x10000 ∷ []; bytes = 0xF0 ∷ 0x90 ∷ 0x80 ∷ 0x80 ∷ []; units = 0xD800 ∷ 0xDC00 ∷ [] } ∷
    record { scalars = 0x1F600 ∷ []; bytes = 0xF0 ∷ 0x9F ∷ 0x98 ∷ 0x80 ∷ []; units = 0xD83D ∷ 0xDE00 ∷ [] } ∷
    record { scalars = 0x10FFFF ∷ []; bytes = 0xF4 ∷ 0x8F ∷ 0xBF ∷ 0xBF ∷ []; units = 0xDBFF ∷ 0xDFFF ∷ [] } ∷
    record { scalars = 0x706C ∷ 0x6973 ∷ []; bytes = 0xE7 ∷ 0x81 ∷ 0xAC ∷ 0xE6 ∷ 0xA5 ∷ 0xB3 ∷ []; units = 0x706C ∷ 0x6973 ∷ [] } ∷
    record { scalars = 0xE9 ∷ 0x10FFFF ∷ 0x41 ∷ []; bytes = 0xC3 ∷ 0xA9 ∷ 0xF4 ∷ 0x8F ∷ 0xBF ∷ 0xBF ∷ 0x41 ∷ []; units = 0x00E9 ∷ 0xDBFF ∷ 0xDFFF ∷ 0x0041 ∷ [] } ∷
    []

-- not UTF-8: longer than need be, surrogates, above 10FFFF, a byte that begins nothing, and sequences cut short
unfoldable pub not_utf8 : List (List ℕ)
not_utf8 =
    (0xC0 ∷ 0x80 ∷ []) ∷
    (0xC1 ∷ 0xBF ∷ []) ∷
    (0xE0 ∷ 0x9F ∷ 0xBF ∷ []) ∷
    (0xED ∷ 0xA0 ∷ 0x80 ∷ []) ∷
    (0xF0 ∷ 0x8F ∷ 0xBF ∷ 0xBF ∷ []) ∷
    (0xF4 ∷ 0x90 ∷ 0x80 ∷ 0x80 ∷ []) ∷
    (0xF5 ∷ 0x80 ∷ 0x80 ∷ 0x80 ∷ []) ∷
    (0x80 ∷ []) ∷
    (0xC2 ∷ []) ∷
    (0xE1 ∷ 0x80 ∷ []) ∷
    []

-- not UTF-16: P7, a high surrogate last; one before another high one; a low one first; an odd byte
unfoldable pub not_utf16 : List (List ℕ)
not_utf16 =
    (0xD8 ∷ 0x00 ∷ []) ∷
    (0xD8 ∷ 0x00 ∷ 0xD8 ∷ 0x00 ∷ 0xDC ∷ 0x00 ∷ []) ∷
    (0x00 ∷ 0x41 ∷ 0xDC ∷ 0x00 ∷ []) ∷
    (0x00 ∷ 0x41 ∷ 0x00 ∷ []) ∷
    []

unfoldable pub same : List ℕ → List ℕ → Bool
same [] [] = true
same [] (b ∷ t) = false
same (a ∷ s) [] = false
same (a ∷ s) (b ∷ t) = eqb a b && same s t

-- each definition at one example
unfoldable pub right : Example → Bool
right e =
    all_scalar e.scalars &&
    same (utf8 e.scalars) e.bytes &&
    same (utf16 e.scalars) e.units &&
    same (scalars8 e.bytes) e.scalars &&
    same (scalars16 e.units) e.scalars &&
    is_utf8 e.bytes &&
    is_utf16 (unit_bytes e.units) &&
    same (to_utf8 (unit_bytes e.units)) e.bytes &&
    same (to_utf16 e.bytes) (unit_bytes e.units)

unfoldable pub all_right : List Example → Bool
all_right [] = true
all_right (e ∷ es) = right e && all_right es

unfoldable pub none : (List ℕ → Bool) → List (List ℕ) → Bool
none ok [] = true
none ok (s ∷ ss) = not (ok s) && none ok ss

pub examples_right : all_right examples ≡ true
unfolding computed examples same right all_right
examples_right = refl

pub not_utf8_refused : none is_utf8 not_utf8 ≡ true
unfolding computed not_utf8 none
not_utf8_refused = refl

pub not_utf16_refused : none is_utf16 not_utf16 ≡ true
unfolding computed not_utf16 none
not_utf16_refused = refl
