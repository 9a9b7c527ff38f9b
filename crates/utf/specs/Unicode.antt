-- UTF-8 and UTF-16 as the Unicode Standard has them (chapter 3, table 3-7, D76, D91, D92), on lists of numbers.
use Rattle.std.specs.Prelude.{Bool, true, false, not, cond, ◌&&◌, ◌||◌, List, [], ◌∷◌, ◌++◌, ℕ, zero, suc, ◌+◌, ◌-◌, ◌*◌, ◌/◌, ◌%◌, ltb, leb, None, Option, Some}

-- D76: "Scalar values are 0 to D7FF and E000 to 10FFFF"
unfoldable pub is_scalar : ℕ → Bool
is_scalar v = ltb v 0xD800 || (leb 0xE000 v && leb v 0x10FFFF)

unfoldable pub all_scalar : List ℕ → Bool
all_scalar [] = true
all_scalar (v ∷ vs) = is_scalar v && all_scalar vs

-- D92, the bits of UTF-8: one byte 0xxxxxxx; two 110yyyyy 10xxxxxx; three 1110zzzz 10yyyyyy 10xxxxxx; four 11110uuu 10uuzzzz 10yyyyyy 10xxxxxx
unfoldable pub utf8_of : ℕ → List ℕ
utf8_of v =
    cond (ltb v 0x80) (v ∷ [])
    (cond (ltb v 0x800) ((0xC0 + v / 0x40) ∷ (0x80 + v % 0x40) ∷ [])
    (cond (ltb v 0x10000) ((0xE0 + v / 0x1000) ∷ (0x80 + v / 0x40 % 0x40) ∷ (0x80 + v % 0x40) ∷ [])
    ((0xF0 + v / 0x40000) ∷ (0x80 + v / 0x1000 % 0x40) ∷ (0x80 + v / 0x40 % 0x40) ∷ (0x80 + v % 0x40) ∷ [])))

-- a text of scalar values in UTF-8
unfoldable pub utf8 : List ℕ → List ℕ
utf8 [] = []
utf8 (v ∷ vs) = utf8_of v ++ utf8 vs

-- D91: "a scalar value below 10000 is one unit with that value; any other, v, is two: D800 + (v - 10000) / 400, then DC00 + (v - 10000) mod 400"
unfoldable pub utf16_of : ℕ → List ℕ
utf16_of v = cond (ltb v 0x10000) (v ∷ []) ((0xD800 + (v - 0x10000) / 0x400) ∷ (0xDC00 + (v - 0x10000) % 0x400) ∷ [])

-- a text of scalar values in UTF-16
unfoldable pub utf16 : List ℕ → List ℕ
utf16 [] = []
utf16 (v ∷ vs) = utf16_of v ++ utf16 vs

-- Table 3-7, "well-formed UTF-8 byte sequences": for each row the ranges of its bytes, the first byte's first
pub data Range : Type 0 where
  ◌to◌ : ℕ → ℕ → Range

infix 68 ◌to◌
unfoldable pub table : List (List Range)
table =
    (0x00 to 0x7F ∷ []) ∷
    (0xC2 to 0xDF ∷ 0x80 to 0xBF ∷ []) ∷
    (0xE0 to 0xE0 ∷ 0xA0 to 0xBF ∷ 0x80 to 0xBF ∷ []) ∷
    (0xE1 to 0xEC ∷ 0x80 to 0xBF ∷ 0x80 to 0xBF ∷ []) ∷
    (0xED to 0xED ∷ 0x80 to 0x9F ∷ 0x80 to 0xBF ∷ []) ∷
    (0xEE to 0xEF ∷ 0x80 to 0xBF ∷ 0x80 to 0xBF ∷ []) ∷
    (0xF0 to 0xF0 ∷ 0x90 to 0xBF ∷ 0x80 to 0xBF ∷ 0x80 to 0xBF ∷ []) ∷
    (0xF1 to 0xF3 ∷ 0x80 to 0xBF ∷ 0x80 to 0xBF ∷ 0x80 to 0xBF ∷ []) ∷
    (0xF4 to 0xF4 ∷ 0x80 to 0x8F ∷ 0x80 to 0xBF ∷ 0x80 to 0xBF ∷ []) ∷
    []

unfoldable pub within : Range → ℕ → Bool
within (low to high) b = leb low b && leb b high

-- the ranges that follow a first byte: those of the row in whose first range it lies
unfoldable pub row_of : List (List Range) → ℕ → Option (List Range)
row_of [] b = None
row_of ([] ∷ rows) b = row_of rows b
row_of ((r ∷ rs) ∷ rows) b = cond (within r b) (Some rs) (row_of rows b)

-- bytes that begin inside a sequence, whose remaining ranges are given, and are well formed from there on
unfoldable pub well_formed : List Range → List ℕ → Bool
well_formed [] [] = true
well_formed [] (b ∷ bs) = elim (row_of table b) [ None ↦ false | Some rs ↦ well_formed rs bs ]
well_formed (r ∷ rs) [] = false
well_formed (r ∷ rs) (b ∷ bs) = within r b && well_formed rs bs

-- whether bytes are well-formed UTF-8
unfoldable pub is_utf8 : List ℕ → Bool
is_utf8 s = well_formed [] s

-- the scalar values of well-formed UTF-8: k bytes are still to come of one whose bits so far are v
unfoldable pub scalars_from : ℕ → ℕ → List ℕ → List ℕ
scalars_from k v [] = []
scalars_from zero v (b ∷ bs) =
    elim (ltb b 0x80) [
      | true ↦ b ∷ scalars_from 0 0 bs
      | false ↦ scalars_from (cond (ltb b 0xE0) 1 (cond (ltb b 0xF0) 2 3)) (cond (ltb b 0xE0) (b - 0xC0) (cond (ltb b 0xF0) (b - 0xE0) (b - 0xF0))) bs
    ]
scalars_from (suc k) v (b ∷ bs) =
    elim (ltb k 1) [
      | true ↦ (v * 0x40 + (b - 0x80)) ∷ scalars_from 0 0 bs
      | false ↦ scalars_from k (v * 0x40 + (b - 0x80)) bs
    ]

unfoldable pub scalars8 : List ℕ → List ℕ
scalars8 s = scalars_from 0 0 s

-- "D800 to DBFF is a high surrogate, DC00 to DFFF a low one"
unfoldable pub is_high : ℕ → Bool
is_high u = leb 0xD800 u && leb u 0xDBFF

unfoldable pub is_low : ℕ → Bool
is_low u = leb 0xDC00 u && leb u 0xDFFF

-- "a sequence is well formed when every high one is followed at once by a low one and every low one follows a high one"
unfoldable pub paired : List ℕ → Bool
paired [] = true
paired (u ∷ []) = not (is_high u) && not (is_low u)
paired (u ∷ v ∷ us) =
    elim (is_high u) [
      | true ↦ is_low v && paired us
      | false ↦ not (is_low u) && paired (v ∷ us)
    ]

-- the scalar values of well-formed UTF-16: D91 the other way
unfoldable pub scalars16 : List ℕ → List ℕ
scalars16 [] = []
scalars16 (u ∷ []) = u ∷ []
scalars16 (u ∷ v ∷ us) =
    elim (is_high u) [
      | true ↦ (0x10000 + (u - 0xD800) * 0x400 + (v - 0xDC00)) ∷ scalars16 us
      | false ↦ u ∷ scalars16 (v ∷ us)
    ]

-- UTF-16 in the file is big-endian: two bytes a unit, the high one first
unfoldable pub units_of : List ℕ → List ℕ
units_of [] = []
units_of (a ∷ []) = []
units_of (a ∷ b ∷ s) = (a * 256 + b) ∷ units_of s

unfoldable pub unit_bytes : List ℕ → List ℕ
unit_bytes [] = []
unit_bytes (u ∷ us) = (u / 256) ∷ (u % 256) ∷ unit_bytes us

unfoldable pub is_even : List ℕ → Bool
is_even [] = true
is_even (a ∷ []) = false
is_even (a ∷ b ∷ s) = is_even s

-- whether bytes are well-formed UTF-16, big-endian; an odd byte at the end is no unit
unfoldable pub is_utf16 : List ℕ → Bool
is_utf16 s = is_even s && paired (units_of s)

-- UTF-16 to scalar values to UTF-8, and UTF-8 to scalar values to UTF-16
unfoldable pub to_utf8 : List ℕ → List ℕ
to_utf8 s = utf8 (scalars16 (units_of s))

unfoldable pub to_utf16 : List ℕ → List ℕ
to_utf16 s = unit_bytes (utf16 (scalars8 s))

-- ASCII: the bytes 00 to 7F
unfoldable pub is_ascii : List ℕ → Bool
is_ascii [] = true
is_ascii (b ∷ bs) = ltb b 0x80 && is_ascii bs
