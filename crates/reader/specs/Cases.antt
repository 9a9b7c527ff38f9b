-- The cases of reading of docs/FORMAT.md, P, in one table: what the first three calls on each file answer.
use Rattle.std.specs.Prelude.{List, [], ◌∷◌, ◌++◌, map, ◌≡◌, refl, ℕ, ◌+◌, pos, negsuc, length, replicate, Some}
use Rattle.event.specs.Format.{magic}
use Rattle.event.specs.Meaning.{array, date, integer, bytes, text}
use Rattle.reader.specs.Computed.{computed}
use Rattle.reader.specs.Meanings.{Told, means, ended, refused, answers}
use Rattle.reader.specs.State.{fresh_reader}

-- a number below 256 in 8 bytes, and a trailer with sizes of 1 byte: count, root 0, table offset
abbrev eight : ℕ → List ℕ
eight n = replicate 7 0 ++ (n ∷ [])

abbrev trailer : ℕ → ℕ → List ℕ
trailer count table = replicate 6 0 ++ (1 ∷ 1 ∷ []) ++ eight count ++ eight 0 ++ eight table

-- a file of one object at 8, and one whose only object stands at an offset of the header
abbrev one : List ℕ → List ℕ
one object = magic ++ object ++ (8 ∷ []) ++ trailer 1 (8 + length object)

abbrev in_header : ℕ → List ℕ
in_header offset = magic ++ (offset ∷ []) ++ trailer 1 8

pub record Case : Type 0 where
  pub file : List ℕ
  pub answer : List Told

-- P2 to P8 and P12; the date next to infinity, and infinity, which is none
abbrev pub cases : List Case
cases =
    record { file = one (0x10 ∷ 0xFF ∷ []); answer = means (integer (pos 255)) 8 ∷ ended ∷ ended ∷ [] } ∷
    record { file = one (0x13 ∷ 0x80 ∷ replicate 7 0); answer = means (integer (negsuc 9_223_372_036_854_775_807)) 8 ∷ ended ∷ ended ∷ [] } ∷
    record { file = one (0x14 ∷ replicate 8 0 ++ replicate 8 0xFF); answer = means (integer (pos 18_446_744_073_709_551_615)) 8 ∷ ended ∷ ended ∷ [] } ∷
    record { file = one (0x14 ∷ replicate 16 0xFF); answer = refused 11 [] 8 ∷ ended ∷ ended ∷ [] } ∷
    record { file = one (0x4F ∷ 0x10 ∷ 0x02 ∷ 0xAB ∷ 0xCD ∷ []); answer = means (bytes (0xAB ∷ 0xCD ∷ [])) 8 ∷ ended ∷ ended ∷ [] } ∷
    record { file = one (0x4F ∷ 0x50 ∷ 0x02 ∷ 0xAB ∷ 0xCD ∷ []); answer = refused 31 [] 8 ∷ ended ∷ ended ∷ [] } ∷
    record { file = one (0x4F ∷ 0x14 ∷ 0x02 ∷ 0xAB ∷ 0xCD ∷ []); answer = refused 31 [] 8 ∷ ended ∷ ended ∷ [] } ∷
    record { file = one (0x61 ∷ 0xD8 ∷ 0x00 ∷ []); answer = refused 13 [] 8 ∷ ended ∷ ended ∷ [] } ∷
    record { file = in_header 0; answer = means (text (0xE7 ∷ 0x81 ∷ 0xAC ∷ 0xE6 ∷ 0xA5 ∷ 0xB3 ∷ [])) 0 ∷ ended ∷ ended ∷ [] } ∷
    record { file = one (0xA1 ∷ 0x00 ∷ []); answer = means (array (Some 1)) 8 ∷ refused 14 [] 8 ∷ ended ∷ [] } ∷
    record { file = one (0x33 ∷ 0x7F ∷ 0xEF ∷ replicate 6 0xFF); answer = means (date 0x7FEF_FFFF_FFFF_FFFF) 8 ∷ ended ∷ ended ∷ [] } ∷
    record { file = one (0x33 ∷ 0x7F ∷ 0xF0 ∷ replicate 6 0); answer = refused 34 [] 8 ∷ ended ∷ ended ∷ [] } ∷
    []

pub cases_right : map (λ (c : Case). answers 3 c.file fresh_reader) cases ≡ map (λ (c : Case). c.answer) cases
unfolding computed
cases_right = refl
