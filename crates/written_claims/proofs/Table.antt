-- THE CASES of docs/FORMAT.md, P, proved together: P1 of sizes; P2 to P8, P12 and two dates of reading; P9 to P11 of writing, with [[1], "a"] and {"a": 1, "k": "a"}, which
-- pin the order of numbers and of bytes, and the reading of these five files. The case "depth" stands in crate depth.
use Rattle.std.specs.Prelude.{true, List, [], ◌∷◌, map, ◌≡◌, refl, pos, negsuc, replicate, Some}
use Rattle.number.specs.Cases.{p1}
use Rattle.number.specs.Size.{size_of}
use Rattle.event.specs.Meaning.{array, dictionary, close, boolean, integer, text}
use Rattle.reader.specs.Cases as reading
use Rattle.reader.specs.Meanings.{Told, means, ended, answers}
use Rattle.reader.specs.State.{fresh_reader}
use Rattle.written.proofs.Examples as writing
use Rattle.written.specs.File.{file_for}
use Rattle.written_claims.specs.Computed.{computed}

-- what the first eight calls on the five files answer: each event with its object's offset, then the end
abbrev readings : List (List Told)
readings =
    (means (boolean true) 8 ∷ replicate 7 ended) ∷
    (means (array (Some 3)) 8 ∷ means (integer (pos 1)) 12 ∷ means (text (0x61 ∷ [])) 14 ∷ means (integer (pos 1)) 12 ∷ means close 8 ∷ replicate 3 ended) ∷
    (means (dictionary (Some 1)) 8 ∷ means (text (0x6B ∷ [])) 11 ∷ means (array (Some 2)) 13 ∷ means (text (0x6B ∷ [])) 11 ∷ means (integer (negsuc 0)) 16 ∷ means close 13 ∷ means close 8 ∷ ended ∷ []) ∷
    (means (array (Some 2)) 8 ∷ means (array (Some 1)) 11 ∷ means (integer (pos 1)) 13 ∷ means close 11 ∷ means (text (0x61 ∷ [])) 15 ∷ means close 8 ∷ replicate 2 ended) ∷
    (means (dictionary (Some 2)) 8 ∷ means (text (0x61 ∷ [])) 13 ∷ means (integer (pos 1)) 17 ∷ means (text (0x6B ∷ [])) 15 ∷ means (text (0x61 ∷ [])) 13 ∷ means close 8 ∷ replicate 2 ended) ∷
    []

readings_right : map (λ (c : writing.Case). answers 8 c.file fresh_reader) writing.cases ≡ readings
unfolding computed
readings_right = refl

pub cases :
    -- P1
    (map size_of (0 ∷ 255 ∷ 256 ∷ 65_535 ∷ 65_536 ∷ 4_294_967_295 ∷ 4_294_967_296 ∷ []) ≡ 1 ∷ 1 ∷ 2 ∷ 2 ∷ 4 ∷ 4 ∷ 8 ∷ []) ×
    -- P2 to P8, P12, the dates next to and at infinity
    (map (λ (c : reading.Case). answers 3 c.file fresh_reader) reading.cases ≡ map (λ (c : reading.Case). c.answer) reading.cases) ×
    -- P9, P10, P11, [[1], "a"] and {"a": 1, "k": "a"}: written, and read
    (map (λ (c : writing.Case). file_for c.events) writing.cases ≡ map (λ (c : writing.Case). c.file) writing.cases) ×
    (map (λ (c : writing.Case). answers 8 c.file fresh_reader) writing.cases ≡ readings)
cases = (p1, reading.cases_right, writing.cases_right, readings_right)
