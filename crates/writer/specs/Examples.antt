-- Tapes and what the writer answers and leaves in the output, computed. Whole files stand in crates/written/specs/Examples.antt, refusals of the
-- check in crates/grammar/specs/Examples.antt.
use Rattle.std.specs.Prelude.{◌≡◌, ℕ, List, [], ◌∷◌, ◌++◌, replicate, refl}
use Rattle.grammar.specs.declared.answer.EventKind.TheVariants.{DictionaryKeyOrEndCollection, Integer}
use Rattle.writer.specs.Computed.{computed}
use Rattle.writer.specs.Write.{long, refused, write_of, output_of, used_of}

-- P10 of docs/FORMAT.md, [1, "a", 1], with a given length: five events, a file of 51 bytes
abbrev tape : List ℕ
tape = 0x0B ∷ 0x03 ∷ 0x03 ∷ 0x01 ∷ 0x09 ∷ 0x01 ∷ 0x61 ∷ 0x03 ∷ 0x01 ∷ 0x0E ∷ []

abbrev written : List ℕ
written =
    0x62 ∷ 0x70 ∷ 0x6C ∷ 0x69 ∷ 0x73 ∷ 0x74 ∷ 0x30 ∷ 0x30 ∷ 0xA3 ∷ 0x01 ∷ 0x02 ∷ 0x01 ∷ 0x10 ∷ 0x01 ∷ 0x51 ∷ 0x61 ∷ 0x08 ∷ 0x0C ∷ 0x0E ∷ 0 ∷ 0 ∷ 0 ∷ 0 ∷ 0 ∷ 0 ∷ 1 ∷ 1 ∷
    0 ∷ 0 ∷ 0 ∷ 0 ∷ 0 ∷ 0 ∷ 0 ∷ 3 ∷ 0 ∷ 0 ∷ 0 ∷ 0 ∷ 0 ∷ 0 ∷ 0 ∷ 0 ∷ 0 ∷ 0 ∷ 0 ∷ 0 ∷ 0 ∷ 0 ∷ 0 ∷ 16 ∷ []

-- just enough room; a word too few; a byte too few; both: the words are asked for first
pub answers :
    (write_of tape 40 51 ≡ long 51) ×
    (write_of tape 39 51 ≡ refused 24 [] 0) ×
    (write_of tape 40 50 ≡ refused 25 [] 0) ×
    (write_of tape 39 50 ≡ refused 24 [] 0) ×
    -- a tape that is none is refused first: {1 ..
    (write_of (0x0C ∷ 0x03 ∷ 0x01 ∷ []) 0 0 ≡ refused 21 (DictionaryKeyOrEndCollection ∷ Integer ∷ []) 1)
unfolding computed
answers = (refl, refl, refl, refl, refl)

-- the file stands at the output's start, and what lies behind it stays; a refusal leaves it all; how many words may change
pub memory :
    (output_of tape 40 (replicate 53 7) ≡ written ++ (7 ∷ 7 ∷ [])) ×
    (output_of tape 40 (replicate 50 7) ≡ replicate 50 7) ×
    (output_of tape 39 (replicate 53 7) ≡ replicate 53 7) ×
    (used_of tape 50 ≡ 40) ×
    (used_of tape 39 ≡ 0)
unfolding computed
memory = (refl, refl, refl, refl, refl)
