-- Whole files, computed: P9, P10 and P11 of docs/FORMAT.md, files that a wrong order of numbers or of bytes would change, and values that must not be
-- merged. compare/target/oracle, the Rust, writes the same.
use Rattle.std.specs.Prelude.{true, List, [], ◌∷◌, ◌++◌, map, ◌≡◌, refl, ℕ, pos, negsuc, None, Some}
use Rattle.event.specs.Meaning.{Meaning, array, dictionary, close, boolean, bytes, integer, real, text, uid}
use Rattle.written.specs.Computed.{computed}
use Rattle.written.specs.File.{file_for}

-- the magic, objects and offset table, then the trailer with sizes 1 and 1, the count, root 0 and the table's offset
abbrev file : List ℕ → ℕ → ℕ → List ℕ
file middle count offset =
    (0x62 ∷ 0x70 ∷ 0x6C ∷ 0x69 ∷ 0x73 ∷ 0x74 ∷ 0x30 ∷ 0x30 ∷ []) ++
    (middle ++ (0 ∷ 0 ∷ 0 ∷ 0 ∷ 0 ∷ 0 ∷ 1 ∷ 1 ∷ 0 ∷ 0 ∷ 0 ∷ 0 ∷ 0 ∷ 0 ∷ 0 ∷ count ∷ 0 ∷ 0 ∷ 0 ∷ 0 ∷ 0 ∷ 0 ∷ 0 ∷ 0 ∷ 0 ∷ 0 ∷ 0 ∷ 0 ∷ 0 ∷ 0 ∷ 0 ∷ offset ∷ []))

-- events, and the file that they are written as
pub record Case : Type 0 where
  pub events : List Meaning
  pub file : List ℕ

-- P9: true
abbrev p9 : Case
p9 = record { events = boolean true ∷ []; file = file (0x09 ∷ 0x08 ∷ []) 1 9 }

-- P10: [1, "a", 1]; equal scalars are one object
abbrev p10 : Case
p10 = record {
  events = array None ∷ integer (pos 1) ∷ text (0x61 ∷ []) ∷ integer (pos 1) ∷ close ∷ [];
  file = file (0xA3 ∷ 0x01 ∷ 0x02 ∷ 0x01 ∷ 0x10 ∷ 0x01 ∷ 0x51 ∷ 0x61 ∷ 0x08 ∷ 0x0C ∷ 0x0E ∷ []) 3 16;
}

-- P11: {"k": ["k", -1]}
abbrev p11 : Case
p11 = record {
  events = dictionary None ∷ text (0x6B ∷ []) ∷ array None ∷ text (0x6B ∷ []) ∷ integer (negsuc 0) ∷ close ∷ close ∷ [];
  file = file (0xD1 ∷ 0x01 ∷ 0x02 ∷ 0x51 ∷ 0x6B ∷ 0xA2 ∷ 0x01 ∷ 0x03 ∷ 0x13 ∷ 0xFF ∷ 0xFF ∷ 0xFF ∷ 0xFF ∷ 0xFF ∷ 0xFF ∷ 0xFF ∷ 0xFF ∷ 0x08 ∷ 0x0B ∷ 0x0D ∷ 0x10 ∷ []) 4 25;
}

-- [[1], "a"]: "a" is numbered before 1, and stands behind it
abbrev inner_first : Case
inner_first = record {
  events = array None ∷ array None ∷ integer (pos 1) ∷ close ∷ text (0x61 ∷ []) ∷ close ∷ [];
  file = file (0xA2 ∷ 0x01 ∷ 0x02 ∷ 0xA1 ∷ 0x03 ∷ 0x10 ∷ 0x01 ∷ 0x51 ∷ 0x61 ∷ 0x08 ∷ 0x0B ∷ 0x0F ∷ 0x0D ∷ []) 4 17;
}

-- {"a": 1, "k": "a"}: keys are numbered and stand before values, and a value may be a key's object
abbrev key_as_value : Case
key_as_value = record {
  events = dictionary None ∷ text (0x61 ∷ []) ∷ integer (pos 1) ∷ text (0x6B ∷ []) ∷ text (0x61 ∷ []) ∷ close ∷ [];
  file = file (0xD2 ∷ 0x01 ∷ 0x02 ∷ 0x03 ∷ 0x01 ∷ 0x51 ∷ 0x61 ∷ 0x51 ∷ 0x6B ∷ 0x10 ∷ 0x01 ∷ 0x08 ∷ 0x0D ∷ 0x0F ∷ 0x11 ∷ []) 4 19;
}

-- these five, in this order
abbrev pub cases : List Case
cases = p9 ∷ p10 ∷ p11 ∷ inner_first ∷ key_as_value ∷ []

pub examples :
    (file_for p9.events ≡ p9.file) ×
    (file_for p10.events ≡ p10.file) ×
    (file_for p11.events ≡ p11.file) ×
    (file_for inner_first.events ≡ inner_first.file) ×
    (file_for key_as_value.events ≡ key_as_value.file) ×
    -- []
    (file_for (array None ∷ close ∷ []) ≡
    file (0xA0 ∷ 0x08 ∷ []) 1 9) ×
    -- {}, with a given length that is not looked at
    (file_for (dictionary (Some 7) ∷ close ∷ []) ≡
    file (0xD0 ∷ 0x08 ∷ []) 1 9) ×
    -- [1, UID 1, 1.0]: three objects
    (file_for (array None ∷ integer (pos 1) ∷ uid 1 ∷ real 0x3FF0_0000_0000_0000 ∷ close ∷ []) ≡
    file (0xA3 ∷ 0x01 ∷ 0x02 ∷ 0x03 ∷ 0x10 ∷ 0x01 ∷ 0x80 ∷ 0x01 ∷ 0x23 ∷ 0x3F ∷ 0xF0 ∷ 0x00 ∷ 0x00 ∷ 0x00 ∷ 0x00 ∷ 0x00 ∷ 0x00 ∷ 0x08 ∷ 0x0C ∷ 0x0E ∷ 0x10 ∷ []) 4 25) ×
    -- [0.0, -0.0]: two objects
    (file_for (array None ∷ real 0 ∷ real 0x8000_0000_0000_0000 ∷ close ∷ []) ≡
    file (0xA2 ∷ 0x01 ∷ 0x02 ∷ 0x23 ∷ 0x00 ∷ 0x00 ∷ 0x00 ∷ 0x00 ∷ 0x00 ∷ 0x00 ∷ 0x00 ∷ 0x00 ∷ 0x23 ∷ 0x80 ∷ 0x00 ∷ 0x00 ∷ 0x00 ∷ 0x00 ∷ 0x00 ∷ 0x00 ∷ 0x00 ∷ 0x08 ∷ 0x0B ∷ 0x14 ∷ []) 3 29) ×
    -- ["a", the data 61]: two objects
    (file_for (array None ∷ text (0x61 ∷ []) ∷ bytes (0x61 ∷ []) ∷ close ∷ []) ≡
    file (0xA2 ∷ 0x01 ∷ 0x02 ∷ 0x51 ∷ 0x61 ∷ 0x41 ∷ 0x61 ∷ 0x08 ∷ 0x0B ∷ 0x0D ∷ []) 3 15)
unfolding computed
examples = (refl, refl, refl, refl, refl, refl, refl, refl, refl, refl)

pub cases_right : map (λ (c : Case). file_for c.events) cases ≡ map (λ (c : Case). c.file) cases
cases_right = rw (examples.0, examples.1, examples.2, examples.3, examples.4)
