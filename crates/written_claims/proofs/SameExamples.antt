-- Pairs of tapes, computed: the same record with and without lengths, records that differ in a sign, and a refusal of the same event.
use Rattle.std.specs.Prelude.{List, [], ◌∷◌, ◌≡◌, refl, ℕ, get_or}
use Rattle.std.proofs.Common.{sym, ap, ◌∙◌, arith}
use Rattle.tape.specs.Events.{meanings_in}
use Rattle.grammar.specs.declared.answer.EventKind.TheVariants.{DictionaryKeyOrEndCollection, Integer}
use Rattle.written.specs.File.{file_for}
use Rattle.writer.specs.Write.{long, refused, write_of}
use Rattle.written_claims.specs.Computed.{computed}

-- {"a": [1]} without lengths, with its lengths, and with lengths that are wrong
abbrev without : List ℕ
without = 0x0C ∷ 0x09 ∷ 0x01 ∷ 0x61 ∷ 0x0A ∷ 0x03 ∷ 0x01 ∷ 0x0E ∷ 0x0E ∷ []

abbrev given : List ℕ
given = 0x0D ∷ 0x01 ∷ 0x09 ∷ 0x01 ∷ 0x61 ∷ 0x0B ∷ 0x01 ∷ 0x03 ∷ 0x01 ∷ 0x0E ∷ 0x0E ∷ []

abbrev wrong : List ℕ
wrong = 0x0D ∷ 0x07 ∷ 0x09 ∷ 0x01 ∷ 0x61 ∷ 0x0B ∷ 0xC8 ∷ 0x01 ∷ 0x03 ∷ 0x01 ∷ 0x0E ∷ 0x0E ∷ []

-- one file, which has room in 53 bytes and not in 52; one answer where the words are too few
pub with_lengths :
    (file_for (meanings_in given) ≡ file_for (meanings_in without)) ×
    (file_for (meanings_in wrong) ≡ file_for (meanings_in without)) ×
    (write_of without 48 53 ≡ long 53) ×
    (write_of given 48 53 ≡ long 53) ×
    (write_of wrong 48 53 ≡ long 53) ×
    (write_of without 48 52 ≡ refused 25 [] 0) ×
    (write_of wrong 48 52 ≡ refused 25 [] 0) ×
    (write_of without 47 53 ≡ refused 24 [] 0) ×
    (write_of wrong 47 53 ≡ refused 24 [] 0)
unfolding computed
with_lengths = (refl, refl, refl, refl, refl, refl, refl, refl, refl)

-- {1 .., refused at event 1, without a length and with one
pub same_event :
    (write_of (0x0C ∷ 0x03 ∷ 0x01 ∷ []) 0 0 ≡ refused 21 (DictionaryKeyOrEndCollection ∷ Integer ∷ []) 1) ×
    (write_of (0x0D ∷ 0x05 ∷ 0x03 ∷ 0x01 ∷ []) 0 0 ≡ refused 21 (DictionaryKeyOrEndCollection ∷ Integer ∷ []) 2)
unfolding computed
same_event = (refl, refl)

-- [0.0] and [-0.0]
abbrev plus : List ℕ
plus = 0x0A ∷ 0x05 ∷ 0x00 ∷ 0x00 ∷ 0x00 ∷ 0x00 ∷ 0x00 ∷ 0x00 ∷ 0x00 ∷ 0x00 ∷ 0x0E ∷ []

abbrev minus : List ℕ
minus = 0x0A ∷ 0x05 ∷ 0x80 ∷ 0x00 ∷ 0x00 ∷ 0x00 ∷ 0x00 ∷ 0x00 ∷ 0x00 ∷ 0x00 ∷ 0x0E ∷ []

-- the files are as long, and differ in the real's first byte
pub signs :
    (write_of plus 24 53 ≡ long 53) ×
    (write_of minus 24 53 ≡ long 53) ×
    (get_or (file_for (meanings_in plus)) 11 0 ≡ 0x00) ×
    (get_or (file_for (meanings_in minus)) 11 0 ≡ 0x80)
unfolding computed
signs = (refl, refl, refl, refl)

pub two_files : file_for (meanings_in plus) ≡ file_for (meanings_in minus) → ⊥
two_files e =
    let z : ◌≡◌ {A = ℕ} 0x00 0x80 = sym signs.2 ∙ ap (λ (f : List ℕ). get_or f 11 0) e ∙ signs.3 in
    omega arith
