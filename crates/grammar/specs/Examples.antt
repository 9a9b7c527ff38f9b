-- Tapes and what a check of them says, computed.
use Rattle.std.specs.Prelude.{true, [], ◌∷◌, ◌++◌, map, ◌≡◌, refl, pos, replicate, None}
use Rattle.event.specs.Meaning.{array, dictionary, close, boolean, bytes, date, integer, real, text, uid}
use Rattle.grammar.specs.Check.{check_of}
use Rattle.grammar.specs.Computed.{computed}
use Rattle.grammar.specs.Said.{whole, refused}
use Rattle.grammar.specs.Turn.{unexpected_of, turn_of}
use Rattle.grammar.specs.declared.answer.EventKind.TheVariants.{ValueOrStartCollection, DictionaryKeyOrEndCollection, StartArray, StartDictionary, EndCollection, Boolean, Data, Date, Integer, Real, Uid}
use Rattle.grammar.specs.declared.turn.Due.TheVariants.{Key, Value}
use Rattle.grammar.specs.declared.turn.Turn.TheVariants.{Pass, Close}

-- true; an empty dictionary; an array that is said to have five elements and has none; {"k": [true]}; P10 of docs/FORMAT.md
pub roots :
    map check_of
    ((0x02 ∷ []) ∷
    (0x0C ∷ 0x0E ∷ []) ∷
    (0x0B ∷ 0x05 ∷ 0x0E ∷ []) ∷
    (0x0C ∷ 0x09 ∷ 0x01 ∷ 0x6B ∷ 0x0A ∷ 0x02 ∷ 0x0E ∷ 0x0E ∷ []) ∷
    (0x0B ∷ 0x03 ∷ 0x03 ∷ 0x01 ∷ 0x09 ∷ 0x01 ∷ 0x61 ∷ 0x03 ∷ 0x01 ∷ 0x0E ∷ []) ∷
    []) ≡
    (whole 1 ∷ whole 2 ∷ whole 2 ∷ whole 6 ∷ whole 5 ∷ [])
unfolding computed
roots = refl

-- the empty tape; an array without its end; true behind true; what is no event behind true: 23 comes before 20; what is no event in an array,
-- and where a key is due: 20 comes before 21; an end with nothing open; an end behind a lone key; true where a key is due
pub refusals :
    map check_of
    ([] ∷
    (0x0A ∷ 0x02 ∷ []) ∷
    (0x02 ∷ 0x02 ∷ []) ∷
    (0x02 ∷ 0xFF ∷ []) ∷
    (0x0A ∷ 0xFF ∷ []) ∷
    (0x0C ∷ 0x03 ∷ 0x80 ∷ []) ∷
    (0x0E ∷ []) ∷
    (0x0C ∷ 0x09 ∷ 0x01 ∷ 0x6B ∷ 0x0E ∷ []) ∷
    (0x0C ∷ 0x02 ∷ []) ∷
    []) ≡
    (refused 22 [] 0 ∷
    refused 22 [] 2 ∷
    refused 23 [] 1 ∷
    refused 23 [] 1 ∷
    refused 20 [] 1 ∷
    refused 20 [] 1 ∷
    refused 21 (ValueOrStartCollection ∷ EndCollection ∷ []) 0 ∷
    refused 21 (DictionaryKeyOrEndCollection ∷ EndCollection ∷ []) 4 ∷
    refused 21 (DictionaryKeyOrEndCollection ∷ Boolean ∷ []) 1 ∷
    [])
unfolding computed
refusals = refl

-- 512 arrays, each in the last; 513, which gives 15 at the 513th; a dictionary in 511 of them, where an array comes as a key: 21 comes before 15
pub deep :
    map check_of
    ((replicate 512 0x0A ++ replicate 512 0x0E) ∷ replicate 513 0x0A ∷ (replicate 511 0x0A ++ (0x0C ∷ 0x0A ∷ [])) ∷ []) ≡
    (whole 1024 ∷ refused 15 [] 512 ∷ refused 21 (DictionaryKeyOrEndCollection ∷ StartArray ∷ []) 512 ∷ [])
unfolding computed
deep = refl

-- what a key may be, and what else is found where one is due
pub keys :
    map (turn_of Key)
    (text [] ∷ close ∷ array None ∷ dictionary None ∷ boolean true ∷ bytes [] ∷ date 0 ∷ integer (pos 0) ∷ real 0 ∷ uid 0 ∷ []) ≡
    (Pass Value ∷ Close ∷ map (unexpected_of DictionaryKeyOrEndCollection) (StartArray ∷ StartDictionary ∷ Boolean ∷ Data ∷ Date ∷ Integer ∷ Real ∷ Uid ∷ []))
unfolding computed
keys = refl
