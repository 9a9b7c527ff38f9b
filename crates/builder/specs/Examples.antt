-- Calls one after the other, computed: each answer, and what is left.
use Rattle.std.specs.Prelude.{true, List, [], ◌∷◌, ◌≡◌, refl, ℕ, length, replicate, None}
use Rattle.event.specs.Meaning.{Meaning, array, dictionary, close, boolean, date, text}
use Rattle.grammar.specs.declared.answer.EventKind.TheVariants.{ValueOrStartCollection, DictionaryKeyOrEndCollection, StartArray, EndCollection, Boolean}
use Rattle.grammar.specs.declared.turn.Due.TheVariants.{Element, Key, Nothing}
use Rattle.builder.specs.Build.{Said, holds, refused, build_of, tape_after, builder_after}
use Rattle.builder.specs.Computed.{computed}
use Rattle.builder.specs.State.{empty_builder, open_of}
use Rattle.builder.specs.Words.{words_of}
use Rattle.builder.specs.declared.state.Builder.{Builder}

-- the answers to events, one call after the other on one tape
unfoldable pub answers : Builder → List ℕ → List Meaning → List Said
answers b tape [] = []
answers b tape (m ∷ ms) = build_of b (length tape) m ∷ answers (builder_after b (length tape) m) (tape_after b tape m) ms

-- and the tape and the builder that they leave
unfoldable pub left : Builder → List ℕ → List Meaning → List ℕ
left b tape [] = tape
left b tape (m ∷ ms) = left (builder_after b (length tape) m) (tape_after b tape m) ms

unfoldable pub behind : Builder → List ℕ → List Meaning → Builder
behind b tape [] = b
behind b tape (m ∷ ms) = behind (builder_after b (length tape) m) (tape_after b tape m) ms

-- {"k": [true]} with events between that are refused: an end with nothing open; true where a key is due; text that isn't UTF-8, and a date that is no
-- date; an end behind the lone key, which closes nothing; what comes behind the root
unfoldable pub hold : List Meaning
hold =
    close ∷ dictionary None ∷ boolean true ∷ text (0xFF ∷ []) ∷ text (0x6B ∷ []) ∷ close ∷ date 0x7FF0000000000000 ∷ array None ∷ boolean true ∷ close ∷ close ∷ text (0xFF ∷ []) ∷ []

pub called :
    answers empty_builder (replicate 10 0) hold ≡
    (refused 21 (ValueOrStartCollection ∷ EndCollection ∷ []) 0 ∷ holds 1 ∷ refused 21 (DictionaryKeyOrEndCollection ∷ Boolean ∷ []) 1 ∷ refused 20 [] 1 ∷
    holds 4 ∷ refused 21 (DictionaryKeyOrEndCollection ∷ EndCollection ∷ []) 4 ∷ refused 20 [] 4 ∷ holds 5 ∷ holds 6 ∷ holds 7 ∷ holds 8 ∷ refused 23 [] 8 ∷ [])
unfolding computed hold answers
called = refl

pub built : left empty_builder (replicate 10 0) hold ≡ (0x0C ∷ 0x09 ∷ 0x01 ∷ 0x6B ∷ 0x0A ∷ 0x02 ∷ 0x0E ∷ 0x0E ∷ 0 ∷ 0 ∷ [])
unfolding computed hold left
built = refl

-- 27 comes behind the event's own refusals, and 32 before all: true where a key is due on a tape that is full; a text that doesn't fit; the tape shrank
pub orders :
    (build_of (behind empty_builder (replicate 1 0) (dictionary None ∷ [])) 1 (boolean true) ∷
    build_of (behind empty_builder (replicate 1 0) (dictionary None ∷ [])) 1 (text []) ∷
    build_of (behind empty_builder (replicate 1 0) (dictionary None ∷ [])) 0 (boolean true) ∷ []) ≡
    (refused 21 (DictionaryKeyOrEndCollection ∷ Boolean ∷ []) 1 ∷ refused 27 [] 1 ∷ refused 32 [] 0 ∷ [])
unfolding computed behind
orders = refl

-- the limits: a tape that is as long as it may be; 512 open, and a depth that no call answers, which counts as 512
pub limits :
    (build_of (record { held = 0x80000000; due = 1; depth = 1; bits = replicate 8 0 }) 0x80000001 (boolean true) ∷
    build_of (record { held = 0x7FFFFFFF; due = 1; depth = 1; bits = replicate 8 0 }) 0x80000001 (boolean true) ∷
    build_of (record { held = 9; due = 1; depth = 512; bits = replicate 8 0 }) 20 (array None) ∷
    build_of (record { held = 9; due = 1; depth = 511; bits = replicate 8 0 }) 20 (array None) ∷
    build_of (record { held = 9; due = 2; depth = 513; bits = replicate 8 0 }) 20 (array None) ∷
    []) ≡
    (refused 1 [] 0 ∷ holds 0x80000000 ∷ refused 15 [] 9 ∷ holds 10 ∷ refused 21 (DictionaryKeyOrEndCollection ∷ StartArray ∷ []) 9 ∷ [])
unfolding computed
limits = refl

-- an array in a dictionary in an array: what is due behind each, and the builder in words
pub nested :
    (open_of (behind empty_builder (replicate 9 0) (array None ∷ dictionary None ∷ text [] ∷ array None ∷ []))) ≡ (Key ∷ Element ∷ Nothing ∷ [])
unfolding computed behind
nested = refl

pub worded :
    words_of (behind empty_builder (replicate 9 0) (array None ∷ dictionary None ∷ text [] ∷ array None ∷ [])) ≡ (5 ∷ 0 ∷ 1 ∷ 3 ∷ 1 ∷ 0 ∷ replicate 14 0)
unfolding computed behind
worded = refl
