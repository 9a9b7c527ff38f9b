-- A hold record, paths, and what is found under them, computed.
use Rattle.std.specs.Prelude.{List, [], ◌∷◌, ◌++◌, map, ◌≡◌, refl, ℕ, pos, replicate, None, Some}
use Rattle.event.specs.Meaning.{dictionary, close, integer, text}
use Rattle.grammar.specs.declared.answer.EventKind.TheVariants.{DictionaryKeyOrEndCollection, Integer}
use Rattle.lookup.specs.Computed.{computed}
use Rattle.lookup.specs.Find.{found, not_found, refused, find_of, part_of}
use Rattle.lookup.specs.Path.{path_of, keys_of}
use Rattle.lookup.specs.Value.{value_at}

-- "hold", "until"
abbrev hold : List ℕ
hold = 0x68 ∷ 0x6F ∷ 0x6C ∷ 0x64 ∷ []

abbrev until : List ℕ
until = 0x75 ∷ 0x6E ∷ 0x74 ∷ 0x69 ∷ 0x6C ∷ []

-- {"matter": {"id": 7, "hold": {"un": 1, "until": 2, "until": 3}}}, with a given length; Q9 of docs/FORMAT.md
abbrev matter : List ℕ
matter = 0x6D ∷ 0x61 ∷ 0x74 ∷ 0x74 ∷ 0x65 ∷ 0x72 ∷ []

abbrev holding : List ℕ
holding =
    0x0C ∷ 0x09 ∷ 0x02 ∷ 0x75 ∷ 0x6E ∷ 0x03 ∷ 0x01 ∷
    (0x09 ∷ 0x05 ∷ until ++ (0x03 ∷ 0x02 ∷ (0x09 ∷ 0x05 ∷ until ++ (0x03 ∷ 0x03 ∷ 0x0E ∷ []))))

abbrev tape : List ℕ
tape = 0x0D ∷ 0x01 ∷ (0x09 ∷ 0x06 ∷ matter ++ (0x0C ∷ 0x09 ∷ 0x02 ∷ 0x69 ∷ 0x64 ∷ 0x03 ∷ 0x07 ∷ (0x09 ∷ 0x04 ∷ hold ++ (holding ++ (0x0E ∷ 0x0E ∷ [])))))

-- the first of two pairs counts, and "un" is another key; a whole container; the root; a key that begins with the one sought, and one that
-- the sought one begins with; the key in another place; a step into an integer; further into it
pub answers :
    map (λ (keys : List (List ℕ)). find_of tape (path_of keys))
    ((matter ∷ hold ∷ until ∷ []) ∷
    (matter ∷ hold ∷ []) ∷
    [] ∷
    (matter ∷ hold ∷ (0x75 ∷ 0x6E ∷ 0x74 ∷ []) ∷ []) ∷
    (matter ∷ hold ∷ (until ++ (0x73 ∷ [])) ∷ []) ∷
    (until ∷ []) ∷
    (matter ∷ (0x69 ∷ 0x64 ∷ []) ∷ []) ∷
    (matter ∷ (0x69 ∷ 0x64 ∷ []) ∷ until ∷ []) ∷
    []) ≡
    (found 37 2 ∷ found 23 26 ∷ found 0 51 ∷ not_found ∷ not_found ∷ not_found ∷ found 15 2 ∷ not_found ∷ [])
unfolding computed
answers = refl

-- what the meanings give, and the part that is handed out
pub values :
    (value_at (hold ∷ []) (dictionary None ∷ text hold ∷ integer (pos 1) ∷ text hold ∷ integer (pos 2) ∷ close ∷ []) ≡ Some (integer (pos 1) ∷ [])) ×
    (part_of tape (path_of (matter ∷ hold ∷ [])) ≡ holding) ×
    (part_of tape (path_of (hold ∷ [])) ≡ [])
unfolding computed
values = (refl, refl, refl)

-- No going back from the first pair: {"a": 1, "a": {"b": 2}} has nothing under "a", "b". Nothing is under a key in an array, [{"a": 1}]; nor in a text that is a
-- value, {"a": "b"}. A key of no bytes: {"": 1}.
pub steps :
    (find_of (0x0C ∷ 0x09 ∷ 0x01 ∷ 0x61 ∷ 0x03 ∷ 0x01 ∷ 0x09 ∷ 0x01 ∷ 0x61 ∷ 0x0C ∷ 0x09 ∷ 0x01 ∷ 0x62 ∷ 0x03 ∷ 0x02 ∷ 0x0E ∷ 0x0E ∷ []) (0x02 ∷ 0x01 ∷ 0x61 ∷ 0x01 ∷ 0x62 ∷ []) ≡ not_found) ×
    (find_of (0x0A ∷ 0x0C ∷ 0x09 ∷ 0x01 ∷ 0x61 ∷ 0x03 ∷ 0x01 ∷ 0x0E ∷ 0x0E ∷ []) (0x01 ∷ 0x01 ∷ 0x61 ∷ []) ≡ not_found) ×
    (find_of (0x0C ∷ 0x09 ∷ 0x01 ∷ 0x61 ∷ 0x09 ∷ 0x01 ∷ 0x62 ∷ 0x0E ∷ []) (0x01 ∷ 0x01 ∷ 0x62 ∷ []) ≡ not_found) ×
    (find_of (0x0C ∷ 0x09 ∷ 0x00 ∷ 0x03 ∷ 0x01 ∷ 0x0E ∷ []) (0x01 ∷ 0x00 ∷ []) ≡ found 3 2)
unfolding computed
steps = (refl, refl, refl, refl)

-- Bytes that are no path: none; a key too few; a byte behind the last; a count in two groups; a key's length in two groups; a key that is cut short. A key
-- need not be UTF-8. The tape is refused first.
pub bad_paths :
    (map keys_of ([] ∷ (0x02 ∷ 0x01 ∷ 0x61 ∷ []) ∷ (0x00 ∷ 0x00 ∷ []) ∷ (0x80 ∷ 0x00 ∷ []) ∷ (0x01 ∷ 0x81 ∷ 0x00 ∷ 0x61 ∷ []) ∷ (0x01 ∷ 0x02 ∷ 0x61 ∷ []) ∷ []) ≡ None ∷ None ∷ None ∷ None ∷ None ∷ None ∷ []) ×
    (keys_of (0x02 ∷ 0x01 ∷ 0xFF ∷ 0x00 ∷ []) ≡ Some ((0xFF ∷ []) ∷ [] ∷ [])) ×
    (find_of (0x02 ∷ []) [] ≡ refused 33 [] 0) ×
    (find_of (0x02 ∷ []) (0x01 ∷ 0x01 ∷ 0xFF ∷ []) ≡ not_found) ×
    (find_of (0x0C ∷ 0x03 ∷ 0x01 ∷ []) [] ≡ refused 21 (DictionaryKeyOrEndCollection ∷ Integer ∷ []) 1) ×
    (find_of [] [] ≡ refused 22 [] 0)
unfolding computed
bad_paths = (refl, refl, refl, refl, refl, refl)

-- 127 keys of no bytes and 128: the count takes another byte
pub counts :
    (path_of (replicate 127 []) ≡ 0x7F ∷ replicate 127 0x00) ×
    (path_of (replicate 128 []) ≡ 0x80 ∷ 0x01 ∷ replicate 128 0x00)
unfolding computed
counts = (refl, refl)
