-- Well-formed XML, as far as there is any here: what may stand in an element. XML 1.0, productions 39 to 44 (elements), 14 (character data),
-- 68 and section 4.6 (the entities that are always there). docs/FORMAT.md, X10.
use Rattle.std.specs.Prelude.{Bool, true, false, not, ◌&&◌, ◌||◌, List, [], ◌∷◌, ◌++◌, ◌≡◌, ℕ, leb, eqb}
use Rattle.xml.specs.Words.{word_amp, word_lt, word_gt}
use Rattle.xml.specs.Xml.{start_tag, end_tag, empty_tag, entity}

pub data Entity : Type 0 where
  amp : Entity
  lt : Entity
  gt : Entity

unfoldable pub called : Entity → List ℕ
called amp = word_amp
called lt = word_lt
called gt = word_gt

-- a byte of text, a reference, an element without content, or an element around content; and what follows
pub data Content : Type 0 where
  nothing : Content
  character : ℕ → Content → Content
  reference : Entity → Content → Content
  empty : List ℕ → Content → Content
  nested : List ℕ → Content → Content → Content

-- its bytes: every start has its end, behind all that stands in it
unfoldable pub written : Content → List ℕ
written nothing = []
written (character b c) = b ∷ written c
written (reference e c) = entity (called e) ++ written c
written (empty name c) = empty_tag name ++ written c
written (nested name inside c) = start_tag name ++ (written inside ++ (end_tag name ++ written c))

-- text has neither `&` nor `<`; nor `>`, so that `]]>` can't stand in it
unfoldable pub is_text : ℕ → Bool
is_text b = not (eqb b 38 || eqb b 60 || eqb b 62)

-- a name of small letters, one at least
unfoldable pub is_small : List ℕ → Bool
is_small [] = true
is_small (b ∷ s) = leb 97 b && (leb b 122 && is_small s)

unfoldable pub is_name : List ℕ → Bool
is_name [] = false
is_name (b ∷ s) = is_small (b ∷ s)

abbrev pub Proper : Content → Type 0
Proper nothing = Unit {0}
Proper (character b c) = (is_text b ≡ true) × Proper c
Proper (reference e c) = Proper c
Proper (empty name c) = (is_name name ≡ true) × Proper c
Proper (nested name inside c) = (is_name name ≡ true) × (Proper inside × Proper c)
