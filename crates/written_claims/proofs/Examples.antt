-- {"k": ["k", -1]}, P11 of docs/FORMAT.md: it is accepted, what its file's references are, and what reading it gives.
use Rattle.std.specs.Prelude.{List, [], ◌∷◌, map, ◌≡◌, refl, ℕ, negsuc, None, Some}
use Rattle.std.proofs.Common.{ap, lit<, lit≤}
use Rattle.number.specs.declared.width.Width.TheVariants.{One}
use Rattle.event.specs.Meaning.{Meaning, array, dictionary, close, integer, text}
use Rattle.layout.specs.declared.layout.Layout.{Layout}
use Rattle.written.proofs.Examples.{examples}
use Rattle.written.specs.File.{file_for}
use Rattle.written_claims.specs.Accepted.{Accepted}
use Rattle.written_claims.specs.Computed.{computed}
use Rattle.written_claims.specs.Filled.{filled}
use Rattle.written_claims.specs.References.{named_by}

abbrev nested : List Meaning
nested = dictionary None ∷ text (0x6B ∷ []) ∷ array None ∷ text (0x6B ∷ []) ∷ integer (negsuc 0) ∷ close ∷ close ∷ []

pub nested_accepted : Accepted nested
unfolding computed
nested_accepted = record {
  held = ((tt, refl), ((lit< tt, refl), ((tt, refl), ((lit< tt, refl), ((lit< tt, refl), ((tt, refl), ((tt, refl), tt)))))));
  one = refl;
  short = lit≤ tt;
}

-- sizes of one byte, four objects, the table at 25
abbrev laid : Layout
laid = record { offsets = One; refs = One; count = 4; table = 25 }

-- the dictionary names the key and the array; the array names the key and the number
pub nested_references : map (named_by (file_for nested) laid) (0 ∷ 1 ∷ 2 ∷ 3 ∷ []) ≡ (1 ∷ 2 ∷ []) ∷ [] ∷ (1 ∷ 3 ∷ []) ∷ [] ∷ []
unfolding computed
nested_references = ap (λ (f : List ℕ). map (named_by f laid) (0 ∷ 1 ∷ 2 ∷ 3 ∷ [])) examples.2

-- reading gives the events with their lengths
pub nested_filled : filled nested ≡ dictionary (Some 1) ∷ text (0x6B ∷ []) ∷ array (Some 2) ∷ text (0x6B ∷ []) ∷ integer (negsuc 0) ∷ close ∷ close ∷ []
unfolding computed
nested_filled = refl
