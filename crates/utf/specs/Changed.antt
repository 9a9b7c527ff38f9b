-- What a change of text answers, and what it leaves in the lent memory. docs/FORMAT.md, rule R30.
use Rattle.std.specs.Prelude.{Bool, cond, List, ◌++◌, ℕ, ltb, length, drop}
use Rattle.utf.specs.declared.changed.Changed.{Changed}
use Rattle.utf.specs.declared.changed.Changed.TheVariants.{Written, NotText, NoRoom}

-- the answer, where ok says whether there is a text to change, and `text` is what it becomes
unfoldable pub changed_of : Bool → List ℕ → List ℕ → Changed
changed_of ok text out = cond ok (cond (ltb (length out) (length text)) NoRoom (Written (length text))) NotText

-- the memory: the text at its start where there is one and it fits, and the rest as it was
unfoldable pub changed_to : Bool → List ℕ → List ℕ → List ℕ
changed_to ok text out = cond ok (cond (ltb (length out) (length text)) out (text ++ drop (length text) out)) out
