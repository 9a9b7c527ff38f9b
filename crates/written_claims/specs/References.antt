-- What an object names, in the order in which a reader follows its references; what is reached along them; how often a number stands in a list.
use Rattle.std.specs.Prelude.{true, cond, List, [], ◌∷◌, ◌++◌, ◌≡◌, ℕ, zero, suc, ◌+◌, eqb}
use Rattle.layout.specs.Layout.{look_of}
use Rattle.layout.specs.Looked.{Looked, barred, missing, faulty, scalar, container}
use Rattle.layout.specs.References.{references_of}
use Rattle.layout.specs.declared.layout.Layout.{Layout}
use Rattle.written.specs.Nub.{has}

-- what an object with a number names: the references of a container, none of what isn't looked up as one
unfoldable pub named_in : List ℕ → Layout → ℕ → Looked → List ℕ
named_in file l i (barred number values) = []
named_in file l i missing = []
named_in file l i (faulty number values offset) = []
named_in file l i (scalar e offset) = []
named_in file l i (container shape n offset) = references_of file l i

unfoldable pub named_by : List ℕ → Layout → ℕ → List ℕ
named_by file l i = named_in file l i (look_of file l i)

-- those of k objects from one on
unfoldable pub all_references : List ℕ → Layout → ℕ → ℕ → List ℕ
all_references file l i zero = []
all_references file l i (suc k) = named_by file l i ++ all_references file l (suc i) k

-- object m names object i
abbrev pub Names : List ℕ → Layout → ℕ → ℕ → Type 0
Names file l m i = has eqb i (named_by file l m) ≡ true

-- reached from the root along references
pub data Reached (file : List ℕ) (l : Layout) (root : ℕ) : ℕ → Type 0 where
  at_root : Reached file l root root
  along : (m i : ℕ) → Reached file l root m → Names file l m i → Reached file l root i

-- how often a number stands in a list
unfoldable pub mentions : ℕ → List ℕ → ℕ
mentions i [] = 0
mentions i (r ∷ rs) = cond (eqb i r) 1 0 + mentions i rs
