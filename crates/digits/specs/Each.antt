-- What holds of each byte.
use Rattle.std.specs.Prelude.{List, [], ◌∷◌, ◌++◌, ℕ}

abbrev pub Each : (ℕ → Type 0) → List ℕ → Type 0
Each P [] = Unit {0}
Each P (b ∷ s) = P b × Each P s

pub each_append : (P : ℕ → Type 0) (s t : List ℕ) → Each P s → Each P t → Each P (s ++ t)
each_append P [] t h k = k
each_append P (b ∷ s) t h k = (h.0, each_append P s t h.1 k)
