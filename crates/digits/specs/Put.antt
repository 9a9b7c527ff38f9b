-- Bytes put into lent memory from a place on: whole, where they fit; else nothing changes.
use Rattle.std.specs.Prelude.{cond, List, ◌≡◌, ℕ, ◌+◌, leb, length, None, Option, Some}
use Rattle.std.proofs.lemmas.List.Edits.{sets}

-- the answer: the place behind them
unfoldable pub put_end : List ℕ → ℕ → List ℕ → Option ℕ
put_end out at vs = cond (leb (at + length vs) (length out)) (Some (at + length vs)) None

-- the memory afterwards
unfoldable pub put_into : List ℕ → ℕ → List ℕ → List ℕ
put_into out at vs = cond (leb (at + length vs) (length out)) (sets out at vs) out

-- vs stand in the memory from `at` on, which was `before` and is `after`; `end` is the place behind them
pub record Written (before : List ℕ) (at : ℕ) (vs : List ℕ) (after : List ℕ) (end : ℕ) : Type 0 where
  pub place : end ≡ at + length vs
  pub memory : after ≡ sets before at vs
