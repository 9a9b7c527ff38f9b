-- A number by the turns of the loop that reads it: what its groups so far are worth, and what the next one counts in.
use Rattle.std.specs.Prelude.{cond, ◌&&◌, ◌≡◌, ℕ, ◌+◌, ◌*◌, ◌^◌, ◌≤◌, ◌<◌, ltb, eqb, None, Option, Some}

-- k groups are read, ten at most with the next one
pub record Units (value unit : ℕ) : Type 0 where
  pub k : ℕ
  pub few : k ≤ 9
  pub power : unit ≡ 128 ^ k
  pub low : value < unit

-- the groups so far in front of the number of those after them
unfoldable pub above : ℕ → ℕ → Option (ℕ × ℕ) → Option (ℕ × ℕ)
above value unit (Some (n, next)) =
    cond (eqb n 0 && ltb 1 unit) None (cond (ltb (n * unit + value) (2 ^ 64)) (Some (n * unit + value, next)) None)
above value unit None = None
