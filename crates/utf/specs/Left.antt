-- What is left of the bytes from an index on, in the code's terms.
use Rattle.std.specs.Prelude.{◌≡◌, List, ◌∷◌, ℕ, ◌+◌, ◌<◌, length, get_or, drop}
use Rattle.std.proofs.Common.{add-one, drop-cons}

-- the byte at i, and what is left after it
pub left_at : (s : List ℕ) (i : ℕ) → i < length s → drop i s ≡ get_or s i 0 ∷ drop (i + 1) s
left_at s i h = rw add-one (drop-cons s i 0 h)
