-- The pass that numbers objects, by what it does to the words.
use Rattle.std.specs.Prelude.{◌≡◌, ℕ, suc, ◌+◌, ◌*◌, ◌<◌, ◌≤◌, cond, List, [], ◌∷◌, ◌++◌, map, length, ◌==◌, nat_eq, slice_index, slice_set}
use Rattle.written.specs.Graph.{Piece, Name, same, kids}
use Rattle.written.specs.Nub.{has, nub, index_of}
use Rattle.written.specs.Upto.{names_upto}
use Rattle.written.specs.Weigh.{rep_of}
use Rattle.writer.specs.Ready.{pieces_in}

-- A walk over the words, from event i up to the end at stop, meets these first events: of an array those of its members (pair 0, side 0); of
-- a dictionary, in pairs of a key i and a value i + 1, those of its keys (pair 1, side 0) or of its values (pair 1, side 1). It stays
-- inside the n events and goes on.
abbrev pub Path : List ℕ → ℕ → ℕ → ℕ → ℕ → ℕ → List ℕ → Type 0
Path w n stop pair side i [] = stop ≤ i
Path w n stop pair side i (x ∷ xs) =
    (i < stop) × (i + pair < n) × (i + side < n) × (x ≡ slice_index w (n + (i + side))) × (x < n) × (i < slice_index w (n + n + (i + pair)))
    × Path w n stop pair side (slice_index w (n + n + (i + pair))) xs

-- where the word at a place is 0 it gets the next number, plus 1
unfoldable pub new_words : List ℕ → ℕ → ℕ → List ℕ
new_words w at k = cond (slice_index w at == 0) (slice_set w at (k + 1)) w

unfoldable pub new_next : List ℕ → ℕ → ℕ → ℕ
new_next w at k = cond (slice_index w at == 0) (k + 1) k

pub record Marked : Type 0 where
  pub words : List ℕ
  pub next : ℕ

-- each that has no number gets the next
unfoldable pub marked : List ℕ → ℕ → ℕ → List ℕ → Marked
marked w n k [] = record { words = w; next = k }
marked w n k (r ∷ rs) = marked (new_words w (n * 4 + r) k) n (new_next w (n * 4 + r) k) rs

-- the number plus 1 of r among what is kept, 0 where it is not
unfoldable pub num_in : List ℕ → ℕ → ℕ
num_in kept r = cond (has nat_eq r kept) (suc (index_of nat_eq r kept)) 0

-- what has a number once the containers before event e have given theirs
unfoldable pub kept_at : List Piece → ℕ → List Name
kept_at es e = nub same (kids 0 0 es ++ names_upto e 0 es)

-- the column NUM shows that, and k is how many
pub record Numbered (t w : List ℕ) (n e k : ℕ) : Type 0 where
  pub column : (r : ℕ) → r < n → slice_index w (n * 4 + r) ≡ num_in (map (rep_of (pieces_in t)) (kept_at (pieces_in t) e)) r
  pub count : k ≡ length (kept_at (pieces_in t) e)
