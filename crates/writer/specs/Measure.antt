-- What the pass that measures finds out of one event.
use Rattle.std.specs.Prelude.{◌≡◌, ℕ, suc, ◌+◌, ◌<◌, ◌≤◌, List, ◌∷◌, length, drop}
use Rattle.written.specs.Graph.{Kind, Piece, start, Name, kids}
use Rattle.written.specs.Shape.{skip, Along}
use Rattle.written.specs.Weigh.{weight_of, weight_from, members_of, members_from}
use Rattle.writer.specs.Columns.{Measured}
use Rattle.writer.specs.Ready.{pieces_in}

-- event e adds so many bytes and so many members to the sums
abbrev pub Weighs : List ℕ → ℕ → ℕ → ℕ → Type 0
Weighs t e bytes members = (p : Piece) (r : List Piece) → drop e (pieces_in t) ≡ p ∷ r → (bytes ≡ weight_of (pieces_in t) e p r) × (members ≡ members_of e p r)

-- the walk from member to member of the container at e has come to i, past so many
pub record Passed (t : List ℕ) (e i members : ℕ) : Type 0 where
  pub kind : Kind
  pub behind : List Piece
  pub here : drop e (pieces_in t) ≡ start kind ∷ behind
  pub left : List Name
  pub way : Along (pieces_in t) (e + skip 0 behind) i left
  pub within : e < i
  pub count : members + length left ≡ length (kids 0 (suc e) behind)

-- the events from e on are measured, and summed up
pub record Summed (t w : List ℕ) (n e bytes members : ℕ) : Type 0 where
  pub upto : e ≤ n
  pub columns : Measured t w n e
  pub weight : bytes ≡ weight_from (pieces_in t) e (drop e (pieces_in t))
  pub count : members ≡ members_from e (drop e (pieces_in t))
