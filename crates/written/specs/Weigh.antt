-- How many bytes all objects take, summed up along the tape: each scalar where it comes first, each container without its references; and
-- how many references there are. How long the file is doesn't depend on the order of its objects.
use Rattle.std.specs.Prelude.{cond, List, [], ◌∷◌, ℕ, suc, ◌+◌, ◌/◌, eqb, length}
use Rattle.written.specs.Encoding.{head_bytes, scalar_bytes}
use Rattle.written.specs.Graph.{Kind, arr, dic, Piece, scalar, start, end, Name, val, same, kids, meant}
use Rattle.written.specs.Nub.{index_of}
use Rattle.written.specs.Shape.{name_of}

-- the names of the events, in the tape's order
unfoldable pub event_names : ℕ → List Piece → List Name
event_names n [] = []
event_names n (p ∷ es) = name_of n p ∷ event_names (suc n) es

-- the first event of a name stands for it
unfoldable pub rep_of : List Piece → Name → ℕ
rep_of es x = index_of same x (event_names 0 es)

-- a dictionary's length is its pairs
unfoldable pub counted : Kind → ℕ → ℕ
counted arr members = members
counted dic members = members / 2

-- an event's part of the sum; r are the events behind it
unfoldable pub weight_of : List Piece → ℕ → Piece → List Piece → ℕ
weight_of all i (scalar s) r = cond (eqb (rep_of all (val s)) i) (length (scalar_bytes (meant s))) 0
weight_of all i (start k) r = length (head_bytes 0 (counted k (length (kids 0 (suc i) r))))
weight_of all i end r = 0

unfoldable pub weight_from : List Piece → ℕ → List Piece → ℕ
weight_from all i [] = 0
weight_from all i (p ∷ r) = weight_of all i p r + weight_from all (suc i) r

unfoldable pub members_of : ℕ → Piece → List Piece → ℕ
members_of i (scalar s) r = 0
members_of i (start k) r = length (kids 0 (suc i) r)
members_of i end r = 0

unfoldable pub members_from : ℕ → List Piece → ℕ
members_from i [] = 0
members_from i (p ∷ r) = members_of i p r + members_from (suc i) r
