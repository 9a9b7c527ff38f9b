-- What the writer's passes go by: the events of a tape that is one whole root.
use Rattle.std.specs.Prelude.{◌≡◌, ℕ, ◌≤◌, true, List, map, length}
use Rattle.number.specs.BeLaws.{Bytes}
use Rattle.event.specs.Format.{max_length, max_open}
use Rattle.tape.specs.Events.{events_of, meanings_in}
use Rattle.tape.specs.Events as events
use Rattle.written.specs.Graph.{Piece, piece_of}
use Rattle.written.specs.Shape.{whole}

-- the events of a tape as the writer sees them
unfoldable pub pieces_in : List ℕ → List Piece
pieces_in t = map piece_of (meanings_in t)

-- the tape has n events, which are one whole root
pub record Ready (t : List ℕ) (n : ℕ) : Type 0 where
  pub bytes : Bytes t
  pub events : events_of t ≡ events.whole (meanings_in t)
  pub count : length (meanings_in t) ≡ n
  pub short : length t ≤ max_length
  pub shaped : whole max_open (pieces_in t) ≡ true
