-- What the search for an event's bytes is lent, and what it leaves.
use Rattle.std.specs.Prelude.{◌≡◌, ℕ, suc, ◌+◌, ◌-◌, ◌*◌, ◌<◌, ◌≤◌, List, ◌∷◌, length, take, drop, ◌≢◌, slice_index}
use Rattle.event.specs.Format.{max_length}
use Rattle.tape.specs.Events.{start_at}
use Rattle.written.specs.Graph.{Piece, scalar, val}
use Rattle.written.specs.Weigh.{rep_of}
use Rattle.writer.specs.Index.{slot_at, met_at, top_of, sides_of, Index}
use Rattle.writer.specs.Ready.{Ready, pieces_in}

-- what stands on the tape between word i and the next
abbrev pub between : List ℕ → List ℕ → ℕ → List ℕ
between t w i = take (slice_index w (i + 1) - slice_index w i) (drop (slice_index w i) t)

-- event e is a scalar with these bytes, OFF stands for the events up to it, and the index has those before it
pub record Sought (t w : List ℕ) (n e : ℕ) (bytes : List ℕ) : Type 0 where
  pub ready : Ready t n
  pub within : e < n
  pub long : length w ≡ n * 8
  pub off : (i : ℕ) → i ≤ e → slice_index w i ≡ start_at t i
  pub index : Index t w n e
  pub behind : List Piece
  pub here : drop e (pieces_in t) ≡ scalar bytes ∷ behind

-- what is known of an event that a search meets
abbrev pub Fit : ℕ → ℕ → ℕ → ℕ → Type 0
Fit n e met steps = (steps < met) × (met ≤ e) × (e < n) × (n ≤ max_length)

-- a search has met so many events, none of them with the bytes, and looks at a word
pub record Search (t w : List ℕ) (n e : ℕ) (bytes : List ℕ) (slot met steps : ℕ) : Type 0 where
  pub here : slot ≡ slot_at w n (top_of n bytes) (sides_of bytes) steps
  pub holds : met ≡ slice_index w slot
  pub low : n * 4 ≤ slot
  pub high : slot < n * 8
  pub under : (i b : ℕ) → b < 2 → slot ≡ n * 6 + i + i + b → i < e
  pub some : (j : ℕ) → j < steps → 0 < met_at w n (top_of n bytes) (sides_of bytes) j
  pub other : (j : ℕ) → j < steps → met_at w n (top_of n bytes) (sides_of bytes) j ≢ suc (rep_of (pieces_in t) (val bytes))
  pub few : steps ≤ e
  pub grown : 0 < met → steps < met

-- the index has event e too, and the other columns are as they were
pub record Entered (t w v : List ℕ) (n e : ℕ) : Type 0 where
  pub index : Index t v n (suc e)
  pub kept : (i : ℕ) → i < n * 4 → slice_index v i ≡ slice_index w i
  pub long : length v ≡ length w
