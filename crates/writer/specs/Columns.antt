-- The lent words as columns of one word for each of the n events, and what each pass leaves in them. Column c of event e is the word c * n + e.
use Rattle.std.specs.Prelude.{◌≡◌, ℕ, suc, ◌+◌, ◌-◌, ◌*◌, ◌<◌, ◌≤◌, List, [], ◌∷◌, length, drop, replicate, slice_index}
use Rattle.std.proofs.lemmas.List.Edits.{sets}
use Rattle.tape.specs.Events.{start_at}
use Rattle.written.specs.Graph.{Kind, Piece, scalar, start, end, Scalar, kids, meant}
use Rattle.written.specs.Scalar.{units_for}
use Rattle.written.specs.Shape.{name_of, next_at}
use Rattle.written.specs.Weigh.{rep_of}
use Rattle.writer.specs.Ready.{pieces_in}

-- the words from one place up to another are 0
unfoldable pub cleared : List ℕ → ℕ → ℕ → List ℕ
cleared w from to = sets w from (replicate (to - from) 0)

-- NEXT while the containers aren't measured: of a start itself
unfoldable pub alone_in : ℕ → List Piece → ℕ
alone_in i [] = 0
alone_in i (scalar s ∷ r) = suc i
alone_in i (start k ∷ r) = i
alone_in i (end ∷ r) = 0

-- OFF, REP, and of NEXT what an event says by itself, of the events before e
pub record Collected (t w : List ℕ) (n e : ℕ) : Type 0 where
  pub long : length w ≡ n * 8
  pub off : (i : ℕ) → i < e → slice_index w i ≡ start_at t i
  pub rep : (i : ℕ) (p : Piece) (r : List Piece) → i < e → drop i (pieces_in t) ≡ p ∷ r → slice_index w (n + i) ≡ rep_of (pieces_in t) (name_of i p)
  pub alone : (i : ℕ) → i < e → slice_index w (n + n + i) ≡ alone_in i (drop i (pieces_in t))

-- OFF and REP of all events; NEXT and LEN of those from e on, NEXT of the others as it was collected
pub record Measured (t w : List ℕ) (n e : ℕ) : Type 0 where
  pub long : length w ≡ n * 8
  pub off : (i : ℕ) → i < n → slice_index w i ≡ start_at t i
  pub rep : (i : ℕ) (p : Piece) (r : List Piece) → i < n → drop i (pieces_in t) ≡ p ∷ r → slice_index w (n + i) ≡ rep_of (pieces_in t) (name_of i p)
  pub alone : (i : ℕ) → i < e → slice_index w (n + n + i) ≡ alone_in i (drop i (pieces_in t))
  pub nexts : (i : ℕ) → e ≤ i → i < n → slice_index w (n + n + i) ≡ next_at (pieces_in t) i
  pub members : (i : ℕ) (k : Kind) (r : List Piece) → e ≤ i → drop i (pieces_in t) ≡ start k ∷ r → slice_index w (n * 3 + i) ≡ length (kids 0 (suc i) r)
  pub units : (i : ℕ) (s : Scalar) (r : List Piece) → e ≤ i → drop i (pieces_in t) ≡ scalar s ∷ r → rep_of (pieces_in t) (name_of i (scalar s)) ≡ i → slice_index w (n * 3 + i) ≡ units_for (meant s)

-- all four columns stand
abbrev pub Indexed : List ℕ → List ℕ → ℕ → Type 0
Indexed t w n = Measured t w n 0
