-- The pass that writes objects: what stands in the words and in the output once some of them are written.
use Rattle.std.specs.Prelude.{◌≡◌, ℕ, suc, ◌+◌, ◌*◌, ◌/◌, ◌^◌, ◌<◌, ◌≤◌, cond, List, [], ◌∷◌, ◌++◌, length, drop, slice_index, slice_index_or}
use Rattle.std.proofs.lemmas.List.Edits.{sets}
use Rattle.event.specs.Format.{max_length}
use Rattle.written.specs.Encoding.{object_bytes, list, pairs}
use Rattle.written.specs.File.{flat, ahead, bytes_at, table_at, ref_size, file_of}
use Rattle.written.specs.Graph.{Scalar, Piece, scalar, Name, val, same, order, number}
use Rattle.written.proofs.NameLaws.{In}
use Rattle.written.specs.Nub.{has, nub, nub_onto}
use Rattle.written.specs.Shape.{InPairs}
use Rattle.written.specs.Upto.{spoken_upto}
use Rattle.written.specs.Weigh.{rep_of}
use Rattle.writer.specs.Columns.{Indexed}
use Rattle.writer.specs.Marks.{Numbered}
use Rattle.writer.specs.Ready.{Ready, pieces_in}

-- what is written once the events before e have been
unfoldable pub written_at : List Piece → ℕ → List Name
written_at es e = nub same (spoken_upto e 0 es)

abbrev pub said_at : List ℕ → ℕ → List Name
said_at t e = written_at (pieces_in t) e

-- where x begins in the file, 0 where it isn't written yet
unfoldable pub place_in : List Piece → List Name → Name → ℕ
place_in es kept x = cond (has same x kept) (8 + ahead (bytes_at es) x kept) 0

-- the column AT shows that, by the objects' numbers
abbrev pub Placed : List ℕ → List ℕ → ℕ → List Name → Type 0
Placed t w n kept = (x : Name) → In x (order (pieces_in t)) → slice_index w (n * 5 + number (pieces_in t) x) ≡ place_in (pieces_in t) kept x

-- where the object behind these begins
unfoldable pub end_of : List Piece → List Name → ℕ
end_of es kept = 8 + length (flat (bytes_at es) kept)

-- these are written, and the next begins at pos
pub record Stand (t w : List ℕ) (n : ℕ) (kept : List Name) (pos : ℕ) : Type 0 where
  pub ready : Ready t n
  pub indexed : Indexed t w n
  pub numbers : (x : Name) → In x (order (pieces_in t)) → slice_index w (n * 4 + rep_of (pieces_in t) x) ≡ suc (number (pieces_in t) x)
  pub placed : Placed t w n kept
  pub here : pos ≡ end_of (pieces_in t) kept

-- the output has room for these, and their places fit into a word
pub record Room (t out : List ℕ) (kept : List Name) : Type 0 where
  pub fits : end_of (pieces_in t) kept ≤ length out
  pub small : end_of (pieces_in t) kept < 2 ^ 32

-- More are written: they stand in the words, and their bytes in the output from pos on
pub record Grown (t : List ℕ) (n : ℕ) (kept : List Name) (out : List ℕ) (pos : ℕ) (more : List Name) (words after : List ℕ) (next : ℕ) : Type 0 where
  pub stand : Stand t words n more next
  pub bytes : List ℕ
  pub gained : flat (bytes_at (pieces_in t)) more ≡ flat (bytes_at (pieces_in t)) kept ++ bytes
  pub written : after ≡ sets out pos bytes

-- event e is written
abbrev pub Spoke : List ℕ → ℕ → ℕ → List ℕ → ℕ → List ℕ → List ℕ → ℕ → Type 0
Spoke t n e out pos words after next = Grown t n (said_at t e) out pos (said_at t (suc e)) words after next

-- what is known where a scalar's bytes are to be written, by its first event
pub record First (t w out : List ℕ) (n r pos : ℕ) (s : Scalar) : Type 0 where
  pub ready : Ready t n
  pub indexed : Indexed t w n
  pub behind : List Piece
  pub stands : drop r (pieces_in t) ≡ scalar s ∷ behind
  pub first : rep_of (pieces_in t) (val s) ≡ r
  pub room : pos + length (bytes_at (pieces_in t) (val s)) ≤ length out

-- where one is to be written that may be already
pub record Single (t w out : List ℕ) (n e pos : ℕ) (kept : List Name) (s : Scalar) : Type 0 where
  pub stand : Stand t w n kept pos
  pub behind : List Piece
  pub stands : drop e (pieces_in t) ≡ scalar s ∷ behind
  pub named : In (val s) (order (pieces_in t))
  pub room : Room t out (nub_onto same kept (val s ∷ []))

-- each of these has a number
abbrev pub Named : List Piece → List Name → Type 0
Named es xs = (x : Name) → In x xs → In x (order es)

-- what is known where a dictionary's keys are to be written, from event i on
pub record Keys (t w out : List ℕ) (n i stop pos : ℕ) (kept ks vs : List Name) : Type 0 where
  pub stand : Stand t w n kept pos
  pub pairs : InPairs (pieces_in t) stop i ks vs
  pub named : Named (pieces_in t) ks
  pub room : Room t out (nub_onto same kept ks)

-- what is known before the first object is written
pub record Unsaid (t w out : List ℕ) (n width : ℕ) : Type 0 where
  pub ready : Ready t n
  pub indexed : Indexed t w n
  pub count : ℕ
  pub numbered : Numbered t w n n count
  pub wide : width ≡ ref_size (pieces_in t)
  pub fits : table_at (pieces_in t) ≤ length out
  pub small : table_at (pieces_in t) < 2 ^ 32

-- and with the events before e written
pub record Told (t w out : List ℕ) (n e width pos : ℕ) : Type 0 where
  pub stand : Stand t w n (said_at t e) pos
  pub within : e < n
  pub wide : width ≡ ref_size (pieces_in t)
  pub fits : table_at (pieces_in t) ≤ length out
  pub small : table_at (pieces_in t) < 2 ^ 32

-- A walk over the words, as in Path, meets objects of these numbers
abbrev pub Refs : List ℕ → ℕ → ℕ → ℕ → ℕ → ℕ → List ℕ → Type 0
Refs w n stop pair side i [] = stop ≤ i
Refs w n stop pair side i (x ∷ xs) =
    (i < stop) × (i + pair < n) × (i + side < n) × (slice_index w (n + (i + side)) < n) × (slice_index w (n * 4 + slice_index w (n + (i + side))) ≡ suc x)
    × (i < slice_index w (n + n + (i + pair))) × Refs w n stop pair side (slice_index w (n + n + (i + pair))) xs

-- what is known where references to objects of these numbers are to be written
pub record Each (w out : List ℕ) (n first stop pair side width from : ℕ) (ks : List ℕ) : Type 0 where
  pub long : length w ≡ n * 8
  pub refs : Refs w n stop pair side first ks
  pub room : from + length ks * width ≤ length out

-- the same of a whole array, which begins at event e
pub record Listed (w out : List ℕ) (n e stop width pos : ℕ) (ks : List ℕ) : Type 0 where
  pub long : length w ≡ n * 8
  pub within : e < n
  pub members : slice_index_or w (n * 3 + e) 0 ≡ length ks
  pub refs : Refs w n stop 0 0 (e + 1) ks
  pub room : pos + length (object_bytes width (list ks)) ≤ length out

-- and of a whole dictionary
pub record Paired (w out : List ℕ) (n e stop width pos : ℕ) (ks vs : List ℕ) : Type 0 where
  pub long : length w ≡ n * 8
  pub within : e < n
  pub members : slice_index_or w (n * 3 + e) 0 / 2 ≡ length ks
  pub keys : Refs w n stop 1 0 (e + 1) ks
  pub values : Refs w n stop 1 1 (e + 1) vs
  pub room : pos + length (object_bytes width (pairs ks vs)) ≤ length out

-- bytes stand in the output from pos on, and next is the place behind them
pub record Wrote (out : List ℕ) (pos : ℕ) (bytes after : List ℕ) (next : ℕ) : Type 0 where
  pub memory : after ≡ sets out pos bytes
  pub ends : next ≡ pos + length bytes

-- what is known before the file is written
pub record Planned (t w out : List ℕ) (n count width table : ℕ) : Type 0 where
  pub ready : Ready t n
  pub indexed : Indexed t w n
  pub numbered : Numbered t w n n count
  pub wide : width ≡ ref_size (pieces_in t)
  pub behind : table ≡ table_at (pieces_in t)
  pub fits : length (file_of (pieces_in t)) ≤ length out
  pub small : length (file_of (pieces_in t)) ≤ max_length
