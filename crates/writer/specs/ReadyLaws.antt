-- What is known of a tape that is ready: where each event stands, which bytes it has, and what its kind tells.
use Rattle.std.specs.Prelude.{◌≡◌, ℕ, zero, suc, ◌+◌, ◌-◌, ◌<◌, ◌≤◌, true, false, List, [], ◌∷◌, ◌++◌, map, length, take, drop, pos, negsuc, slice_index, slice_index_or, None, Some}
use mathlib.Core.List.{append-nil, head-eq_of_cons-eq}
use Rattle.std.proofs.Math.Path.{refl, ap}
use Rattle.std.proofs.Common.{sym, ◌∙◌, add-zero, arith, length-append, take-append-drop, take-suc, get_or-append-add}
use Rattle.std.proofs.Math.ListN.{length-map, get_or-append}
use Rattle.std.proofs.Math.Seq.{drop-cons}
use Rattle.event.specs.Format.{max_length}
use Rattle.event.specs.Meaning.{Meaning, array, dictionary, close, boolean, bytes, date, integer, real, text, uid}
use Rattle.tape.specs.Code.{bytes_for, OnTape}
use Rattle.tape.proofs.CodeLaws.{reads_back, bytes_some}
use Rattle.tape.specs.Events.{tape_of, meanings_in, start_at}
use Rattle.tape.proofs.EventsLaws.{AllOnTape, whole_is, tape_append, tape_long}
use Rattle.tape.specs.Item.{event, read_at}
use Rattle.tape.proofs.SameLaws.{item_bytes, item_within}
use Rattle.written.specs.Graph.{Scalar, Kind, arr, dic, Piece, scalar, start, end, piece_of, meaning_in, meant}
use Rattle.written.proofs.NameLaws.{drop_lt}
use Rattle.written.specs.Scalar.{IsScalar}
use Rattle.writer.specs.Ready.{pieces_in, Ready}

-- lists
drop_map : (i : ℕ) (ms : List Meaning) → drop i (map piece_of ms) ≡ map piece_of (drop i ms)
drop_map zero ms = refl
drop_map (suc i) [] = refl
drop_map (suc i) (m ∷ ms) = drop_map i ms

held_at : (ms : List Meaning) (i : ℕ) (m : Meaning) (q : List Meaning) → AllOnTape ms → drop i ms ≡ m ∷ q → OnTape m
held_at [] zero m q h e = let z : ◌≡◌ {A = ℕ} 0 1 = cc in absurd (omega arith)
held_at [] (suc i) m q h e = let z : ◌≡◌ {A = ℕ} 0 1 = cc in absurd (omega arith)
held_at (x ∷ ms) zero m q h e = rw (← head-eq_of_cons-eq e) h.0
held_at (x ∷ ms) (suc i) m q h e = held_at ms i m q h.1 e

-- an event in its place on the tape
module _ (t : List ℕ) (ms : List Meaning) (is : t ≡ tape_of ms) (i : ℕ) (m : Meaning) (h : i < length ms) (e : drop i ms ≡ m ∷ drop (suc i) ms) where
  around : t ≡ tape_of (take i ms) ++ (bytes_for m ++ tape_of (drop (suc i) ms))
  unfolding tape_of
  around = is ∙ ap tape_of (sym (take-append-drop i ms)) ∙ tape_append (take i ms) (drop i ms) ∙ rw e

  next_is : length (tape_of (take (suc i) ms)) ≡ length (tape_of (take i ms)) + length (bytes_for m)
  unfolding tape_of
  next_is =
      let g : slice_index_or ms i m ≡ m = head-eq_of_cons-eq (sym (drop-cons ms i m h) ∙ e) in
      rw (take-suc ms i m h, g, tape_append, append-nil, length-append)

  reads_in : OnTape m → read_at t (length (tape_of (take i ms))) ≡ event m (length (tape_of (take (suc i) ms)))
  reads_in held = rw (around, next_is) (reads_back (tape_of (take i ms)) m (tape_of (drop (suc i) ms)) held)

  first_in : slice_index_or t (length (tape_of (take i ms))) 0 ≡ slice_index (bytes_for m) 0
  first_in =
      let p = tape_of (take i ms) in
      let q = tape_of (drop (suc i) ms) in
      let g : slice_index_or (p ++ (bytes_for m ++ q)) (length p + 0) 0 ≡ slice_index_or (bytes_for m ++ q) 0 0 = get_or-append-add p (bytes_for m ++ q) 0 0 in
      rw around ((rw add-zero at g) ∙ get_or-append (bytes_for m) q 0 0 (bytes_some m))

-- the kinds of events
abbrev pub HasKind : Piece → ℕ → Type 0
HasKind (scalar s) k = k < 0x0a
HasKind (start arr) k = (0x0a ≤ k) × (k < 0x0c)
HasKind (start dic) k = (0x0c ≤ k) × (k < 0x0e)
HasKind end k = k ≡ 0x0e

pub kind_of_law : (m : Meaning) → HasKind (piece_of m) (slice_index (bytes_for m) 0)
unfolding piece_of bytes_for
kind_of_law (array None) = (omega arith, omega arith)
kind_of_law (array (Some n)) = (omega arith, omega arith)
kind_of_law (dictionary None) = (omega arith, omega arith)
kind_of_law (dictionary (Some n)) = (omega arith, omega arith)
kind_of_law close = refl
kind_of_law (boolean false) = omega arith
kind_of_law (boolean true) = omega arith
kind_of_law (bytes s) = omega arith
kind_of_law (date b) = omega arith
kind_of_law (integer (pos n)) = omega arith
kind_of_law (integer (negsuc k)) = omega arith
kind_of_law (real b) = omega arith
kind_of_law (text s) = omega arith
kind_of_law (uid n) = omega arith

low_scalar : (p : Piece) (k : ℕ) → HasKind p k → k < 0x0a → (s : Scalar) × (p ≡ scalar s)
low_scalar (scalar s) k h l = (s, refl)
low_scalar (start arr) k h l = absurd (omega arith)
low_scalar (start dic) k h l = absurd (omega arith)
low_scalar end k h l = absurd (omega arith)

-- a meaning whose piece is a scalar
pub scalar_piece : (m : Meaning) (s : Scalar) → piece_of m ≡ scalar s → IsScalar m × (s ≡ bytes_for m)
unfolding piece_of
scalar_piece (array n) s e = let z : ◌≡◌ {A = ℕ} 0 1 = cc in absurd (omega arith)
scalar_piece (dictionary n) s e = let z : ◌≡◌ {A = ℕ} 0 1 = cc in absurd (omega arith)
scalar_piece close s e = let z : ◌≡◌ {A = ℕ} 0 1 = cc in absurd (omega arith)
scalar_piece (boolean b) s e = (tt, cc)
scalar_piece (bytes b) s e = (tt, cc)
scalar_piece (date b) s e = (tt, cc)
scalar_piece (integer b) s e = (tt, cc)
scalar_piece (real b) s e = (tt, cc)
scalar_piece (text b) s e = (tt, cc)
scalar_piece (uid b) s e = (tt, cc)

scalar_first : (m : Meaning) (s : Scalar) → piece_of m ≡ scalar s → slice_index s 0 < 0x0a
scalar_first m s e = rw (scalar_piece m s e).1 (rw e at (kind_of_law m))

meant_is : (m : Meaning) → OnTape m → meant (bytes_for m) ≡ m
unfolding meant meaning_in
meant_is m h =
    let e : read_at (bytes_for m) 0 ≡ event m (0 + length (bytes_for m)) = rw append-nil at (reads_back [] m [] h) in
    rw e

-- the byte that event i begins with
abbrev pub kind_at : List ℕ → ℕ → ℕ
kind_at t i = slice_index t (start_at t i)

-- event i of a tape
pub record EventAt (t : List ℕ) (i : ℕ) (m : Meaning) : Type 0 where
  pub held : OnTape m
  pub meaning : drop i (meanings_in t) ≡ m ∷ drop (suc i) (meanings_in t)
  pub piece : drop i (pieces_in t) ≡ piece_of m ∷ drop (suc i) (pieces_in t)
  pub reads : read_at t (start_at t i) ≡ event m (start_at t (suc i))
  pub bytes : take (start_at t (suc i) - start_at t i) (drop (start_at t i) t) ≡ bytes_for m
  pub on : start_at t i < start_at t (suc i)
  pub within : start_at t (suc i) ≤ length t
  pub kind : HasKind (piece_of m) (kind_at t i)

-- and one that is a scalar
pub record ScalarAt (t : List ℕ) (i : ℕ) (s : Scalar) (m : Meaning) : Type 0 where
  pub here : EventAt t i m
  pub lone : IsScalar m
  pub form : s ≡ bytes_for m
  pub means : meant s ≡ m
  pub low : kind_at t i < 0x0a
  pub first : slice_index_or s 0 0 < 0x0a
  pub stands : take (start_at t (suc i) - start_at t i) (drop (start_at t i) t) ≡ s

module _ {t : List ℕ} {n : ℕ} (r : Ready t n) where
  pub ready_held : AllOnTape (meanings_in t)
  ready_held = (whole_is t (meanings_in t) r.bytes r.events).0

  pub ready_tape : t ≡ tape_of (meanings_in t)
  ready_tape = (whole_is t (meanings_in t) r.bytes r.events).1

  pub ready_count : length (pieces_in t) ≡ n
  unfolding pieces_in
  ready_count = length-map (meanings_in t) piece_of ∙ r.count

  -- each event has a byte
  pub ready_few : n ≤ length t
  ready_few = omega (arith, r.count, tape_long (meanings_in t), ap length ready_tape)

  pub ready_small : n ≤ max_length
  ready_small = omega (arith, ready_few, r.short)

  -- where events stand
  pub start_zero : start_at t 0 ≡ 0
  unfolding start_at tape_of
  start_zero = refl

  pub event_at_law : (i : ℕ) → i < n → (m : Meaning) × EventAt t i m
  unfolding start_at pieces_in
  event_at_law i h =
      let ms = meanings_in t in
      let m = slice_index_or ms i close in
      let l : i < length ms = omega (arith, r.count) in
      let e : drop i ms ≡ m ∷ drop (suc i) ms = drop-cons ms i close l in
      let held : OnTape m = held_at ms i m (drop (suc i) ms) ready_held e in
      let reads : read_at t (start_at t i) ≡ event m (start_at t (suc i)) = reads_in t ms ready_tape i m l e held in
      let within = item_within t (start_at t i) m (start_at t (suc i)) r.bytes reads in (
        m,
        record {
          held = held;
          meaning = e;
          piece = rw (drop_map i ms, e, drop_map (suc i) ms);
          reads = reads;
          bytes = item_bytes t (start_at t i) m (start_at t (suc i)) r.bytes reads;
          on = within.0;
          within = within.1;
          kind = rw (first_in t ms ready_tape i m l e) (kind_of_law m);
        },
      )

  pub start_lt : (i : ℕ) → i < n → start_at t i < start_at t (suc i)
  start_lt i h = (event_at_law i h).1.on

  pub start_le : (i : ℕ) → i ≤ n → start_at t i ≤ length t
  start_le zero h = rw start_zero (omega arith)
  start_le (suc i) h = (event_at_law i (omega arith)).1.within

  -- by pieces
  pub drop_piece : (i : ℕ) (p : Piece) (q : List Piece) → drop i (pieces_in t) ≡ p ∷ q → i < n
  drop_piece i p q e = rw (← ready_count) (drop_lt (pieces_in t) i p q e)

  pub piece_at : (i : ℕ) → i < n → (p : Piece) × (drop i (pieces_in t) ≡ p ∷ drop (suc i) (pieces_in t))
  piece_at i h = let a = event_at_law i h in (piece_of a.0, a.1.piece)

  pub kind_at_law : (i : ℕ) (p : Piece) (q : List Piece) → drop i (pieces_in t) ≡ p ∷ q → HasKind p (kind_at t i)
  kind_at_law i p q e =
      let a = event_at_law i (drop_piece i p q e) in
      rw (head-eq_of_cons-eq (sym e ∙ a.1.piece)) a.1.kind

  pub scalar_at : (i : ℕ) (s : Scalar) (q : List Piece) → drop i (pieces_in t) ≡ scalar s ∷ q → (m : Meaning) × ScalarAt t i s m
  scalar_at i s q e =
      let a = event_at_law i (drop_piece i (scalar s) q e) in
      let is : piece_of a.0 ≡ scalar s = head-eq_of_cons-eq (sym a.1.piece ∙ e) in
      let p = scalar_piece a.0 s is in (
        a.0,
        record {
          here = a.1;
          lone = p.0;
          form = p.1;
          means = ap meant p.1 ∙ meant_is a.0 a.1.held;
          low = kind_at_law i (scalar s) q e;
          first = scalar_first a.0 s is;
          stands = a.1.bytes ∙ sym p.1;
        },
      )

  -- what a kind tells
  pub kind_scalar : (i : ℕ) → i < n → kind_at t i < 0x0a → (s : Scalar) × (drop i (pieces_in t) ≡ scalar s ∷ drop (suc i) (pieces_in t))
  kind_scalar i h k =
      let a = piece_at i h in
      let b = low_scalar a.0 (kind_at t i) (kind_at_law i a.0 (drop (suc i) (pieces_in t)) a.1) k in
      (b.0, rw b.1 at a.1)

  -- of a start the kind tells which
  pub array_at : (i : ℕ) (q : List Piece) → drop i (pieces_in t) ≡ start arr ∷ q → (0x0a ≤ kind_at t i) × (kind_at t i < 0x0c)
  array_at i q e = kind_at_law i (start arr) q e

  pub dictionary_at : (i : ℕ) (q : List Piece) → drop i (pieces_in t) ≡ start dic ∷ q → (0x0c ≤ kind_at t i) × (kind_at t i < 0x0e)
  dictionary_at i q e = kind_at_law i (start dic) q e

  pub end_at_law : (i : ℕ) (q : List Piece) → drop i (pieces_in t) ≡ end ∷ q → kind_at t i ≡ 0x0e
  end_at_law i q e = kind_at_law i end q e

  pub kind_arr : (i : ℕ) (k : Kind) (q : List Piece) → drop i (pieces_in t) ≡ start k ∷ q → kind_at t i < 0x0c → k ≡ arr
  kind_arr i arr q e h = refl
  kind_arr i dic q e h = absurd (omega (arith, (dictionary_at i q e).0))

  pub kind_dic : (i : ℕ) (k : Kind) (q : List Piece) → drop i (pieces_in t) ≡ start k ∷ q → 0x0c ≤ kind_at t i → k ≡ dic
  kind_dic i arr q e h = absurd (omega (arith, (array_at i q e).1))
  kind_dic i dic q e h = refl
