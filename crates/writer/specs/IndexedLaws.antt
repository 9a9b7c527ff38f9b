-- Where the columns REP and NEXT stand, a walk over the words from a container's start meets its members.
use Rattle.std.specs.Prelude.{◌≡◌, ℕ, suc, ◌+◌, ◌<◌, List, [], ◌∷◌, map, drop, slice_index}
use Rattle.std.proofs.Common.{sym, add-zero, add-one, arith}
use Rattle.event.specs.Format.{max_open}
use Rattle.written.specs.Graph.{Kind, dic, Piece, scalar, start, Name, kids, evens, odds}
use Rattle.written.proofs.NameLaws.{drop_next}
use Rattle.written.proofs.RepLaws.{rep_le}
use Rattle.written.specs.Shape.{skip, name_of, next_at, Along, InPairs}
use Rattle.written.proofs.ShapeLaws.{next_above, along, in_pairs}
use Rattle.written.specs.Weigh.{rep_of}
use Rattle.writer.specs.Columns.{Indexed}
use Rattle.writer.specs.Marks.{Path}
use Rattle.writer.specs.Ready.{pieces_in, Ready}
use Rattle.writer.specs.ReadyLaws.{drop_piece}

module _ {t : List ℕ} {n : ℕ} (o : Ready t n) (w : List ℕ) (x : Indexed t w n) where
  -- what the words of a member say
  rep_word : (i : ℕ) (p : Piece) (r : List Piece) → drop i (pieces_in t) ≡ p ∷ r → slice_index w (n + i) ≡ rep_of (pieces_in t) (name_of i p)
  rep_word i p r e = x.rep i p r (drop_piece o i p r e) e

  rep_under : (i : ℕ) (p : Piece) (r : List Piece) → drop i (pieces_in t) ≡ p ∷ r → rep_of (pieces_in t) (name_of i p) < n
  rep_under i p r e = omega (arith, drop_piece o i p r e, rep_le (pieces_in t) i p r e)

  next_word : (i : ℕ) (p : Piece) (r : List Piece) → drop i (pieces_in t) ≡ p ∷ r → slice_index w (n + n + i) ≡ next_at (pieces_in t) i
  next_word i p r e = x.nexts i (omega arith) (drop_piece o i p r e)

  members_path : (stop i : ℕ) (xs : List Name) → Along (pieces_in t) stop i xs → Path w n stop 0 0 i (map (rep_of (pieces_in t)) xs)
  members_path stop i [] a = omega arith
  members_path stop i (x ∷ xs) (p, r, e, q, m, h, a) =
      let l = drop_piece o i p r e in
      rw (q, add-zero i, next_word i p r e)
      (h, l, l, sym (rep_word i p r e), rep_under i p r e, next_above (pieces_in t) i p r e m, members_path stop (next_at (pieces_in t) i) xs a)

  keys_path : (stop i : ℕ) (ks vs : List Name) → InPairs (pieces_in t) stop i ks vs → Path w n stop 1 0 i (map (rep_of (pieces_in t)) ks)
  keys_path stop i [] [] a = omega arith
  keys_path stop i [] (v ∷ vs) a = absurd a
  keys_path stop i (k ∷ ks) [] a = absurd a
  keys_path stop i (k ∷ ks) (v ∷ vs) (s, p, r, e, q, _, m, h, a) =
      let d = drop_next (pieces_in t) i (scalar s) (p ∷ r) e in
      let l = drop_piece o (suc i) p r d in
      rw (q, add-zero i, add-one i, next_word (suc i) p r d) (
        omega arith,
        omega arith,
        omega arith,
        sym (rep_word i (scalar s) (p ∷ r) e),
        rep_under i (scalar s) (p ∷ r) e,
        omega (arith, next_above (pieces_in t) (suc i) p r d m),
        keys_path stop (next_at (pieces_in t) (suc i)) ks vs a,
      )

  values_path : (stop i : ℕ) (ks vs : List Name) → InPairs (pieces_in t) stop i ks vs → Path w n stop 1 1 i (map (rep_of (pieces_in t)) vs)
  values_path stop i [] [] a = omega arith
  values_path stop i [] (v ∷ vs) a = absurd a
  values_path stop i (k ∷ ks) [] a = absurd a
  values_path stop i (k ∷ ks) (v ∷ vs) (s, p, r, e, _, q, m, h, a) =
      let d = drop_next (pieces_in t) i (scalar s) (p ∷ r) e in
      let l = drop_piece o (suc i) p r d in
      rw (q, add-one i, next_word (suc i) p r d) (
        omega arith,
        omega arith,
        omega arith,
        sym (rep_word (suc i) p r d),
        rep_under (suc i) p r d,
        omega (arith, next_above (pieces_in t) (suc i) p r d m),
        values_path stop (next_at (pieces_in t) (suc i)) ks vs a,
      )

  -- the members of the container that begins at e; the keys and the values of a dictionary
  pub path_members : (e : ℕ) (k : Kind) (r : List Piece) → drop e (pieces_in t) ≡ start k ∷ r → Path w n (e + skip 0 r) 0 0 (suc e) (map (rep_of (pieces_in t)) (kids 0 (suc e) r))
  path_members e k r d = members_path (e + skip 0 r) (suc e) (kids 0 (suc e) r) (along max_open (pieces_in t) o.shaped e k r d)

  module _ (e : ℕ) (r : List Piece) (d : drop e (pieces_in t) ≡ start dic ∷ r) where
    pairs : InPairs (pieces_in t) (e + skip 0 r) (suc e) (evens (kids 0 (suc e) r)) (odds (kids 0 (suc e) r))
    pairs = in_pairs max_open (pieces_in t) o.shaped e r d

    pub path_keys : Path w n (e + skip 0 r) 1 0 (suc e) (map (rep_of (pieces_in t)) (evens (kids 0 (suc e) r)))
    path_keys = keys_path (e + skip 0 r) (suc e) (evens (kids 0 (suc e) r)) (odds (kids 0 (suc e) r)) pairs

    pub path_values : Path w n (e + skip 0 r) 1 1 (suc e) (map (rep_of (pieces_in t)) (odds (kids 0 (suc e) r)))
    path_values = values_path (e + skip 0 r) (suc e) (evens (kids 0 (suc e) r)) (odds (kids 0 (suc e) r)) pairs
