-- What has a number once the events before e have been passed: it grows by what each container names, up to the order of all objects.
use Rattle.std.specs.Prelude.{◌≡◌, ℕ, suc, ◌+◌, ◌≤◌, List, [], ◌∷◌, ◌++◌, length, drop}
use mathlib.Core.List.{append-nil, append_assoc}
use Rattle.std.proofs.Common.{ap, ◌∙◌, arith, length-append}
use Rattle.std.proofs.Math.Nat.{zero-add}
use Rattle.written.proofs.FileLaws.{order_few}
use Rattle.written.specs.Graph.{Scalar, Kind, Piece, scalar, start, end, Name, same, kids, laid, names, order}
use Rattle.written.specs.Nub.{nub, nub_onto, nub_append, nub_onto_append}
use Rattle.written.proofs.RepLaws.{Among, among_append, among_left, among_nub, root_told, names_told}
use Rattle.written.specs.Upto.{names_upto}
use Rattle.written.proofs.UptoLaws.{names_more, names_scalar, names_end, names_all, names_parts}
use Rattle.written.specs.Weigh.{event_names}
use Rattle.writer.specs.Marks.{kept_at}

module _ (es : List Piece) where
  -- the root first
  pub kept_root : kept_at es 0 ≡ nub_onto same [] (kids 0 0 es)
  unfolding kept_at names_upto nub
  kept_root = rw append-nil

  pub kept_scalar : (e : ℕ) (s : Scalar) (r : List Piece) → drop e es ≡ scalar s ∷ r → kept_at es (suc e) ≡ kept_at es e
  unfolding kept_at
  kept_scalar e s r d = rw (names_scalar es e s r d)

  pub kept_end : (e : ℕ) (r : List Piece) → drop e es ≡ end ∷ r → kept_at es (suc e) ≡ kept_at es e
  unfolding kept_at
  kept_end e r d = rw (names_end es e r d)

  pub kept_start : (e : ℕ) (k : Kind) (r : List Piece) → drop e es ≡ start k ∷ r → kept_at es (suc e) ≡ nub_onto same (kept_at es e) (laid k (kids 0 (suc e) r))
  unfolding kept_at nub
  kept_start e k r d =
      let l = laid k (kids 0 (suc e) r) in
      rw (names_more es e k r d, ← (append_assoc (kids 0 0 es) (names_upto e 0 es) l)) (nub_onto_append same [] (kids 0 0 es ++ names_upto e 0 es) l)

  pub kept_all : kept_at es (length es) ≡ order es
  unfolding kept_at order
  kept_all = rw (names_all 0 es)

  -- it is in front of the order of all
  pub kept_front : (e : ℕ) → (r : List Name) × (order es ≡ kept_at es e ++ r)
  unfolding kept_at order
  kept_front e =
      let back = names e (drop e es) in
      let p : names 0 es ≡ names_upto e 0 es ++ back = names_parts e 0 es ∙ rw zero-add in
      let q = nub_append same (kids 0 0 es ++ names_upto e 0 es) back in
      (q.0, rw (p, ← (append_assoc (kids 0 0 es) (names_upto e 0 es) back)) q.1)

  pub kept_few : (e : ℕ) → length (kept_at es e) ≤ length es
  kept_few e =
      let f = kept_front e in
      omega (arith, order_few es, ap length f.1, length-append (kept_at es e) f.0)

  pub kept_told : (e : ℕ) → Among (event_names 0 es) (kept_at es e)
  unfolding kept_at nub
  kept_told e =
      let l = event_names 0 es in
      let p : names 0 es ≡ names_upto e 0 es ++ names (0 + e) (drop e es) = names_parts e 0 es in
      let a : Among l (names_upto e 0 es) = among_left l (names_upto e 0 es) (names (0 + e) (drop e es)) (rw p at (names_told 0 es)) in
      among_nub l [] (kids 0 0 es ++ names_upto e 0 es) tt (among_append l (kids 0 0 es) (names_upto e 0 es) (root_told es) a)
