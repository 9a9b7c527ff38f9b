-- What bytes that are put leave in lent memory, and in memory of which a part is lent.
use Rattle.std.specs.Prelude.{Bool, cond, ◌≡◌, ℕ, ◌+◌, ◌-◌, ◌≤◌, ◌<◌, leb, take, drop}
use Rattle.std.proofs.Math.Bool.{true, false}
use mathlib.Core.List.{List, [], ◌∷◌, ◌++◌, append_assoc}
use Rattle.std.proofs.Math.Path.{refl}
use Rattle.std.proofs.Common.{sym, ◌∙◌, zero-add, arith, le-leb, length-drop, take-append-drop, length-take-le, drop-drop}
use Rattle.std.proofs.lemmas.Bool.{lt-leb}
use Rattle.std.proofs.Math.ListN.{length}
use Rattle.std.proofs.lemmas.List.Edits.{sets, sets-eq}
use Rattle.std.proofs.Math.Seq.{length-sets}
use Rattle.std.proofs.lemmas.List.{drop-append-le}
use Rattle.encode.specs.Put.{put_into, put_of, scalar_of}
use Rattle.encode.specs.declared.put.Put.{Put}
use Rattle.encode.specs.declared.put.Put.TheVariants.{Bytes, NoRoom}

module _ (l s : List ℕ) where
  -- bytes that fit
  pub put_room : length s ≤ length l → (put_into l s ≡ sets l 0 s) × (put_of l s ≡ Bytes (length s))
  unfolding put_into put_of
  put_room h = (rw (le-leb (length s) (length l) h), rw (le-leb (length s) (length l) h))

  -- and that don't
  pub put_none : length l < length s → (put_into l s ≡ l) × (put_of l s ≡ NoRoom)
  unfolding put_into put_of
  put_none h = (rw (lt-leb (length s) (length l) h), rw (lt-leb (length s) (length l) h))

  -- of a scalar too, since it has bytes
  pub scalar_put : 0 < length s → scalar_of l s ≡ put_of l s
  unfolding scalar_of
  scalar_put h = go s h
    where
      go : (s : List ℕ) → 0 < length s → scalar_of l s ≡ put_of l s
      go [] g = absurd (omega arith)
      go (b ∷ t) g = refl

  pub length_put : length (put_into l s) ≡ length l
  unfolding put_into
  length_put = go (leb (length s) (length l))
    where
      go : (b : Bool) → length (cond b (sets l 0 s) l) ≡ length l
      go true = length-sets l 0 s
      go false = refl

-- the same about a part from `at` up to `end` that is lent and comes back
module _ (l : List ℕ) (at end : ℕ) (s : List ℕ) (fits : at + length s ≤ end) (within : end ≤ length l) where
  part_room : length s ≤ length (take (end - at) (drop at l))
  part_room = rw (length-take-le (end - at) (drop at l) (rw length-drop (omega arith))) (omega arith)

  pub put_at : take at l ++ (put_into (take (end - at) (drop at l)) s ++ drop (end - at) (drop at l)) ≡ sets l at s
  put_at =
      let k = end - at in
      let d = drop at l in
      let n = length s in
      let p : put_into (take k d) s ≡ s ++ drop n (take k d) = (put_room (take k d) s part_room).0 ∙ sets-eq s (take k d) 0 (rw zero-add part_room) ∙ rw zero-add in
      let q : drop n (take k d) ++ drop k d ≡ drop (at + n) l = sym (drop-append-le n (take k d) (drop k d) part_room) ∙ rw take-append-drop (drop-drop n at l) in
      rw (p, append_assoc s (drop n (take k d)) (drop k d), q) (sym (sets-eq s l at (omega arith) ∙ append_assoc (take at l) s (drop (at + n) l)))

  -- what a function that was lent the part promised of its answer r and of the part m
  pub put_lent :
      {r : Put} {m : List ℕ} → (r ≡ put_of (take (end - at) (drop at l)) s) × (m ≡ put_into (take (end - at) (drop at l)) s) →
      (r ≡ Bytes (length s)) × (take at l ++ (m ++ drop (end - at) (drop at l)) ≡ sets l at s)
  put_lent p = (p.0 ∙ (put_room (take (end - at) (drop at l)) s part_room).1, rw p.1 put_at)
