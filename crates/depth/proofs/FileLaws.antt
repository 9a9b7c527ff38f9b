-- THE FILE of arrays that stand inside each other is `nested`, byte by byte, however many they are.
use mathlib.Core.List.{List, [], ◌∷◌, ◌++◌, map, append-nil}
use Rattle.std.specs.Prelude.{◌≡◌}
use Rattle.std.proofs.Math.Path.{refl}
use Rattle.std.proofs.Common.{sym, ap, ◌∙◌, zero-add, add-zero, eq-eqb, ne_eqb, length-append}
use Prim.Native.Nat.{ℕ, zero, suc, ◌+◌, ◌*◌, ◌≤◌}
use Rattle.std.proofs.Math.Nat.{zero-mul, suc-mul}
use native.Mathlib.Omega.{arith}
use Rattle.std.proofs.Math.ListN.{length, drop}
use Rattle.number.specs.Be.{bytes_of}
use Rattle.number.specs.BeLaws.{length_bytes_of}
use Rattle.number.specs.Size.{size_of}
use Rattle.written.specs.Encoding.{list, nibble_of, head_bytes, numbers_bytes, object_bytes}
use Rattle.written.specs.File.{flat, ahead, ref_size, bytes_at, body, place_of, table_at, offset_size, table, file_of, file_for}
use Rattle.written.proofs.FileLaws.{file_length}
use Rattle.written.specs.Graph.{arr, start, box, same, kids, number, body_of, object_of}
use Rattle.depth.specs.Nested.{nest, refs, step, offset, table_for, offsets, chain, places, nested, length_for}
use Rattle.depth.specs.PieceLaws.{pieces, pieces_of, kids_none, kids_one, boxes, es, order_are, emission_are, count_is, number_is, drop_pieces}

-- what an array names that has q others in it: the one after it
abbrev pub named : ℕ → ℕ → List ℕ
named zero i = []
named (suc q) i = i ∷ []

length_chain : (w q i : ℕ) → length (chain w q i) ≡ q * (1 + w) + 1
unfolding chain
length_chain w zero i = rw (zero-mul (1 + w))
length_chain w (suc q) i = rw (length-append (bytes_of w i) (chain w q (suc i)), length_bytes_of w i, length_chain w q (suc i), suc-mul q (1 + w)) (omega arith)

module _ (k j : ℕ) where
  pub refs_is : ref_size (es k j) ≡ refs k
  unfolding ref_size refs
  refs_is = rw (count_is k j) (ap size_of (omega arith))

  pub object_is : (p q : ℕ) → p + q ≡ k → object_of (es k j) (box p) ≡ list (named q (suc p))
  unfolding object_of body_of pieces
  object_is p q e =
      let all : p + suc q ≡ suc k = omega arith in
      let d : drop p (es k j) ≡ start arr ∷ pieces q j = rw all at (drop_pieces p (suc q) j) in
      rw d (ap list (references q e))
    where
      references : (q : ℕ) → p + q ≡ k → map (number (es k j)) (kids 0 (suc p) (pieces q j)) ≡ named q (suc p)
      references zero e = rw (kids_none (suc p) j)
      references (suc q) e = rw (kids_one (suc p) q j, number_is k j (suc p) (omega arith))

  bytes_last : (p : ℕ) → p + 0 ≡ k → bytes_at (es k j) (box p) ≡ 0xA0 ∷ []
  unfolding bytes_at object_bytes head_bytes nibble_of numbers_bytes
  bytes_last p e = rw (object_is p 0 e)

  bytes_one : (p q : ℕ) → p + suc q ≡ k → bytes_at (es k j) (box p) ≡ 0xA1 ∷ bytes_of (refs k) (suc p)
  unfolding bytes_at object_bytes head_bytes nibble_of numbers_bytes
  bytes_one p q e = rw (object_is p (suc q) e, refs_is) (ap (λ (l : List ℕ). 0xA1 ∷ l) (append-nil (bytes_of (refs k) (suc p))))

  -- one after the other
  flat_are : (p q : ℕ) → p + q ≡ k → flat (bytes_at (es k j)) (boxes p (suc q)) ≡ chain (refs k) q (suc p)
  unfolding flat boxes chain
  flat_are p zero e = rw (bytes_last p e)
  flat_are p (suc q) e = rw (bytes_one p q e) (ap (λ (l : List ℕ). 0xA1 ∷ (bytes_of (refs k) (suc p) ++ l)) (flat_are (suc p) q (omega arith)))

  -- where array m + d stands behind those from m on
  ahead_is : (m n d : ℕ) → m + n ≡ k → d ≤ n → ahead (bytes_at (es k j)) (box (m + d)) (boxes m (suc n)) ≡ d * step k
  unfolding ahead boxes same step
  ahead_is m n zero e h = rw (eq-eqb (m + 0) m (add-zero m), zero-mul (1 + refs k))
  ahead_is m zero (suc d) e h = absurd (omega arith)
  ahead_is m (suc n) (suc d) e h =
      let i : m + suc d ≡ suc m + d = omega arith in
      let l : length (bytes_at (es k j) (box m)) ≡ 1 + refs k = rw (bytes_one m n e, length_bytes_of (refs k) (suc m)) (omega arith) in
      let behind : ahead (bytes_at (es k j)) (box (m + suc d)) (boxes (suc m) (suc n)) ≡ d * (1 + refs k) = ap (λ (p : ℕ). ahead (bytes_at (es k j)) (box p) (boxes (suc m) (suc n))) i ∙ ahead_is (suc m) n d (omega arith) (omega arith) in
      rw (ne_eqb (m + suc d) m (λ e. omega arith), l, suc-mul d (1 + refs k)) (omega (arith, behind))

  pub place_is : (i : ℕ) → i ≤ k → place_of (es k j) (box i) ≡ offset k i
  unfolding place_of offset
  place_is i h = rw (emission_are k j) (ap (λ (n : ℕ). 8 + n) (ap (λ (n : ℕ). ahead (bytes_at (es k j)) (box n) (boxes 0 (suc k))) (sym (zero-add i)) ∙ ahead_is 0 k i (zero-add k) h))

  places_are : (i n : ℕ) → i + n ≡ suc k → map (place_of (es k j)) (boxes i n) ≡ places k n i
  unfolding boxes places
  places_are i zero e = refl
  places_are i (suc n) e = rw (place_is i (omega arith), places_are (suc i) n (omega arith))

  body_is : body (es k j) ≡ chain (refs k) k 1
  unfolding body
  body_is = rw (emission_are k j) (flat_are 0 k (zero-add k))

  pub table_at_law : table_at (es k j) ≡ table_for k
  unfolding table_at table_for offset step
  table_at_law = rw (body_is, length_chain (refs k) k 1) (omega arith)

  pub offsets_are : offset_size (es k j) ≡ offsets k
  unfolding offset_size offsets
  offsets_are = rw table_at_law

  pub file_is : file_of (es k j) ≡ nested k
  unfolding file_of table nested
  file_is = rw (body_is, offsets_are, refs_is, count_is k j, order_are k j, places_are 0 (suc k) (zero-add (suc k)), table_at_law)

-- THE FILE
pub written : (k : ℕ) → file_for (nest (suc k)) ≡ nested k
unfolding file_for
written k = rw (pieces_of (suc k)) (file_is k (suc k))

-- and its length
pub length_nested : (k : ℕ) → length (nested k) ≡ length_for k
unfolding length_for
length_nested k = rw (← file_is k 0, file_length (es k 0), table_at_law k 0, count_is k 0, offsets_are k 0)
