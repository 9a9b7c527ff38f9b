-- The length of all objects' bytes is a sum along the events.
use Rattle.std.specs.Prelude.{◌≡◌, true, ℕ, suc, ◌+◌, ◌*◌, ◌/◌, ◌%◌, eqb, drop}
use Rattle.std.proofs.Math.Path.{refl, ap}
use Rattle.std.proofs.Common.{◌∙◌, eq-eqb}
use Rattle.std.proofs.Math.Bool.{cond}
use mathlib.Core.List.{List, [], ◌∷◌, ◌++◌, map}
use Rattle.std.proofs.Math.Nat.{add-mul}
use native.Mathlib.Omega.{arith}
use Rattle.std.proofs.Math.ListN.{length, length-append, length-map}
use Rattle.written.specs.Encoding.{head_bytes, scalar_bytes, numbers_bytes, object_bytes}
use Rattle.written.specs.File.{flat, ref_size, bytes_at, body}
use Rattle.written.proofs.FileLaws.{length_numbers}
use Rattle.written.proofs.FirstLaws.{sum_of, is_first, along, part_all, sum_along, emission_told, told_emission, rep_box}
use Rattle.written.specs.Graph.{Scalar, Kind, arr, dic, Piece, scalar, start, end, Name, val, box, same, kids, evens, odds, number, body_of, object_of, spoken, emission, meant}
use Rattle.written.proofs.NameLaws.{same_comm, length_evens, length_odds, drop_next}
use Rattle.written.specs.Nub.{nub_distinct}
use Rattle.written.specs.Shape.{whole, name_of}
use Rattle.written.specs.Weigh.{rep_of, counted, weight_of, weight_from, members_of, members_from}
use Rattle.written.proofs.WholeLaws.{whole_parity}

pub length_flat : (f : Name → List ℕ) (l : List Name) → length (flat f l) ≡ sum_of (λ x. length (f x)) l
unfolding flat sum_of
length_flat f [] = refl
length_flat f (x ∷ l) = omega (arith, length-append (f x) (flat f l), length_flat f l)

-- a head's length doesn't depend on its kind
pub length_head : (base n : ℕ) → length (head_bytes base n) ≡ length (head_bytes 0 n)
unfolding head_bytes
length_head base n = refl

module _ (top : ℕ) (es : List Piece) (w : whole top es ≡ true) where
  val_length : (s : Scalar) → length (bytes_at es (val s)) ≡ length (scalar_bytes (meant s))
  unfolding bytes_at object_of object_bytes
  val_length s = refl

  -- a container's bytes are its head and a reference for each member
  pub box_length : (n : ℕ) (k : Kind) (r : List Piece) → drop n es ≡ start k ∷ r → length (bytes_at es (box n)) ≡ length (head_bytes 0 (counted k (length (kids 0 (suc n) r)))) + length (kids 0 (suc n) r) * ref_size es
  unfolding bytes_at object_of body_of object_bytes counted
  box_length n arr r d =
      let ms = map (number es) (kids 0 (suc n) r) in
      let l = length-map (kids 0 (suc n) r) (number es) in
      rw d (length-append (head_bytes 0xA0 (length ms)) (numbers_bytes (ref_size es) ms) ∙ rw (length_head 0xA0 (length ms), length_numbers (ref_size es) ms, l))
  box_length n dic r d =
      let m = kids 0 (suc n) r in
      let ks = map (number es) (evens m) in
      let vs = map (number es) (odds m) in
      let p : length m % 2 ≡ 0 = whole_parity top es n (suc n) dic r w d in
      let a : length ks ≡ length m / 2 = length-map (evens m) (number es) ∙ omega (arith, length_evens m, p) in
      let b : length (ks ++ vs) ≡ length m = length-append ks vs ∙ omega (arith, a, length-map (odds m) (number es), length_odds m, p) in
      rw d (length-append (head_bytes 0xD0 (length ks)) (numbers_bytes (ref_size es) (ks ++ vs)) ∙ rw (length_head 0xD0 (length ks), length_numbers (ref_size es) (ks ++ vs), a, b))

  abbrev size : Name → ℕ
  size x = length (bytes_at es x)

  -- an event's part of the sum
  weigh_one : (n : ℕ) (p : Piece) (r : List Piece) → drop n es ≡ p ∷ r → cond (is_first es n p) (size (name_of n p)) 0 ≡ weight_of es n p r + members_of n p r * ref_size es
  unfolding is_first weight_of members_of
  weigh_one n (scalar s) r d = omega (arith, ap (λ (m : ℕ). cond (eqb (rep_of es (val s)) n) m 0) (val_length s))
  weigh_one n (start k) r d =
      let e : rep_of es (box n) ≡ n = rep_box es n (record { piece = start k; post = r; there = d; named = refl; opens = refl }) in
      rw (eq-eqb (rep_of es (box n)) n e) (box_length n k r d)
  weigh_one n end r d = omega arith

  weigh : (n : ℕ) (r : List Piece) → drop n es ≡ r → along size es (emission es) n r ≡ weight_from es n r + members_from n r * ref_size es
  unfolding along weight_from members_from
  weigh n [] d = omega arith
  weigh n (p ∷ r) d = omega (arith, part_all size es (emission es) (told_emission es) n p r d, weigh_one n p r d, weigh (suc n) r (drop_next es n p r d), add-mul (members_of n p r) (members_from (suc n) r) (ref_size es))

  pub body_length : length (body es) ≡ weight_from es 0 es + members_from 0 es * ref_size es
  unfolding body emission
  body_length = length_flat (bytes_at es) (emission es) ∙ sum_along size es (emission es) (nub_distinct same (spoken 0 es) same_comm) (emission_told es) ∙ weigh 0 es refl
