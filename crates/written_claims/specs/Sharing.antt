-- Each container but the root is a member once, of a container with a lower number.
use Rattle.std.specs.Prelude.{◌≡◌, refl, Bool, true, cond, List, ◌∷◌, ◌++◌, ℕ, suc, ◌+◌, ◌-◌, ◌<◌, ltb, drop}
use Rattle.std.proofs.Common.{sym, ap, ◌∙◌, append_assoc, zero-add, arith, ltb-true, ltb-false, drop-drop}
use Rattle.std.proofs.Math.Bool.{false}
use Rattle.std.proofs.lemmas.Bool.{false≢true}
use Rattle.written.proofs.CountLaws.{times, times_append, times_in, times_out, in_times, out_times, times_laid}
use Rattle.written.specs.Graph.{Kind, Piece, start, Name, box, same, kids, laid, names, order, number}
use Rattle.written.proofs.NameLaws.{In, same_sound, same_refl, drop_next, kids_in_names}
use Rattle.written.specs.Nub.{has, nub_before}
use Rattle.written.proofs.NumberLaws.{in_order, from_order}
use Rattle.written.proofs.OnceLaws.{starts, starts_all, kids_low, names_low, all_once, named_once}
use Rattle.written.specs.Shape.{whole}
use Rattle.written.specs.Upto.{names_upto}
use Rattle.written.proofs.UptoLaws.{names_parts}
use Rattle.written_claims.specs.Members.{members_of, Parent, own_parent, parent_own}

module _ (top : ℕ) (all : List Piece) (w : whole top all ≡ true) where
  -- what begins somewhere has a number
  pub start_named : (p : ℕ) (k : Kind) (post : List Piece) → drop p all ≡ start k ∷ post → In (box p) (order all)
  start_named p k post e =
      let h : 0 < times (box p) (starts 0 all) = rw zero-add at (starts_all p 0 all k post e) in
      in_order all (box p) (in_times (box p) (kids 0 0 all ++ names 0 all) (rw (all_once top p all w) h))

  pub parent_numbered : (x : Name) (q : Parent all x) → In (box q.place) (order all)
  parent_numbered x q = start_named q.place q.kind q.post q.begins

  module _ (x : Name) (q : Parent all x) where
    abbrev siblings : List Name
    siblings = kids 0 (suc q.place) q.post

    abbrev after : List Name
    after = names (suc q.place) q.post

    -- the names before those of x's parent, its own, and those after
    abbrev before : List Name
    before = kids 0 0 all ++ names_upto q.place 0 all

    around : kids 0 0 all ++ names 0 all ≡ before ++ (laid q.kind siblings ++ after)
    unfolding names
    around =
        let e : names 0 all ≡ names_upto q.place 0 all ++ (laid q.kind siblings ++ after) = names_parts q.place 0 all ∙ rw (zero-add, q.begins) in
        rw e (sym (append_assoc (kids 0 0 all) (names_upto q.place 0 all) _))

    counts : (y : Name) → times y (kids 0 0 all ++ names 0 all) ≡ times y before + (times y siblings + times y after)
    counts y =
        omega (arith, ap (times y) around, times_append y before (laid q.kind siblings ++ after), times_append y (laid q.kind siblings) after, times_laid y q.kind siblings)

  -- a container's number is above its parent's
  pub lower : (p : ℕ) (q : Parent all (box p)) → number all (box q.place) < number all (box p)
  unfolding number order
  lower p q =
      let x = box p in
      let b = box q.place in
      let own = times_in x (siblings x q) q.member in
      let out : has same x (before x q) ≡ false = out_times x (before x q) (omega (arith, own, named_once top p all w, counts x q x)) in
      let here : 0 < times b (kids 0 0 all ++ names 0 all) = times_in b (kids 0 0 all ++ names 0 all) (from_order all b (parent_numbered x q)) in
      let inn : In b (before x q) =
      in_times b (before x q) (omega (arith, here, counts x q b, kids_low q.place 0 (suc q.place) q.post (omega arith), names_low q.place (suc q.place) q.post (omega arith))) in
      rw (around x q) (nub_before same same_sound b x (before x q) _ inn out)

  -- no two parents
  not_twice : (p : ℕ) (q r : Parent all (box p)) → q.place < r.place → ⊥
  not_twice p q r lt =
      let x = box p in
      let i = r.place - suc q.place in
      let s : suc q.place + i ≡ r.place = omega arith in
      let d : drop i q.post ≡ start r.kind ∷ r.post = rw (← (drop_next all q.place (start q.kind) q.post q.begins), drop-drop, s) r.begins in
      let h : In x (after x q) = kids_in_names q.post (suc q.place) i r.kind r.post x d (rw s r.member) in
      omega (arith, times_in x (siblings x q) q.member, times_in x (after x q) h, named_once top p all w, counts x q x)

  one_parent : (p : ℕ) (q r : Parent all (box p)) → q.place ≡ r.place
  one_parent p q r = go (ltb q.place r.place) refl (ltb r.place q.place) refl
    where
      go : (b : Bool) → ltb q.place r.place ≡ b → (c : Bool) → ltb r.place q.place ≡ c → q.place ≡ r.place
      go true e c f = absurd (not_twice p q r (ltb-true q.place r.place e))
      go false e true f = absurd (not_twice p r q (ltb-true r.place q.place f))
      go false e false f = omega (arith, ltb-false q.place r.place e, ltb-false r.place q.place f)

  -- a container stands once among its parent's members, and among no other's
  pub own_times : (p : ℕ) (q : Parent all (box p)) (y : Name) → times (box p) (members_of all y) ≡ cond (same (box q.place) y) 1 0
  own_times p q y = go (same (box q.place) y) refl (has same (box p) (members_of all y)) refl
    where
      go : (b : Bool) → same (box q.place) y ≡ b → (c : Bool) → has same (box p) (members_of all y) ≡ c → times (box p) (members_of all y) ≡ cond b 1 0
      go true e c f =
          rw (← (same_sound (box q.place) y e), parent_own all (box p) q)
          (omega (arith, times_in (box p) (siblings (box p) q) q.member, named_once top p all w, counts (box p) q (box p)))
      go false e false f = times_out (box p) (members_of all y) f
      go false e true f =
          let r = own_parent all y (box p) f in
          absurd (false≢true (sym e ∙ rw (← r.1, one_parent p q r.0) (same_refl (box r.0.place))))

  -- a parent begins before its members
  pub parent_before : (p : ℕ) (q : Parent all (box p)) → q.place < p
  parent_before p q = go (ltb q.place p) refl
    where
      go : (b : Bool) → ltb q.place p ≡ b → q.place < p
      go true e = ltb-true q.place p e
      go false e =
          absurd (omega (arith, times_in (box p) (siblings (box p) q) q.member, kids_low p 0 (suc q.place) q.post (omega (arith, ltb-false q.place p e))))
