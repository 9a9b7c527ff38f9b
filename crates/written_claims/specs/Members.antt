-- The members of an object by their names: each has a number, and each name but the root's is a member's.
use Rattle.std.specs.Prelude.{◌≡◌, Bool, ◌⊎◌, ℕ, suc, drop}
use Rattle.std.proofs.Math.Path.{refl, ap}
use Rattle.std.proofs.Common.{◌∙◌, inl, inr}
use Rattle.std.proofs.Math.Bool.{true, false, cond}
use Rattle.std.proofs.lemmas.Bool.{false≢true}
use mathlib.Core.List.{List, [], ◌∷◌}
use Rattle.written.proofs.CountLaws.{out_laid}
use Rattle.written.specs.Graph.{Kind, Piece, scalar, start, end, Name, val, box, same, kids, laid, names, order, number}
use Rattle.written.proofs.NameLaws.{In, in_append, same_sound, drop_next}
use Rattle.written.specs.Nub.{has}
use Rattle.written.proofs.NumberLaws.{kid_named, root_number, from_order}
use Rattle.written.specs.Shape.{whole}
use Rattle.written.proofs.WholeLaws.{root_only}

-- the members of the container that begins at event p
unfoldable pub members_at : ℕ → List Piece → List Name
members_at p [] = []
members_at p (scalar s ∷ es) = []
members_at p (start k ∷ es) = kids 0 (suc p) es
members_at p (end ∷ es) = []

unfoldable pub members_of : List Piece → Name → List Name
members_of all (val s) = []
members_of all (box p) = members_at p (drop p all)

-- where x is a member
pub record Parent (all : List Piece) (x : Name) : Type 0 where
  pub place : ℕ
  pub kind : Kind
  pub post : List Piece
  pub begins : drop place all ≡ start kind ∷ post
  pub member : In x (kids 0 (suc place) post)

module _ (all : List Piece) where
  at_parent : (p : ℕ) (es : List Piece) (y : Name) → drop p all ≡ es → In y (members_at p es) → (q : Parent all y) × (q.place ≡ p)
  unfolding members_at has
  at_parent p [] y e h = absurd (false≢true h)
  at_parent p (scalar s ∷ es) y e h = absurd (false≢true h)
  at_parent p (start k ∷ es) y e h = (record { place = p; kind = k; post = es; begins = e; member = h }, refl)
  at_parent p (end ∷ es) y e h = absurd (false≢true h)

  -- a member of x has x for its parent
  pub own_parent : (x y : Name) → In y (members_of all x) → (q : Parent all y) × (box q.place ≡ x)
  unfolding members_of has
  own_parent (val s) y h = absurd (false≢true h)
  own_parent (box p) y h = let r = at_parent p (drop p all) y refl h in (r.0, ap box r.1)

  pub parent_own : (y : Name) (q : Parent all y) → members_of all (box q.place) ≡ kids 0 (suc q.place) q.post
  unfolding members_of members_at
  parent_own y q = rw q.begins

  pub parent_named : (y : Name) → Parent all y → In y (order all)
  parent_named y q = kid_named all q.place q.kind q.post y q.begins q.member

  pub member_named : (x y : Name) → In y (members_of all x) → In y (order all)
  member_named x y h = parent_named y (own_parent x y h).0

  -- what is named has a parent
  names_from : (es : List Piece) (n : ℕ) (x : Name) → drop n all ≡ es → In x (names n es) → Parent all x
  unfolding names has
  names_from [] n x e h = absurd (false≢true h)
  names_from (scalar s ∷ es) n x e h = names_from es (suc n) x (drop_next all n (scalar s) es e) h
  names_from (start k ∷ es) n x e h = go (in_append x (laid k (kids 0 (suc n) es)) (names (suc n) es) h) (names_from es (suc n) x (drop_next all n (start k) es e))
    where
      go : In x (laid k (kids 0 (suc n) es)) ⊎ In x (names (suc n) es) → (In x (names (suc n) es) → Parent all x) → Parent all x
      go (inl i) ih = record { place = n; kind = k; post = es; begins = e; member = out_laid x k (kids 0 (suc n) es) i }
      go (inr i) ih = ih i
  names_from (end ∷ es) n x e h = names_from es (suc n) x (drop_next all n end es e) h

  in_one : (x y : Name) → In x (y ∷ []) → x ≡ y
  unfolding has
  in_one x y h = same_sound x y (sure (same x y) h)
    where
      sure : (b : Bool) → cond b true false ≡ true → b ≡ true
      sure true e = refl
      sure false e = absurd (false≢true e)

  -- all that has a number is the root or has a parent
  pub parent_or_root : (top : ℕ) → whole top all ≡ true → (x : Name) → In x (order all) → (number all x ≡ 0) ⊎ Parent all x
  parent_or_root top w x h = go (in_append x (kids 0 0 all) (names 0 all) (from_order all x h))
    where
      go : In x (kids 0 0 all) ⊎ In x (names 0 all) → (number all x ≡ 0) ⊎ Parent all x
      go (inr i) = inr (names_from all 0 x refl i)
      go (inl i) =
          let r = root_only top all w in
          let e : x ≡ r.0 = in_one x r.0 (rw r.1 at i) in
          inl (ap (number all) e ∙ root_number all r.0 [] r.1)
