-- Laws of the objects' numbers.
use Rattle.std.specs.Prelude.{◌≡◌, true, List, ◌∷◌, ◌++◌, ℕ, suc, ◌<◌, length, drop}
use Rattle.std.proofs.Math.Path.{sym, ap}
use Rattle.std.proofs.Common.{◌∙◌, zero-add}
use Rattle.std.proofs.Math.ListN.{get_or}
use Rattle.written.specs.Graph.{Kind, Piece, start, Name, same, kids, names, order, number}
use Rattle.written.proofs.NameLaws.{same_sound, same_refl, same_comm, In, in_here, in_left, in_right, kids_in_names}
use Rattle.written.specs.Nub.{distinct, nub_has, nub_first, nub_distinct, index_of_lt, index_of_get_d, get_d_index_of, has_get_d}

module _ (all : List Piece) where
  -- what is named has a number below the count, and the number leads to it
  pub number_lt : (x : Name) → In x (order all) → number all x < length (order all)
  unfolding number
  number_lt x h = index_of_lt same x (order all) h

  pub order_at : (x d : Name) → In x (order all) → get_or (order all) (number all x) d ≡ x
  unfolding number
  order_at x d h = get_d_index_of same same_sound x d (order all) h

  pub number_one : (x y : Name) → In x (order all) → In y (order all) → number all x ≡ number all y → x ≡ y
  unfolding number
  number_one x y hx hy e =
      sym (get_d_index_of same same_sound x x (order all) hx) ∙ ap (λ (i : ℕ). get_or (order all) i x) e ∙ get_d_index_of same same_sound y x (order all) hy

  pub order_distinct : distinct same (order all) ≡ true
  unfolding order
  order_distinct = nub_distinct same (kids 0 0 all ++ names 0 all) same_comm

  -- and each number below the count leads to a name that has it
  pub order_in : (i : ℕ) (d : Name) → i < length (order all) → In (get_or (order all) i d) (order all)
  order_in i d h = has_get_d same same_refl (order all) i d h

  pub number_at_law : (i : ℕ) (d : Name) → i < length (order all) → number all (get_or (order all) i d) ≡ i
  unfolding number
  number_at_law i d h = index_of_get_d same same_refl same_sound (order all) i d order_distinct h

  -- what has a number is what is named
  pub in_order : (x : Name) → In x (kids 0 0 all ++ names 0 all) → In x (order all)
  unfolding order
  in_order x h = nub_has same same_sound x (kids 0 0 all ++ names 0 all) ∙ h

  pub from_order : (x : Name) → In x (order all) → In x (kids 0 0 all ++ names 0 all)
  unfolding order
  from_order x h = sym (nub_has same same_sound x (kids 0 0 all ++ names 0 all)) ∙ h

  -- the members of a container that begins somewhere are named
  pub kid_named : (p : ℕ) (k : Kind) (post : List Piece) (x : Name) → drop p all ≡ start k ∷ post → In x (kids 0 (suc p) post) → In x (order all)
  kid_named p k post x e h = in_order x (in_right x (kids 0 0 all) (names 0 all) (kids_in_names all 0 p k post x e (rw zero-add h)))

  -- the root is named, and has number 0
  pub root_named : (x : Name) (l : List Name) → kids 0 0 all ≡ x ∷ l → In x (order all)
  root_named x l e = in_order x (in_left x (kids 0 0 all) (names 0 all) (rw e (in_here x l)))

  pub root_number : (x : Name) (l : List Name) → kids 0 0 all ≡ x ∷ l → number all x ≡ 0
  unfolding number order
  root_number x l e = rw e (nub_first same x (l ++ names 0 all) (same_refl x))
