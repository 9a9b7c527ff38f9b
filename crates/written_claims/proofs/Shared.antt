-- The references of a written file: in range, reaching every object, each container's once and from a lower number.
use Rattle.std.specs.Prelude.{Bool, cond, ◌⊎◌, ◌≡◌, ℕ, zero, suc, ◌+◌, ◌<◌, eqb, length, drop}
use Rattle.std.proofs.Math.Bool.{true, false}
use Rattle.std.proofs.lemmas.Bool.{false≢true}
use mathlib.Core.List.{List, [], ◌∷◌, ◌++◌, map}
use Rattle.std.proofs.Common.{inl, inr, sym, ap, ◌∙◌, arith}
use Rattle.std.proofs.Math.Path.{refl}
use borrow.Author.Tests.{eqb-true, eqb-false, eq-eqb, ne_eqb, ltb-true, ltb-false}
use Rattle.std.proofs.Math.Dec.{ltb}
use Rattle.std.proofs.Math.ListN.{get_or}
use Rattle.event.specs.Format.{max_open}
use Rattle.layout.specs.declared.layout.Layout.{Layout}
use Rattle.written.proofs.CountLaws.{times, times_in, times_out, times_distinct}
use Rattle.written.specs.File.{file_of}
use Rattle.written.proofs.FirstLaws.{sum_of}
use Rattle.written.specs.Graph.{Piece, Name, box, same, order, number}
use Rattle.written.proofs.NameLaws.{In, in_here, in_there, same_sound, same_refl, drop_lt, drop_next, drop_get_d}
use Rattle.written.specs.Nub.{has}
use Rattle.written.proofs.NumberLaws.{number_lt, number_at_law, number_one, order_in, order_distinct}
use Rattle.written_claims.specs.Laid.{layout_of}
use Rattle.written_claims.specs.Members.{members_of, Parent, own_parent, parent_own, member_named, parent_or_root}
use Rattle.written_claims.proofs.Objects.{references_are, references_none}
use Rattle.written_claims.specs.References.{named_by, all_references, Names, Reached, at_root, along, mentions}
use Rattle.written_claims.specs.Sharing.{parent_numbered, lower, own_times, parent_before}
use Rattle.written_claims.specs.Writable.{Sound}

-- a number that stands among those of names
map_has : (f : Name → ℕ) (i : ℕ) (l : List Name) → has eqb i (map f l) ≡ true → (y : Name) × In y l × (f y ≡ i)
unfolding has
map_has f i [] h = absurd (false≢true h)
map_has f i (x ∷ l) h = go (eqb i (f x)) refl (map_has f i l)
  where
    go : (b : Bool) → eqb i (f x) ≡ b → (has eqb i (map f l) ≡ true → (y : Name) × In y l × (f y ≡ i)) → (y : Name) × In y (x ∷ l) × (f y ≡ i)
    go true e ih = (x, in_here x l, sym (eqb-true i (f x) e))
    go false e ih = let p = ih (simp (e, has) at h) in (p.0, in_there p.0 x l p.1, p.2)

has_map : (f : Name → ℕ) (y : Name) (l : List Name) → In y l → has eqb (f y) (map f l) ≡ true
unfolding has
has_map f y [] h = absurd (false≢true h)
has_map f y (x ∷ l) h = go (same y x) refl (eqb (f y) (f x)) refl (has_map f y l)
  where
    go : (b : Bool) → same y x ≡ b → (c : Bool) → eqb (f y) (f x) ≡ c → (In y l → has eqb (f y) (map f l) ≡ true) → cond (eqb (f y) (f x)) true (has eqb (f y) (map f l)) ≡ true
    go b e true d ih = rw d
    go true e false d ih = absurd (eqb-false (f y) (f x) d (ap f (same_sound y x e)))
    go false e false d ih = rw d (ih (simp (e, has) at h))

mentions_append : (i : ℕ) (l m : List ℕ) → mentions i (l ++ m) ≡ mentions i l + mentions i m
unfolding mentions
mentions_append i [] m = omega arith
mentions_append i (y ∷ l) m = omega (arith, mentions_append i l m)

-- a name stands as often as its number
mentions_map : (all : List Piece) (x : Name) → In x (order all) → (l : List Name) → ((y : Name) → In y l → In y (order all)) → mentions (number all x) (map (number all) l) ≡ times x l
unfolding mentions times
mentions_map all x h [] k = refl
mentions_map all x h (y ∷ l) k = go (same x y) refl (mentions_map all x h l (λ z i. k z (in_there z y l i)))
  where
    go : (b : Bool) → same x y ≡ b → mentions (number all x) (map (number all) l) ≡ times x l → cond (eqb (number all x) (number all y)) 1 0 + mentions (number all x) (map (number all) l) ≡ cond (same x y) 1 0 + times x l
    go true e ih = rw (e, eq-eqb (number all x) (number all y) (ap (number all) (same_sound x y e)), ih)
    go false e ih = rw (e, ne_eqb (number all x) (number all y) (λ q. false≢true (sym e ∙ rw (number_one all x y h (k y (in_here y l)) q) (same_refl y))), ih)

-- sums over names
sum_zero : (r : List Name) → sum_of (λ y. 0) r ≡ 0
unfolding sum_of
sum_zero [] = refl
sum_zero (y ∷ r) = omega (arith, sum_zero r)

sum_times : (z : Name) (r : List Name) → sum_of (λ y. cond (same z y) 1 0) r ≡ times z r
unfolding sum_of times
sum_times z [] = refl
sum_times z (y ∷ r) = rw (sum_times z r)

module _ (es : List Piece) (g : Sound es) where
  abbrev file : List ℕ
  file = file_of es

  abbrev l : Layout
  l = layout_of es

  refs_are : (x : Name) → In x (order es) → named_by file l (number es x) ≡ map (number es) (members_of es x)
  refs_are = references_are es g

  -- object m names object i: a name and its member
  pub record Link (m i : ℕ) : Type 0 where
    pub from : Name
    pub onto : Name
    pub from_is : number es from ≡ m
    pub onto_is : number es onto ≡ i
    pub from_named : In from (order es)
    pub member : In onto (members_of es from)

  pub link : (m i : ℕ) → Names file l m i → Link m i
  unfolding has
  link m i h = go (ltb m (length (order es))) refl
    where
      go : (b : Bool) → ltb m (length (order es)) ≡ b → Link m i
      go false e = absurd (false≢true (rw (references_none es g m (ltb-false m (length (order es)) e)) at h))
      go true e =
          let lt = ltb-true m (length (order es)) e in
          let x = get_or (order es) m (box 0) in
          let n = order_in es m (box 0) lt in
          let q = number_at_law es m (box 0) lt in
          let s = map_has (number es) i (members_of es x) (rw (← q, refs_are x n) at h) in
          record { from = x; onto = s.0; from_is = q; onto_is = s.2; from_named = n; member = s.1 }

  pub range : (m i : ℕ) → Names file l m i → i < length (order es)
  range m i h = let k = link m i h in rw (← k.onto_is) (number_lt es k.onto (member_named es k.from k.onto k.member))

  -- a container that is named is named from a lower number
  pub from_lower : (m p : ℕ) → In (box p) (order es) → Names file l m (number es (box p)) → m < number es (box p)
  from_lower m p n h =
      let k = link m (number es (box p)) h in
      let e : k.onto ≡ box p = number_one es k.onto (box p) (member_named es k.from k.onto k.member) n k.onto_is in
      let q = own_parent es k.from (box p) (rw e at k.member) in
      let f : number es (box q.0.place) ≡ m = ap (number es) q.1 ∙ k.from_is in
      omega (arith, lower max_open es g.one p q.0, f)

  -- how often a name stands in the references of the objects from n on
  mentions_sum : (x : Name) → In x (order es) → (g : Name → ℕ) → ((y : Name) → times x (members_of es y) ≡ g y) → (r : List Name) (n : ℕ) → drop n (order es) ≡ r → mentions (number es x) (all_references file l n (length r)) ≡ sum_of g r
  unfolding all_references sum_of mentions
  mentions_sum x h g f [] n e = refl
  mentions_sum x h g f (y ∷ r) n e =
      let lt = drop_lt (order es) n y r e in
      let d : get_or (order es) n (box 0) ≡ y = drop_get_d (order es) n y (box 0) r e in
      let q : number es y ≡ n = rw d at (number_at_law es n (box 0) lt) in
      let o : In y (order es) = rw d at (order_in es n (box 0) lt) in
      let a : named_by file l n ≡ map (number es) (members_of es y) = rw q at (refs_are y o) in
      rw a (mentions_append (number es x) (map (number es) (members_of es y)) (all_references file l (suc n) (length r))
      ∙ rw (mentions_map es x h (members_of es y) (λ z i. member_named es y z i), f y, mentions_sum x h g f r (suc n) (drop_next (order es) n y r e)))

  abbrev everywhere : List ℕ
  everywhere = all_references file l 0 (length (order es))

  -- a container that is not the root stands once in all references
  pub once : (p : ℕ) → In (box p) (order es) → 0 < number es (box p) → mentions (number es (box p)) everywhere ≡ 1
  once p h z = go (parent_or_root es max_open g.one (box p) h)
    where
      go : (number es (box p) ≡ 0) ⊎ Parent es (box p) → mentions (number es (box p)) everywhere ≡ 1
      go (inl e) = absurd (omega arith)
      go (inr q) =
          let b = box q.place in
          mentions_sum (box p) h (λ y. cond (same b y) 1 0) (own_times max_open es g.one p q) (order es) 0 refl
          ∙ sum_times b (order es)
          ∙ omega (arith, times_distinct b (order es) (order_distinct es), times_in b (order es) (parent_numbered max_open es g.one (box p) q))

  -- the root, if it is one, in none
  pub root_never : (p : ℕ) → In (box p) (order es) → number es (box p) ≡ 0 → mentions (number es (box p)) everywhere ≡ 0
  root_never p h z = mentions_sum (box p) h (λ y. 0) (λ y. never y (has same (box p) (members_of es y)) refl) (order es) 0 refl ∙ sum_zero (order es)
    where
      never : (y : Name) (b : Bool) → has same (box p) (members_of es y) ≡ b → times (box p) (members_of es y) ≡ 0
      never y false e = times_out (box p) (members_of es y) e
      never y true e = absurd (omega (arith, lower max_open es g.one p (own_parent es y (box p) e).0))

  -- every object is reached
  parent_names : (x : Name) (q : Parent es x) → Names file l (number es (box q.place)) (number es x)
  parent_names x q =
      rw (refs_are (box q.place) (parent_numbered max_open es g.one x q)) (has_map (number es) x (members_of es (box q.place)) (rw (parent_own es x q) q.member))

  reached_box : (bound p : ℕ) → p < bound → In (box p) (order es) → Reached file l 0 (number es (box p))
  reached_box zero p lt h = absurd (omega arith)
  reached_box (suc bound) p lt h = go (parent_or_root es max_open g.one (box p) h) (λ r k i. reached_box bound r k i)
    where
      go : (number es (box p) ≡ 0) ⊎ Parent es (box p) → ((r : ℕ) → r < bound → In (box r) (order es) → Reached file l 0 (number es (box r))) → Reached file l 0 (number es (box p))
      go (inl e) ih = rw e at_root
      go (inr q) ih =
          let before = parent_before max_open es g.one p q in
          along (number es (box q.place)) (number es (box p)) (ih q.place (omega arith) (parent_numbered max_open es g.one (box p) q)) (parent_names (box p) q)

  pub reaches : (x : Name) → In x (order es) → Reached file l 0 (number es x)
  reaches x h = go (parent_or_root es max_open g.one x h)
    where
      go : (number es x ≡ 0) ⊎ Parent es x → Reached file l 0 (number es x)
      go (inl e) = rw e at_root
      go (inr q) = along (number es (box q.place)) (number es x) (reached_box (suc q.place) q.place (omega arith) (parent_numbered max_open es g.one x q)) (parent_names x q)
