-- What is due in an open container is the element of its references at the position, or its end.
use Rattle.std.proofs.Math.Option.{some}
use Rattle.std.specs.Prelude.{Bool, ◌⊎◌, length, None, Some, Option}
use Rattle.std.proofs.Math.Bool.{true, false}
use mathlib.Core.List.{List, [], ◌∷◌, map}
use Rattle.std.proofs.Common.{inl, inr, ◌∙◌, suc-mul, add-mul}
use Rattle.std.proofs.Math.Path.{◌≡◌, refl, sym, ap}
use Prim.Native.Nat.{ℕ, zero, suc, ◌+◌, ◌*◌, ◌/◌, ◌%◌, ◌≤◌, ◌<◌}
use Rattle.std.proofs.Math.Nat.{zero-mul}
use native.Mathlib.Omega.{arith}
use borrow.Author.Tests.{lt-ltb, eq-eqb, ne_eqb, eqb-true, eqb-false, ltb-true, ltb-false}
use Rattle.std.proofs.Math.Dec.{ltb, eqb}
use Rattle.std.proofs.Math.ListN.{get_elem?}
use Rattle.std.proofs.lemmas.List.{length-map}
use Rattle.number.specs.Either.{either}
use Rattle.number.specs.Width.{bytes_in}
use Rattle.number.specs.declared.width.Width.{Width}
use Rattle.object.specs.declared.container.Container.{Container}
use Rattle.object.specs.declared.container.Container.TheVariants.{Array, Dictionary, NoContainer}
use Rattle.layout.specs.Layout.{number_at, entry_at, place_in, given, due_at, in_array, in_dictionary, due_in, due_of, nowhere, stands_from, stands_at, kept_from, stands_in}
use Rattle.layout.specs.declared.frame.Frame.{Frame}
use Rattle.layout.specs.declared.layout.Due.{Due}
use Rattle.layout.specs.declared.layout.Due.TheVariants.{Wrong, Close, Member}
use Rattle.layout.specs.declared.layout.Layout.{Layout}
use Rattle.layout.specs.declared.layout.Standing.{Standing}
use Rattle.layout.specs.References.{length_of, row, in_turn, entries_in, number_in, references, entries_of, references_of}

-- what is due at a position among references of a container at an offset
unfoldable pub element_of : ℕ → List (Option ℕ) → ℕ → Due
element_of offset [] zero = Close offset
element_of offset [] (suc p) = Wrong
element_of offset (e ∷ es) zero = given e
element_of offset (e ∷ es) (suc p) = element_of offset es p

module _ (file : List ℕ) (w : Width) where
  pub length_row : (at n : ℕ) → length (row file w at n) ≡ n
  unfolding row
  length_row at zero = refl
  length_row at (suc n) = ap suc (length_row (at + bytes_in w) n)

  length_turn : (a b n : ℕ) → length (in_turn (row file w a n) (row file w b n)) ≡ 2 * n
  unfolding row in_turn
  length_turn a b zero = refl
  length_turn a b (suc n) = omega (arith, length_turn (a + bytes_in w) (b + bytes_in w) n)

  further : (at q : ℕ) → at + bytes_in w + q * bytes_in w ≡ at + suc q * bytes_in w
  further at q = rw suc-mul (omega arith)

  row_at : (at n p : ℕ) → p < n → get_elem? (row file w at n) p ≡ some (number_at file w (at + p * bytes_in w))
  unfolding row
  row_at at zero p h = absurd (omega arith)
  row_at at (suc n) zero h = ap (λ (k : ℕ). some (number_at file w k)) (rw zero-mul (omega arith))
  row_at at (suc n) (suc p) h = row_at (at + bytes_in w) n p (omega arith) ∙ ap (λ (k : ℕ). some (number_at file w k)) (further at p)

  turn_key : (a b n p q : ℕ) → p ≡ 2 * q → q < n → get_elem? (in_turn (row file w a n) (row file w b n)) p ≡ some (number_at file w (a + q * bytes_in w))
  unfolding row in_turn
  turn_key a b zero p q e h = absurd (omega arith)
  turn_key a b (suc n) zero q e h = ap (λ (k : ℕ). some (number_at file w k)) (let z : q ≡ 0 = omega arith in rw (z, zero-mul) (omega arith))
  turn_key a b (suc n) (suc zero) q e h = absurd (omega arith)
  turn_key a b (suc n) (suc (suc p)) zero e h = absurd (omega arith)
  turn_key a b (suc n) (suc (suc p)) (suc q) e h =
      turn_key (a + bytes_in w) (b + bytes_in w) n p q (omega arith) (omega arith) ∙ ap (λ (k : ℕ). some (number_at file w k)) (further a q)

  turn_value : (a b n p q : ℕ) → p ≡ 2 * q + 1 → q < n → get_elem? (in_turn (row file w a n) (row file w b n)) p ≡ some (number_at file w (b + q * bytes_in w))
  unfolding row in_turn
  turn_value a b zero p q e h = absurd (omega arith)
  turn_value a b (suc n) zero q e h = absurd (omega arith)
  turn_value a b (suc n) (suc zero) q e h = ap (λ (k : ℕ). some (number_at file w k)) (let z : q ≡ 0 = omega arith in rw (z, zero-mul) (omega arith))
  turn_value a b (suc n) (suc (suc p)) zero e h = absurd (omega arith)
  turn_value a b (suc n) (suc (suc p)) (suc q) e h =
      turn_value (a + bytes_in w) (b + bytes_in w) n p q (omega arith) (omega arith) ∙ ap (λ (k : ℕ). some (number_at file w k)) (further b q)

  turn_at : (a n p : ℕ) → p < 2 * n → get_elem? (in_turn (row file w a n) (row file w (a + n * bytes_in w) n)) p ≡ some (number_at file w (a + place_in n p * bytes_in w))
  unfolding place_in
  turn_at a n p h = go (p % 2) refl
    where
      go : (r : ℕ) → p % 2 ≡ r → get_elem? (in_turn (row file w a n) (row file w (a + n * bytes_in w) n)) p ≡ some (number_at file w (a + (p / 2 + p % 2 * n) * bytes_in w))
      go zero e = turn_key a _ n p (p / 2) (omega arith) (omega arith) ∙ ap (λ (k : ℕ). some (number_at file w (a + k * bytes_in w))) (rw e (omega arith))
      go (suc zero) e = turn_value a _ n p (p / 2) (omega arith) (omega arith) ∙ ap (λ (k : ℕ). some (number_at file w k)) (rw (e, add-mul) (omega arith))
      go (suc (suc r)) e = absurd (omega arith)

-- the element at a position: the end at their number, nothing past it
module _ (offset : ℕ) where
  pub element_at : (es : List (Option ℕ)) (p : ℕ) (e : Option ℕ) → get_elem? es p ≡ some e → element_of offset es p ≡ given e
  unfolding element_of
  element_at [] p e h = let z : ◌≡◌ {A = ℕ} 0 1 = cc in absurd (omega arith)
  element_at (x ∷ xs) zero e h = let q : x ≡ e = cc in rw q
  element_at (x ∷ xs) (suc p) e h = element_at xs p e h

  pub element_end : (es : List (Option ℕ)) (p : ℕ) → p ≡ length es → element_of offset es p ≡ Close offset
  unfolding element_of
  element_end [] zero h = refl
  element_end [] (suc p) h = absurd (omega arith)
  element_end (x ∷ xs) zero h = absurd (omega arith)
  element_end (x ∷ xs) (suc p) h = element_end xs p (omega arith)

  pub element_past : (es : List (Option ℕ)) (p : ℕ) → length es < p → element_of offset es p ≡ Wrong
  unfolding element_of
  element_past [] zero h = absurd (omega arith)
  element_past [] (suc p) h = refl
  element_past (x ∷ xs) zero h = absurd (omega arith)
  element_past (x ∷ xs) (suc p) h = element_past xs p (omega arith)

module _ (file : List ℕ) (l : Layout) (f : Frame) (offset : ℕ) where
  listed : (es : List (Option ℕ)) (n start place : ℕ) → length es ≡ n
      → (f.position < n → get_elem? es f.position ≡ some (number_at file l.refs (start + place * bytes_in l.refs)))
      → due_at file l.refs offset start n place f.position ≡ element_of offset es f.position
  unfolding due_at
  listed es n start place e h = go (eqb f.position n) refl (ltb f.position n) refl
    where
      go : (a : Bool) → eqb f.position n ≡ a → (b : Bool) → ltb f.position n ≡ b
          → due_at file l.refs offset start n place f.position ≡ element_of offset es f.position
      go true p b q = rw p (sym (element_end offset es f.position (eqb-true _ _ p ∙ sym e)))
      go false p true q = rw (p, q) (sym (element_at offset es f.position _ (h (ltb-true _ _ q))))
      go false p false q =
          let d : f.position ≡ n → ⊥ = eqb-false _ _ p in
          let m : n ≤ f.position = ltb-false _ _ q in
          rw (p, q) (sym (element_past offset es f.position (omega arith)))

  -- in a container of another length nothing is due
  pub due_other : (c : Container) → (length_of c ≡ Some f.length → ⊥) → due_in file l f offset c ≡ Wrong
  unfolding due_in in_array in_dictionary length_of
  due_other NoContainer h = refl
  due_other (Array e) h = rw (ne_eqb e.count f.length (λ q. h (ap Some q)))
  due_other (Dictionary e) h = rw (ne_eqb e.count f.length (λ q. h (ap Some q)))

  -- in one of the frame's length its reference at the position, or its end
  pub due_listed : (c : Container) → length_of c ≡ Some f.length → due_in file l f offset c ≡ element_of offset (entries_in file l.refs c) f.position
  unfolding due_in in_array in_dictionary length_of entries_in
  due_listed NoContainer h = let z : ◌≡◌ {A = ℕ} 0 1 = cc in absurd (omega arith)
  due_listed (Array e) h =
      let q : e.count ≡ f.length = cc in
      rw (eq-eqb _ _ q, ← q) (listed _ e.count e.start f.position (length_row file l.refs e.start e.count) (row_at file l.refs e.start e.count f.position))
  due_listed (Dictionary e) h =
      let q : e.count ≡ f.length = cc in
      rw (eq-eqb _ _ q, ← q) (listed _ (2 * e.count) e.start (place_in e.count f.position) (length_turn file l.refs e.start _ e.count) (turn_at file l.refs e.start e.count f.position))

-- what is due in a frame is due in what stands where it was kept
pub due_here : (file : List ℕ) (l : Layout) (f : Frame) → due_of file l f ≡ due_in file l f (stands_in file l f).offset (stands_in file l f).container
unfolding due_of
due_here file l f = refl

-- the references of an object are those of what stands at its offset
pub references_at : (file : List ℕ) (l : Layout) (n offset : ℕ) → n < l.count → entry_at file l n ≡ Some offset → references_of file l n ≡ references file l.refs offset
unfolding references_of entries_of references stands_at stands_from
references_at file l n offset h e = rw (lt-ltb _ _ h, e)

-- the number of an element
number_at_law : (es : List (Option ℕ)) (p n : ℕ) → get_elem? es p ≡ some (Some n) → get_elem? (map number_in es) p ≡ some n
unfolding number_in
number_at_law [] p n h = let z : ◌≡◌ {A = ℕ} 0 1 = cc in absurd (omega arith)
number_at_law (e ∷ es) zero n h = let q : e ≡ Some n = cc in rw q
number_at_law (e ∷ es) (suc p) n h = number_at_law es p n h

-- What is due in a frame, whatever it says: nothing; the end, at the number of its object's references; or the reference at its position
abbrev pub Dues : List ℕ → Layout → Frame → Due → Type 0
Dues file l f Wrong = Unit {0}
Dues file l f (Close offset) = (offset ≡ (stands_in file l f).offset) × (f.position ≡ length (references_of file l f.object))
Dues file l f (Member n) = get_elem? (references_of file l f.object) f.position ≡ some n

-- the same among references
abbrev Elements : ℕ → List (Option ℕ) → ℕ → Due → Type 0
Elements offset es p Wrong = Unit {0}
Elements offset es p (Close o) = (o ≡ offset) × (p ≡ length es)
Elements offset es p (Member n) = get_elem? es p ≡ some (Some n)

deeper : (offset : ℕ) (e : Option ℕ) (es : List (Option ℕ)) (p : ℕ) (d : Due) → Elements offset es p d → Elements offset (e ∷ es) (suc p) d
deeper offset e es p Wrong h = tt
deeper offset e es p (Close o) h = (h.0, ap suc h.1)
deeper offset e es p (Member n) h = h

elements : (offset : ℕ) (es : List (Option ℕ)) (p : ℕ) → Elements offset es p (element_of offset es p)
unfolding element_of given
elements offset [] zero = (refl, refl)
elements offset [] (suc p) = tt
elements offset (Some n ∷ es) zero = refl
elements offset (None ∷ es) zero = tt
elements offset (Some n ∷ es) (suc p) = deeper offset (Some n) es p (element_of offset es p) (elements offset es p)
elements offset (None ∷ es) (suc p) = deeper offset None es p (element_of offset es p) (elements offset es p)

-- whether a length is this
pub same_length : (o : Option ℕ) (k : ℕ) → (o ≡ Some k) ⊎ (o ≡ Some k → ⊥)
same_length None k = inr (λ e. let z : ◌≡◌ {A = ℕ} 0 1 = cc in omega arith)
same_length (Some n) k = go (eqb n k) refl
  where
    go : (b : Bool) → eqb n k ≡ b → (Some n ≡ Some k) ⊎ (Some n ≡ Some k → ⊥)
    go true e = inl (ap Some (eqb-true _ _ e))
    go false e = inr (λ q. eqb-false n k e cc)

module _ (file : List ℕ) (l : Layout) (f : Frame) where
  abbrev stand : Standing
  stand = stands_in file l f

  -- a container that stands where it was kept stands where its entry says
  abbrev Here : Standing → Standing → Type 0
  Here s t = length_of s.container ≡ Some f.length → s ≡ t

  not_here : (t : Standing) → Here nowhere t
  unfolding length_of
  not_here t e = let z : ◌≡◌ {A = ℕ} 0 1 = cc in absurd (omega arith)

  kept_entry : (x : Option ℕ) → Here (kept_from file f.offset x) (stands_from file x)
  unfolding kept_from stands_from
  kept_entry None = not_here nowhere
  kept_entry (Some o) = either (λ (s : Standing). Here s (stands_from file (Some o))) (eqb o f.offset) _ _ (λ h e. refl) (λ h. not_here _)

  pub kept_stands : length_of stand.container ≡ Some f.length → stand ≡ stands_at file l f.object
  unfolding stands_in stands_at
  kept_stands = go (ltb f.object l.count) refl
    where
      go : (b : Bool) → ltb f.object l.count ≡ b → Here (stands_in file l f) (stands_at file l f.object)
      go true e = rw e (kept_entry (entry_at file l f.object))
      go false e = rw e (not_here nowhere)

  as_numbers : (d : Due) → Elements stand.offset (entries_of file l f.object) f.position d → Dues file l f d
  unfolding references_of
  as_numbers Wrong h = tt
  as_numbers (Close o) h = (h.0, h.1 ∙ sym (length-map (entries_of file l f.object) number_in))
  as_numbers (Member n) h = number_at_law (entries_of file l f.object) f.position n h

  -- in a frame whose object isn't a container of its length nothing is due
  pub due_none : (length_of stand.container ≡ Some f.length → ⊥) → due_of file l f ≡ Wrong
  due_none h = due_here file l f ∙ due_other file l f stand.offset stand.container h

  -- else what its references say at the position
  pub due_entry : length_of stand.container ≡ Some f.length → due_of file l f ≡ element_of stand.offset (entries_of file l f.object) f.position
  unfolding entries_of
  due_entry h = due_here file l f ∙ due_listed file l f stand.offset stand.container h ∙ ap (λ (s : Standing). element_of stand.offset (entries_in file l.refs s.container) f.position) (kept_stands h)

  pub dues : Dues file l f (due_of file l f)
  dues = go (same_length (length_of stand.container) f.length)
    where
      go : (length_of stand.container ≡ Some f.length) ⊎ (length_of stand.container ≡ Some f.length → ⊥) → Dues file l f (due_of file l f)
      go (inl e) = rw (due_entry e) (as_numbers (element_of stand.offset (entries_of file l f.object) f.position) (elements stand.offset (entries_of file l f.object) f.position))
      go (inr h) = rw (due_none h) tt
