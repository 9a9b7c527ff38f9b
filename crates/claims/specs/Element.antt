-- What is due in an open container: the element of its references at its position, or its end at their number.
use Rattle.std.proofs.Math.Option.{Option, none, some}
use Rattle.std.specs.Prelude.{List, [], ◌∷◌, ◌⊎◌, refl, ℕ, zero, suc, ◌≤◌, ◌<◌, length, None, Some}
use Rattle.std.proofs.Common.{inl, inr, ◌∙◌}
use Rattle.std.proofs.Math.Path.{◌≡◌, sym}
use native.Mathlib.Omega.{arith}
use Rattle.std.proofs.Math.ListN.{get_elem?, length-map}
use Rattle.layout.specs.FoundLaws.{refs_of}
use Rattle.layout.specs.Frame.{at_position}
use Rattle.layout.specs.Layout.{given, due_of, stands_in}
use Rattle.layout.specs.References.{length_of, number_in, entries_of, references_of}
use Rattle.layout.specs.ReferencesLaws.{element_at, same_length, Dues, due_none, due_entry, dues}
use Rattle.layout.specs.declared.frame.Frame.{Frame}
use Rattle.layout.specs.declared.layout.Due.{Due}
use Rattle.layout.specs.declared.layout.Due.TheVariants.{Wrong, Close, Member}
use Rattle.layout.specs.declared.layout.Layout.{Layout}
use Rattle.claims.specs.Due.{Pending, end, reference, due_close, due_member}
use Rattle.claims.specs.Open.{Opened, opened_pending}

past : (ns : List ℕ) (p : ℕ) → p ≡ length ns → get_elem? ns p ≡ none
past [] p e = refl
past (n ∷ ns) zero e = absurd (omega arith)
past (n ∷ ns) (suc p) e = past ns p (omega arith)

below : {A : Type 0} (ns : List A) (p : ℕ) (n : A) → get_elem? ns p ≡ some n → p < length ns
below [] p n e = let z : ◌≡◌ {A = ℕ} 0 1 = cc in absurd (omega arith)
below (m ∷ ns) zero n e = omega arith
below (m ∷ ns) (suc p) n e = omega (arith, below ns p n e)

-- a reference that lies outside the file isn't due
due_outside : (file : List ℕ) (l : Layout) (f : Frame) → get_elem? (entries_of file l f.object) f.position ≡ some None → due_of file l f ≡ Wrong
unfolding given
due_outside file l f e = go (same_length (length_of (stands_in file l f).container) f.length)
  where
    go : (length_of (stands_in file l f).container ≡ Some f.length) ⊎ (length_of (stands_in file l f).container ≡ Some f.length → ⊥) → due_of file l f ≡ Wrong
    go (inl h) = due_entry file l f h ∙ element_at _ (entries_of file l f.object) f.position None e
    go (inr h) = due_none file l f h

-- the reference that is due, or, behind the last, the end of the container at an offset
unfoldable pub element_due : ℕ → Option ℕ → Due
element_due offset none = Close offset
element_due offset (some n) = Member n

module _ (file : List ℕ) (l : Layout) (f : Frame) where
  -- a reference that is due is the element at the position, whatever the frame says
  pub due_names : (n : ℕ) → due_of file l f ≡ Member n → get_elem? (references_of file l f.object) f.position ≡ some n
  due_names n e = rw e at (dues file l f)

  module _ (t : Opened file l f) where
    pub due_element : due_of file l f ≡ element_due f.offset (get_elem? (references_of file l f.object) f.position)
    unfolding element_due
    due_element = go (opened_pending t)
      where
        go : Pending file l f (refs_of t.shape f.length) f.offset → due_of file l f ≡ element_due f.offset (get_elem? (references_of file l f.object) f.position)
        go (end e) =
            let d : Dues file l f (Close f.offset) = rw e at (dues file l f) in
            rw (e, past (references_of file l f.object) f.position d.1)
        go (reference k n e) = rw (e, due_names n e)

    -- they are as many as its length says
    pub references_many : length (references_of file l f.object) ≡ refs_of t.shape f.length
    references_many =
        let g : Frame = at_position f (refs_of t.shape f.length) in
        let d : Dues file l g (Close f.offset) = rw (due_close file l g t.shape t.standing refl) at (dues file l g) in
        sym d.1

    -- its position is not above their number
    pub position_within : f.position ≤ length (references_of file l f.object)
    position_within = rw references_many t.within

    -- and each lies within the file
    pub none_outside : (p : ℕ) → get_elem? (entries_of file l f.object) p ≡ some None → ⊥
    unfolding references_of
    none_outside p e =
        let g : Frame = at_position f p in
        let m = length-map (entries_of file l f.object) number_in in
        let h : p < refs_of t.shape f.length = omega (arith, below (entries_of file l f.object) p None e, m, references_many) in
        let d = due_member file l g t.shape t.standing h in
        let q : Wrong ≡ Member d.0 = sym (due_outside file l g e) ∙ d.1 in
        let z : ◌≡◌ {A = ℕ} 0 1 = cc in
        omega arith
