-- What is due in a container that was looked up: a reference, which lies within the file, or its end.
use Rattle.std.specs.Prelude.{List, ◌⊎◌, ◌≡◌}
use Rattle.std.proofs.Common.{inl, inr, ◌∙◌, mul-le-mul_right, eq-or-lt_of_le, arith}
use Rattle.std.proofs.Math.Path.{refl}
use Prim.Native.Nat.{ℕ, zero, suc, ◌+◌, ◌*◌, ◌/◌, ◌%◌, ◌≤◌, ◌<◌}
use Rattle.std.proofs.Math.Nat.{suc-mul}
use borrow.Author.Tests.{lt-ltb, le-leb, eq-eqb, ne_eqb}
use Rattle.std.proofs.Math.ListN.{length}
use Rattle.number.specs.Be.{be}
use Rattle.number.specs.Width.{bytes_in}
use Rattle.number.specs.Part.{part}
use Rattle.object.specs.declared.content.Extent.{Extent}
use Rattle.layout.specs.FoundLaws.{made, refs_of}
use Rattle.layout.specs.LookLaws.{Standing}
use Rattle.layout.specs.Layout.{number_at, place_in, given, due_at, in_array, in_dictionary, due_in, kept_from, stands_in, due_of}
use Rattle.layout.specs.Looked.{Shape, array, dictionary}
use Rattle.layout.specs.declared.layout.Due.TheVariants.{Close, Member}
use Rattle.layout.specs.declared.layout.Layout.{Layout}
use Rattle.layout.specs.declared.frame.Frame.{Frame}

-- the place, among the references, of a position
unfoldable pub place_of : Shape → ℕ → ℕ → ℕ
place_of array n p = p
place_of dictionary n p = place_in n p

-- it is below their number
pub place_lt : (s : Shape) (n p : ℕ) → p < refs_of s n → place_of s n p < refs_of s n
unfolding place_of refs_of place_in
place_lt array n p h = h
place_lt dictionary n p h = go (p / 2) (p % 2) refl refl
  where
    go : (q r : ℕ) → p / 2 ≡ q → p % 2 ≡ r → p / 2 + p % 2 * n < 2 * n
    go q zero a b = rw (a, b) (omega arith)
    go q (suc zero) a b = rw (a, b) (omega arith)
    go q (suc (suc r)) a b = absurd (omega arith)

-- what is due in a container at an offset with so many references: its end, or a reference
pub data Pending (file : List ℕ) (l : Layout) (f : Frame) (references offset : ℕ) : Type 0 where
  end : due_of file l f ≡ Close offset → Pending file l f references offset
  reference : f.position < references → (n : ℕ) → due_of file l f ≡ Member n → Pending file l f references offset

module _ (file : List ℕ) (l : Layout) (f : Frame) (s : Shape) (st : Standing file l f.object s f.length f.offset) where
  due_made : (t : Shape) (e : Extent) → e.count ≡ f.length
      → due_in file l f f.offset (made t e) ≡ due_at file l.refs f.offset e.start (refs_of t f.length) (place_of t f.length f.position) f.position
  unfolding due_in made in_array in_dictionary refs_of place_of
  due_made array e h = rw (eq-eqb _ _ h)
  due_made dictionary e h = rw (eq-eqb _ _ h)

  due_is : due_of file l f ≡ due_at file l.refs f.offset st.lies.extent.start (refs_of s f.length) (place_of s f.length f.position) f.position
  unfolding due_of stands_in kept_from
  due_is = rw (lt-ltb _ _ st.numbered, st.entry, eq-eqb f.offset f.offset refl, st.lies.is) (due_made s st.lies.extent st.lies.counts)

  -- behind the last reference the end is due
  pub due_close : f.position ≡ refs_of s f.length → due_of file l f ≡ Close f.offset
  unfolding due_at
  due_close e = due_is ∙ rw (eq-eqb _ _ e)

  -- before it a reference, which can be read
  pub due_member : f.position < refs_of s f.length → (m : ℕ) × (due_of file l f ≡ Member m)
  unfolding due_at number_at given
  due_member h =
      let w = bytes_in l.refs in
      let k = refs_of s f.length in
      let p = place_of s f.length f.position in
      let start = st.lies.extent.start in
      let m : p * w + w ≤ k * w = rw suc-mul at (mul-le-mul_right {m = suc p} {n = k} w (place_lt s f.length f.position h)) in
      let i : start + k * w ≤ length file = st.lies.inside in
      (be (part file (start + p * w) w), due_is ∙ rw (ne_eqb f.position k (omega arith), lt-ltb f.position k h, le-leb (start + p * w + w) (length file) (omega arith)))

  -- so at a position that isn't past them one of the two is due
  pub pending : f.position ≤ refs_of s f.length → Pending file l f (refs_of s f.length) f.offset
  pending h = go (eq-or-lt_of_le h)
    where
      go : (f.position ≡ refs_of s f.length) ⊎ (f.position < refs_of s f.length) → Pending file l f (refs_of s f.length) f.offset
      go (inl e) = end (due_close e)
      go (inr k) = reference k (due_member k).0 (due_member k).1
