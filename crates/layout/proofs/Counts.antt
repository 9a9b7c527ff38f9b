-- What is due, and what is looked up, stay within 32 bits.
use Prim.Native.Nat.{ℕ, zero, suc, ◌+◌, ◌*◌, ◌/◌, ◌%◌, ◌^◌, ◌≤◌, ◌<◌}
use mathlib.Core.Bool.{Bool, true, false}
use mathlib.Core.List.{List}
use mathlib.Core.Path.{◌≡◌, refl}
use native.Mathlib.Nat.{le-mul_of_pos_right}
use native.Mathlib.Omega.{arith}
use borrow.Author.Tests.{ltb-true, leb-true}
use lib.Dec.{ltb, leb, eqb}
use lib.ListN.{length}
use Rattle.number.specs.Width.{bytes_in}
use Rattle.number.specs.WidthLaws.{bytes_in_pos}
use Rattle.number.specs.declared.width.Width.{Width}
use Rattle.object.specs.declared.container.Container.{Container}
use Rattle.object.specs.declared.container.Container.TheVariants.{Array, Dictionary, NoContainer}
use Rattle.object.specs.Container.{container_at}
use Rattle.object.specs.Content.{trailer_at}
use Rattle.object.specs.declared.content.Extent.{Extent}
use Rattle.layout.specs.FoundLaws.{made}
use Rattle.layout.specs.LookLaws.{standing}
use Rattle.layout.specs.TestLaws.{first, second}
use Rattle.layout.specs.Layout.{number_at, given, due_at, place_in, in_array, in_dictionary, due_in, stands_in, due_of, look_of}
use Rattle.layout.specs.Looked.{container, Shape, array, dictionary}
use Rattle.event.specs.Format.{max_length}
use Rattle.layout.specs.declared.layout.Due.TheVariants.{Wrong, Close, Member}
use Rattle.layout.specs.declared.layout.Layout.{Layout}
use Rattle.layout.specs.declared.frame.Frame.{Frame}

wrong_no : (n : ℕ) → Wrong ≡ Member n → ⊥
wrong_no n e = let z : ◌≡◌ {A = ℕ} 0 1 = cc in omega arith

close_no : (o n : ℕ) → Close o ≡ Member n → ⊥
close_no o n e = let z : ◌≡◌ {A = ℕ} 0 1 = cc in omega arith

-- a number that is read lies within the file
inside : (file : List ℕ) (w : Width) (at n : ℕ) → given (number_at file w at) ≡ Member n → at + bytes_in w ≤ length file
unfolding number_at given
inside file w at n e = go (leb (at + bytes_in w) (length file)) refl
  where
    go : (b : Bool) → leb (at + bytes_in w) (length file) ≡ b → at + bytes_in w ≤ length file
    go true f = leb-true _ _ f
    go false f = absurd (wrong_no n (rw f at e))

module _ (file : List ℕ) (short : length file ≤ max_length) (n : ℕ) where
  -- a reference that is due has a place below the file's length, and a position below the number of references
  due_within : (refs : Width) (offset start references place position : ℕ) → due_at file refs offset start references place position ≡ Member n → (position < references) × (place < max_length)
  unfolding due_at
  due_within refs offset start references place position e =
      let s = second (eqb position references) (Close offset) _ (Member n) e (close_no offset n) in
      let t = first (ltb position references) (given (number_at file refs (start + place * bytes_in refs))) Wrong (Member n) s.1 (wrong_no n) in
      let w : 0 < bytes_in refs = bytes_in_pos refs in
      (ltb-true position references t.0, omega (arith, inside file refs (start + place * bytes_in refs) n t.1, le-mul_of_pos_right place w))

  counts_in_container : (l : Layout) (f : Frame) (offset : ℕ) (x : Container) → due_in file l f offset x ≡ Member n → f.position + 1 < 2 ^ 32
  unfolding due_in in_array in_dictionary place_in
  counts_in_container l f offset NoContainer e = absurd (wrong_no n e)
  counts_in_container l f offset (Array x) e =
      let s = first (eqb x.count f.length) _ Wrong (Member n) e (wrong_no n) in
      let d = due_within l.refs offset x.start f.length f.position f.position s.1 in
      omega arith
  counts_in_container l f offset (Dictionary x) e =
      let s = first (eqb x.count f.length) _ Wrong (Member n) e (wrong_no n) in
      let d = due_within l.refs offset x.start (2 * f.length) (f.position / 2 + f.position % 2 * f.length) f.position s.1 in
      pairs (f.position / 2) (f.position % 2) f.length f.position refl refl d.0 d.1
    where
      pairs : (q r k p : ℕ) → p / 2 ≡ q → p % 2 ≡ r → p < 2 * k → q + r * k < max_length → p + 1 < 2 ^ 32
      pairs q zero k p a b h g = omega arith
      pairs q (suc zero) k p a b h g = omega arith
      pairs q (suc (suc r)) k p a b h g = absurd (omega arith)

  -- so its position can be counted on
  pub counted : (l : Layout) (f : Frame) → due_of file l f ≡ Member n → f.position + 1 < 2 ^ 32
  unfolding due_of
  counted l f e = counts_in_container l f _ (stands_in file l f).container e

-- a container that is looked up has a number below the count, and at most as many elements or pairs as there are bytes before the trailer
pub numbered : (file : List ℕ) (l : Layout) (n : ℕ) (s : Shape) (k o : ℕ) → look_of file l n ≡ container s k o → n < l.count
numbered file l n s k o e = (standing file l n s k o e).numbered

pub measured : (file : List ℕ) (l : Layout) (n : ℕ) (s : Shape) (k o : ℕ) → look_of file l n ≡ container s k o → k ≤ trailer_at file
measured file l n s k o e = (standing file l n s k o e).lies.few

-- a container stands before the trailer
no_made : (s : Shape) (x : Extent) → NoContainer ≡ made s x → ⊥
unfolding made
no_made array x e = let z : ◌≡◌ {A = ℕ} 0 1 = cc in omega arith
no_made dictionary x e = let z : ◌≡◌ {A = ℕ} 0 1 = cc in omega arith

pub stands_before : (file : List ℕ) (l : Layout) (n : ℕ) (s : Shape) (k o : ℕ) → look_of file l n ≡ container s k o → o < trailer_at file
unfolding container_at
stands_before file l n s k o h = go (ltb o (trailer_at file)) refl
  where
    go : (b : Bool) → ltb o (trailer_at file) ≡ b → o < trailer_at file
    go true q = ltb-true _ _ q
    go false q = absurd (no_made s (standing file l n s k o h).lies.extent (rw q at (standing file l n s k o h).lies.is))
