-- The text of a 6x: what changing it and measuring it tell.
use Rattle.std.specs.Prelude.{None, Option, Some}
use Prim.Native.Nat.{ℕ, ◌+◌, ◌-◌, ◌≤◌, ◌<◌}
use mathlib.Core.Bool.{Bool, true, false}
use mathlib.Core.List.{List, []}
use mathlib.Core.Path.{◌≡◌, refl, sym, ap, ◌∙◌}
use native.Mathlib.Omega.{arith}
use borrow.Author.Tests.{le-leb, lt-leb, ltb-true, ltb-false}
use lib.Dec.{ltb}
use lib.ListN.{length, take, drop}
use Rattle.utf.specs.Changed.{changed_of, changed_to}
use Rattle.utf.specs.Unicode.{is_utf16, to_utf8}
use Rattle.utf.specs.Utf16.{utf8_length_of}
use Rattle.utf.specs.declared.changed.Changed.{Changed}
use Rattle.utf.specs.declared.changed.Changed.TheVariants.{Written, NotText, NoRoom}
use Rattle.number.specs.Part.{part}
use Rattle.layout.specs.Bytes.{in_utf16}
use Rattle.reader.specs.Request.{long, refusing, length_said, scratch_after, part_said}

module _ (f scratch : List ℕ) (s n : ℕ) where
  -- the part that is lent
  lent : take (s + n - s) (drop s f) ≡ part f s n
  lent = rw (let e : s + n - s ≡ n = omega arith in e)

  module _ (ok : is_utf16 (part f s n) ≡ true) where
    module _ (o : ℕ) (x : Changed) (changed : x ≡ changed_of (is_utf16 (take (s + n - s) (drop s f))) (to_utf8 (take (s + n - s) (drop s f))) scratch) where
      answer : x ≡ changed_of true (to_utf8 (part f s n)) scratch
      answer = changed ∙ rw (lent, ok)

      pub is_written : (k : ℕ) → x ≡ Written k → length_said f scratch o (in_utf16 s n) ≡ long k
      unfolding length_said changed_of
      is_written k e = go (ltb (length scratch) (length (to_utf8 (part f s n)))) refl
        where
          go : (b : Bool) → ltb (length scratch) (length (to_utf8 (part f s n))) ≡ b → length_said f scratch o (in_utf16 s n) ≡ long k
          go true t =
              let z : Written k ≡ NoRoom = sym e ∙ answer ∙ rw t in
              let q : ◌≡◌ {A = ℕ} 0 1 = cc in
              absurd (omega arith)
          go false t =
              let z : Written k ≡ Written (length (to_utf8 (part f s n))) = sym e ∙ answer ∙ rw t in
              let q : length (to_utf8 (part f s n)) ≡ k = cc in
              rw (le-leb _ _ (ltb-false _ _ t)) (ap long q)

      pub no_room : x ≡ NoRoom → length_said f scratch o (in_utf16 s n) ≡ refusing 16 [] o
      unfolding length_said changed_of
      no_room e = go (ltb (length scratch) (length (to_utf8 (part f s n)))) refl
        where
          go : (b : Bool) → ltb (length scratch) (length (to_utf8 (part f s n))) ≡ b → length_said f scratch o (in_utf16 s n) ≡ refusing 16 [] o
          go true t = rw (lt-leb _ _ (ltb-true _ _ t))
          go false t =
              let z : NoRoom ≡ Written (length (to_utf8 (part f s n))) = sym e ∙ answer ∙ rw t in
              let q : ◌≡◌ {A = ℕ} 0 1 = cc in
              absurd (omega arith)

      -- what was read as UTF-16 is text
      pub is_text_law : x ≡ NotText → ⊥
      unfolding changed_of
      is_text_law e = go (ltb (length scratch) (length (to_utf8 (part f s n)))) refl
        where
          go : (b : Bool) → ltb (length scratch) (length (to_utf8 (part f s n))) ≡ b → ⊥
          go true t = let z : NotText ≡ NoRoom = sym e ∙ answer ∙ rw t in let q : ◌≡◌ {A = ℕ} 0 1 = cc in omega arith
          go false t = let z : NotText ≡ Written (length (to_utf8 (part f s n))) = sym e ∙ answer ∙ rw t in let q : ◌≡◌ {A = ℕ} 0 1 = cc in omega arith

    -- the scratch afterwards
    pub filled : changed_to (is_utf16 (take (s + n - s) (drop s f))) (to_utf8 (take (s + n - s) (drop s f))) scratch ≡ scratch_after f scratch (in_utf16 s n)
    unfolding changed_to scratch_after
    filled = rw (lent, ok) (go (ltb (length scratch) (length (to_utf8 (part f s n)))) refl)
      where
        go : (b : Bool) → ltb (length scratch) (length (to_utf8 (part f s n))) ≡ b → changed_to true (to_utf8 (part f s n)) scratch ≡ scratch_after f scratch (in_utf16 s n)
        go true t = rw (t, lt-leb _ _ (ltb-true _ _ t))
        go false t = rw (t, le-leb _ _ (ltb-false _ _ t))

    module _ (x : Option ℕ) (measured : x ≡ utf8_length_of (take (s + n - s) (drop s f))) where
      length_is : x ≡ Some (length (to_utf8 (part f s n)))
      unfolding utf8_length_of
      length_is = measured ∙ rw (lent, ok)

      pub is_measured : x ≡ None → ⊥
      is_measured e = let z : None ≡ Some (length (to_utf8 (part f s n))) = sym e ∙ length_is in let q : ◌≡◌ {A = ℕ} 0 1 = cc in omega arith

      pub part_none : (k : ℕ) → x ≡ Some k → length scratch < k → part_said f scratch (in_utf16 s n) ≡ []
      unfolding part_said
      part_none k e h =
          let z : Some k ≡ Some (length (to_utf8 (part f s n))) = sym e ∙ length_is in
          let q : length (to_utf8 (part f s n)) ≡ k = cc in
          rw (lt-leb _ _ (let g : length scratch < length (to_utf8 (part f s n)) = omega arith in g))

      pub part_some : (k : ℕ) → x ≡ Some k → k ≤ length scratch → part_said f scratch (in_utf16 s n) ≡ take k scratch
      unfolding part_said
      part_some k e h =
          let z : Some k ≡ Some (length (to_utf8 (part f s n))) = sym e ∙ length_is in
          let q : length (to_utf8 (part f s n)) ≡ k = cc in
          rw (le-leb _ _ (let g : length (to_utf8 (part f s n)) ≤ length scratch = omega arith in g)) (ap (λ (i : ℕ). take i scratch) q)
