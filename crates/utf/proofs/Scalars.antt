-- The scalar value at a place of well-formed UTF-16.
use mathlib.Core.Path.{◌≡◌, refl, sym, ◌∙◌}
use mathlib.Core.Logic.{◌⊎◌}
use mathlib.Core.Bool.{Bool, true, false, false≢true, true≢false}
use mathlib.Core.List.{List, [], ◌∷◌}
use Prim.Native.Nat.{ℕ, ◌+◌, ◌-◌, ◌≤◌, ◌<◌}
use native.Mathlib.Omega.{arith}
use lib.Dec.{ltb, eqb}
use lib.ListN.{length, take, drop, length-drop}
use borrow.Author.Tests.{ltb-true, ltb-false}
use Rattle.utf.specs.Unicode.{is_scalar, utf8, is_high, is_low, paired, scalars16, units_of, is_even, is_utf16, to_utf8}
use Rattle.utf.specs.Utf16At.{UnitAt, Front, ScalarAt, NextScalar}
use Rattle.utf.specs.Tests.{and_left, and_right}
use Rattle.utf.specs.Utf16Laws.{pair_of, is_high_law, good_even, good_paired, low_is, no_high, pair_scalar, plain_scalar, paired_plain, paired_low, paired_high, paired_next, scalars_plain, scalars_pair}
use Rattle.utf.proofs.Runs.{slice_from}
use Rattle.utf.proofs.Units.{short_units}

-- an even number of bytes that is not 0 is at least 2
even_two : (t : List ℕ) → is_even t ≡ true → 0 < length t → 2 ≤ length t
unfolding is_even
even_two [] e h = absurd (omega arith)
even_two (a ∷ []) e h = absurd (false≢true e)
even_two (a ∷ b ∷ t) e h = omega arith

-- a scalar value v in front of the text from j on
front : (s : List ℕ) (i v j : ℕ) → j ≤ length s → is_even (drop j s) ≡ true → paired (units_of (drop j s)) ≡ true → scalars16 (units_of (drop i s)) ≡ v ∷ scalars16 (units_of (drop j s)) → Front s i v j
unfolding is_utf16 to_utf8 utf8
front s i v j h e p q = record { inside = h; good = rw (e, p); bytes = rw q }

-- bytes that are not none
pub some_bytes : (s : List ℕ) → eqb (length s) 0 ≡ false → 0 < length s
some_bytes [] e = absurd (true≢false e)
some_bytes (b ∷ s) e = omega arith

module _ (s : List ℕ) (i : ℕ) (g : is_utf16 (drop i s) ≡ true) (more : i < length s) where
  -- there is a unit
  pub unit_room : i + 2 ≤ length s
  unit_room =
      let k : length (drop i s) ≡ length s - i = length-drop i s in
      omega (arith, even_two (drop i s) (good_even (drop i s) g) (omega arith))

  module _ (u : ℕ) (a : UnitAt s i u) where
    -- the units from here on are paired, and the bytes after this one are even
    all : paired (u ∷ units_of (drop (i + 2) s)) ≡ true
    all = rw a.units at (good_paired (drop i s) g)

    even : is_even (drop (i + 2) s) ≡ true
    even = sym a.even ∙ good_even (drop i s) g

    -- a unit that is no high surrogate is the scalar value
    pub one_unit : (u < 0xD800) ⊎ (0xDBFF < u) → ScalarAt s i u
    one_unit o = go (is_low u) refl
      where
        high : is_high u ≡ false
        high = no_high u o

        go : (b : Bool) → is_low u ≡ b → ScalarAt s i u
        go true l = absurd (true≢false (sym all ∙ paired_low u high l (units_of (drop (i + 2) s))))
        go false l = record {
          scalar = plain_scalar u a.small high l;
          one = λ h. front s i u (i + 2) unit_room even (sym (paired_plain u high l (units_of (drop (i + 2) s))) ∙ all) (rw a.units (scalars_plain u high (units_of (drop (i + 2) s))));
          two = λ h. absurd (omega (arith, a.small));
        }

    module _ (h : 0xD800 ≤ u) (k : u ≤ 0xDBFF) where
      -- after a high surrogate there is one more unit
      pub next_room : i + 2 + 2 ≤ length s
      next_room = go (ltb (length (drop (i + 2) s)) 2) refl
        where
          go : (b : Bool) → ltb (length (drop (i + 2) s)) 2 ≡ b → i + 2 + 2 ≤ length s
          go true e =
              let none : units_of (drop (i + 2) s) ≡ [] = short_units (drop (i + 2) s) (ltb-true _ 2 e) in
              absurd (true≢false (sym (rw none at all) ∙ paired_high u (is_high_law u h k)))
          go false e = omega (arith, ltb-false (length (drop (i + 2) s)) 2 e, length-drop (i + 2) s)

      module _ (v : ℕ) (b : UnitAt s (i + 2) v) where
        -- what is well formed has a low surrogate next
        low : is_low v ≡ true
        low = and_left (is_low v) (paired (units_of (drop (i + 2 + 2) s))) (sym (paired_next u (is_high_law u h k) v (units_of (drop (i + 2 + 2) s))) ∙ rw b.units at all)

        -- with its bounds
        pub next_low : (0xDC00 ≤ v) × (v ≤ 0xDFFF)
        next_low = low_is v low

        -- and the two are the scalar value
        pub two_units : ScalarAt s i (pair_of u v)
        two_units =
            let high = is_high_law u h k in
            let us = units_of (drop (i + 2 + 2) s) in
            let e : i + 2 + 2 ≡ i + 4 = omega arith in
            let p : paired us ≡ true = and_right (is_low v) (paired us) (sym (paired_next u high v us) ∙ rw b.units at all) in
            let q : scalars16 (units_of (drop i s)) ≡ pair_of u v ∷ scalars16 us = rw (a.units, b.units) (scalars_pair u high v us) in
            record {
              scalar = pair_scalar u v high low;
              one = λ l. absurd (omega arith);
              two = λ l. rw (← e) (front s i (pair_of u v) (i + 2 + 2) next_room (sym b.even ∙ even) p q);
            }

-- the scalar value in front, and what is left behind the j bytes that it has
pub front_next : (s : List ℕ) (v j : ℕ) → is_scalar v ≡ true → 0 < j → Front s 0 v j → NextScalar s v (take (length s - j) (drop j s))
front_next s v j e h f =
    rw slice_from
    (record { scalar = e; shorter = omega (arith, f.inside, length-drop j s); good = f.good; bytes = f.bytes })
