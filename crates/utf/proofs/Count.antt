-- The walk that counts: what is left of the bytes decides.
use Rattle.std.specs.Prelude.{None, Option, Some}
use mathlib.Core.Path.{◌≡◌, refl, sym, ap, ◌∙◌}
use mathlib.Core.Logic.{◌⊎◌, inl, inr, ⊎_elim}
use mathlib.Core.Bool.{Bool, true, false, cond, ◌&&◌}
use mathlib.Core.List.{List, [], ◌∷◌}
use Prim.Native.Nat.{ℕ, ◌+◌, ◌-◌, ◌≤◌, ◌<◌}
use native.Mathlib.Nat.{add_assoc, add-zero, zero-add}
use native.Mathlib.Omega.{arith}
use lib.ListN.{length, drop, length-drop, drop_of_length-le}
use Rattle.utf.specs.Unicode.{utf8_of, utf8, paired, scalars16, units_of, is_even, is_utf16, to_utf8}
use Rattle.utf.specs.Utf16.{utf8_length_of}
use Rattle.utf.specs.Utf16At.{UnitAt}
use Rattle.utf.specs.Utf16Laws.{pair_of, is_high_law, is_low_law, no_high, no_low, paired_plain, paired_low, paired_high, paired_next, scalars_plain, scalars_pair}
use Rattle.utf.specs.ScalarLaws.{length_utf8, utf8_four}
use Rattle.utf.proofs.Units.{short_units, odd_one}

-- the answer where n bytes are counted and s is what is left
unfoldable pub length_from : ℕ → List ℕ → Option ℕ
length_from n s = cond (is_utf16 s) (Some (n + length (to_utf8 s))) None

-- at the start nothing is counted
pub length_start : (s : List ℕ) → utf8_length_of s ≡ length_from 0 s
unfolding utf8_length_of length_from
length_start s = rw zero-add

-- what is left decides, by its units
on_units : ℕ → Bool → List ℕ → Option ℕ
on_units n e us = cond (e && paired us) (Some (n + length (utf8 (scalars16 us)))) None

by_units : (n : ℕ) (s : List ℕ) → length_from n s ≡ on_units n (is_even s) (units_of s)
unfolding length_from on_units is_utf16 to_utf8
by_units n s = refl

-- nothing is measured where surrogates stand alone
none : (n : ℕ) (e : Bool) (us : List ℕ) → paired us ≡ false → on_units n e us ≡ None
unfolding on_units
none n true us p = rw p
none n false us p = refl

-- one scalar value v in front, and the units us after it
more : (n v : ℕ) (e : Bool) (us ws : List ℕ) → paired ws ≡ paired us → scalars16 ws ≡ v ∷ scalars16 us → on_units n e ws ≡ on_units (n + length (utf8_of v)) e us
unfolding on_units
more n v e us ws p q = rw (p, q, length_utf8, add_assoc)

module _ (s : List ℕ) (i n : ℕ) where
  -- nothing is left
  pub count_end : length s ≡ i → length_from n (drop i s) ≡ Some n
  unfolding length_from is_utf16 is_even paired units_of to_utf8 utf8 scalars16
  count_end h = rw (drop_of_length-le s {i = i} (omega arith)) (ap Some (add-zero n))

  -- a byte alone is left
  pub count_odd : (length s ≡ i → ⊥) → length s - i < 2 → i ≤ length s → length_from n (drop i s) ≡ None
  unfolding on_units
  count_odd h k le = by_units n (drop i s) ∙ rw (odd_one (drop i s) (rw length-drop (omega arith)))

  module _ (u : ℕ) (a : UnitAt s i u) where
    -- the unit in front, and what is left after it
    units : length_from n (drop i s) ≡ on_units n (is_even (drop (i + 2) s)) (u ∷ units_of (drop (i + 2) s))
    units = by_units n (drop i s) ∙ rw (a.units, a.even)

    -- no surrogate
    pub count_plain : (u < 0xD800) ⊎ (0xE000 ≤ u) → length_from n (drop i s) ≡ length_from (n + length (utf8_of u)) (drop (i + 2) s)
    count_plain h =
        let high = no_high u (⊎_elim (λ a. inl a) (λ a. inr (omega arith)) h) in
        let low = no_low u (⊎_elim (λ a. inl (omega arith)) (λ a. inr (omega arith)) h) in
        units
        ∙ more n u (is_even (drop (i + 2) s)) (units_of (drop (i + 2) s)) (u ∷ units_of (drop (i + 2) s)) (paired_plain u high low _) (scalars_plain u high _)
        ∙ sym (by_units (n + length (utf8_of u)) (drop (i + 2) s))

    -- a low surrogate first
    pub count_low : 0xDC00 ≤ u → u < 0xE000 → length_from n (drop i s) ≡ None
    count_low h k = units ∙ none n (is_even (drop (i + 2) s)) _ (paired_low u (no_high u (inr (omega arith))) (is_low_law u h (omega arith)) (units_of (drop (i + 2) s)))

    module _ (h : 0xD800 ≤ u) (k : u < 0xDC00) where
      -- a high surrogate last
      pub count_high : length s - (i + 2) < 2 → length_from n (drop i s) ≡ None
      count_high l =
          let e : units_of (drop (i + 2) s) ≡ [] = short_units (drop (i + 2) s) (rw length-drop l) in
          units ∙ rw e (none n (is_even (drop (i + 2) s)) (u ∷ []) (paired_high u (is_high_law u h (omega arith))))

      module _ (v : ℕ) (b : UnitAt s (i + 2) v) where
        -- a high surrogate that no low one follows
        pub count_alone : (v < 0xDC00) ⊎ (0xE000 ≤ v) → length_from n (drop i s) ≡ None
        count_alone l =
            units
            ∙ rw b.units
            (none n (is_even (drop (i + 2) s)) (u ∷ v ∷ units_of (drop (i + 2 + 2) s))
            (paired_next u (is_high_law u h (omega arith)) v _ ∙ rw (no_low v (⊎_elim (λ a. inl a) (λ a. inr (omega arith)) l))))

        -- a pair
        pub count_pair : 0xDC00 ≤ v → v < 0xE000 → length_from n (drop i s) ≡ length_from (n + 4) (drop (i + 2 + 2) s)
        count_pair l m =
            let high = is_high_law u h (omega arith) in
            let low = is_low_law v l (omega arith) in
            let us = units_of (drop (i + 2 + 2) s) in
            units
            ∙ rw (b.units, b.even)
            (more n (pair_of u v) (is_even (drop (i + 2 + 2) s)) us (u ∷ v ∷ us) (paired_next u high v us ∙ rw low) (scalars_pair u high v us)
            ∙ rw (ap length (utf8_four (pair_of u v) (omega arith))) (sym (by_units (n + 4) (drop (i + 2 + 2) s))))
