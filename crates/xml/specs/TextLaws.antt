-- How long escaped text is, and where nothing is escaped or barred.
use Rattle.std.specs.Prelude.{Bool, true, false, not, cond, ◌&&◌, List, [], ◌∷◌, ◌++◌, ◌≡◌, refl, ℕ, ◌+◌, ◌-◌, ◌*◌, ◌≤◌, ◌<◌, ltb, leb, eqb, length, get_or, drop}
use Rattle.std.proofs.lemmas.Bool.{false≢true}
use Rattle.std.proofs.Common.{ap, arith, length-append, drop_of_length-le}
use Rattle.std.proofs.Math.Nat.{add-zero}
use borrow.Author.Tests.{eqb-true, ne_eqb}
use Rattle.std.proofs.Math.ListN.{length-drop}
use Rattle.std.proofs.Math.Seq.{get_or-drop}
use Rattle.utf.specs.Left.{left_at}
use Rattle.utf.specs.Tests.{and_left, and_right}
use Rattle.xml.specs.Text.{is_clear, is_ordinary, all_clear, barred_first, barred_in, more_for, more_in}
use Rattle.xml.specs.Words.{word_amp, word_lt, word_gt}
use Rattle.xml.specs.Xml.{entity, escape_of, escape}

-- one byte
more_is : (b : ℕ) → (length (escape_of b) ≡ 1 + more_for b) × (more_for b ≤ 4)
unfolding escape_of entity more_for
more_is b = go (eqb b 38) (eqb b 60) (eqb b 62) refl refl refl
  where
    go : (p q r : Bool) → eqb b 38 ≡ p → eqb b 60 ≡ q → eqb b 62 ≡ r → (length (escape_of b) ≡ 1 + more_for b) × (more_for b ≤ 4)
    go true q r e f g = rw (eqb-true b 38 e) (refl, omega arith)
    go false true r e f g = rw (eqb-true b 60 f) (refl, omega arith)
    go false false true e f g = rw (eqb-true b 62 g) (refl, omega arith)
    go false false false e f g = rw (e, f, g) (refl, omega arith)

pub length_escape : (s : List ℕ) → length (escape s) ≡ length s + more_in s
unfolding escape more_in
length_escape [] = refl
length_escape (b ∷ s) = omega (arith, length-append (escape_of b) (escape s), length_escape s, (more_is b).0)

pub more_most : (s : List ℕ) → more_in s ≤ 4 * length s
unfolding more_in
more_most [] = omega arith
more_most (b ∷ s) = omega (arith, more_most s, (more_is b).1)

pub more_append : (s t : List ℕ) → more_in (s ++ t) ≡ more_in s + more_in t
unfolding more_in
more_append [] t = omega arith
more_append (b ∷ s) t = omega (arith, more_append s t)

-- where nothing is added the text stands as it is
none_escape : (b : ℕ) → more_for b ≡ 0 → escape_of b ≡ b ∷ []
unfolding escape_of more_for
none_escape b h = go (eqb b 38) (eqb b 60) (eqb b 62) refl refl refl
  where
    go : (p q r : Bool) → eqb b 38 ≡ p → eqb b 60 ≡ q → eqb b 62 ≡ r → escape_of b ≡ b ∷ []
    go true q r e f g = absurd (let z : more_for b ≡ 4 = rw (eqb-true b 38 e) in omega arith)
    go false true r e f g = absurd (let z : more_for b ≡ 3 = rw (eqb-true b 60 f) in omega arith)
    go false false true e f g = absurd (let z : more_for b ≡ 3 = rw (eqb-true b 62 g) in omega arith)
    go false false false e f g = rw (e, f, g)

pub more_none : (s : List ℕ) → more_in s ≡ 0 → escape s ≡ s
unfolding more_in escape
more_none [] h = refl
more_none (b ∷ s) h = rw (none_escape b (omega (arith, h))) (ap (λ (t : List ℕ). b ∷ t) (more_none s (omega (arith, h))))

pub ordinary_escape : (b : ℕ) → is_ordinary b ≡ true → escape_of b ≡ b ∷ []
unfolding is_ordinary escape_of
ordinary_escape b = go (eqb b 38) (eqb b 60) (eqb b 62) refl refl refl
  where
    go : (p q r : Bool) → eqb b 38 ≡ p → eqb b 60 ≡ q → eqb b 62 ≡ r → ((not p && not q) && not r) ≡ true → escape_of b ≡ b ∷ []
    go true q r e f g h = absurd (false≢true h)
    go false true r e f g h = absurd (false≢true h)
    go false false true e f g h = absurd (false≢true h)
    go false false false e f g h = rw (e, f, g)

-- no character of clear text is barred
pub clear_passes : (s : List ℕ) → all_clear s ≡ true → barred_in s ≡ false
unfolding all_clear barred_in barred_first
clear_passes [] h = refl
clear_passes (b ∷ s) h = rw (and_left (is_clear b) (all_clear s) h) (clear_passes s (and_right (is_clear b) (all_clear s) h))

-- ---- the walks, a byte at a time

module _ (s : List ℕ) (i : ℕ) where
  pub barred_here : i < length s → barred_first (drop i s) ≡ true → barred_in (drop i s) ≡ true
  unfolding barred_in
  barred_here h e = rw (left_at s i h) (rw (rw (left_at s i h) at e))

  pub barred_next : i < length s → barred_first (drop i s) ≡ false → barred_in (drop i s) ≡ barred_in (drop (i + 1) s)
  unfolding barred_in
  barred_next h e = rw (left_at s i h) (rw (rw (left_at s i h) at e))

  pub barred_end : length s ≤ i → barred_in (drop i s) ≡ false
  unfolding barred_in
  barred_end h = rw (drop_of_length-le s {i = i} h)

  pub barred_is : barred_first (drop i s) ≡ cond (is_clear (get_or s i 0)) false (cond (not (eqb (get_or s i 0) 0xEF)) true (cond (ltb (length s - i) 3) false (cond (not (eqb (get_or s (i + 1) 0) 0xBF)) false (leb 0xBE (get_or s (i + 2) 0)))))
  unfolding barred_first
  barred_is = rw (get_or-drop i s 0 0, get_or-drop i s 1 0, get_or-drop i s 2 0, length-drop i s, add-zero i)

  pub escape_at : i < length s → escape (drop i s) ≡ escape_of (get_or s i 0) ++ escape (drop (i + 1) s)
  unfolding escape
  escape_at h = rw (left_at s i h)

  pub escape_end : length s ≤ i → escape (drop i s) ≡ []
  unfolding escape
  escape_end h = rw (drop_of_length-le s {i = i} h)

module _ (b : ℕ) where
  pub escape_amp : b ≡ 38 → escape_of b ≡ entity word_amp
  unfolding escape_of
  escape_amp e = rw e

  pub escape_lt : b ≡ 60 → escape_of b ≡ entity word_lt
  unfolding escape_of
  escape_lt e = rw e

  pub escape_gt : b ≡ 62 → escape_of b ≡ entity word_gt
  unfolding escape_of
  escape_gt e = rw e

  pub escape_other : (b ≡ 38 → ⊥) → (b ≡ 60 → ⊥) → (b ≡ 62 → ⊥) → escape_of b ≡ b ∷ []
  unfolding escape_of
  escape_other e f g = rw (ne_eqb b 38 e, ne_eqb b 60 f, ne_eqb b 62 g)
