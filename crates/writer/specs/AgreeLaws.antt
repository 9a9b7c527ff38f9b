-- Bytes that are compared together, the one at a place and those behind it: where the test holds, they are the same.
use Rattle.std.specs.Prelude.{◌≡◌, ℕ, zero, suc, ◌+◌, ◌-◌, ◌<◌, ◌≤◌, Bool, true, false, ◌&&◌, List, length, ◌==◌, nat_lt, slice_index, refl}
use Rattle.std.proofs.lemmas.Bool.{false≢true}
use Rattle.std.proofs.Common.{sym, ◌∙◌, arith, ltb-true, ltb-false, eqb-true, eq-eqb, ext_get_or}
use Rattle.written.specs.Graph.{same_bytes}
use Rattle.written.proofs.NameLaws.{bytes_refl}
use Rattle.writer.specs.AlikeLaws.{bytes_other}

-- the byte at i and the k behind it
abbrev pub agree_upto : List ℕ → List ℕ → ℕ → ℕ → Bool
agree_upto a b i zero = slice_index a i == slice_index b i
agree_upto a b i (suc k) = agree_upto a b i k && slice_index a (i + suc k) == slice_index b (i + suc k)

-- lists that agree from i on; from one place less on, if they do there
abbrev pub Agree : List ℕ → List ℕ → ℕ → ℕ → Type 0
Agree a b i n = (j : ℕ) → i ≤ j → j < n → slice_index a j ≡ slice_index b j

pub agree_more : (a b : List ℕ) (i n : ℕ) → 0 < i → slice_index a (i - 1) ≡ slice_index b (i - 1) → Agree a b i n → Agree a b (i - 1) n
agree_more a b i n some e h j f g = go (nat_lt j i) refl
  where
    go : (x : Bool) → nat_lt j i ≡ x → slice_index a j ≡ slice_index b j
    go true q =
        let l : j < i = ltb-true j i q in
        let z : j ≡ i - 1 = omega arith in
        rw z e
    go false q = h j (ltb-false j i q) g

-- the same up to i
abbrev pub Agreed : List ℕ → List ℕ → ℕ → Type 0
Agreed a b i = (j : ℕ) → j < i → slice_index a j ≡ slice_index b j

both : (x y : Bool) → x && y ≡ true → (x ≡ true) × (y ≡ true)
both true true e = (refl, refl)
both true false e = absurd (false≢true e)
both false y e = absurd (false≢true e)

-- bytes that are compared together
pub agree_upto_law : (a b : List ℕ) (i k : ℕ) → agree_upto a b i k ≡ true → (j : ℕ) → i ≤ j → j ≤ i + k → slice_index a j ≡ slice_index b j
agree_upto_law a b i zero e j f g =
    let z : j ≡ i = omega arith in
    rw z (eqb-true (slice_index a i) (slice_index b i) e)
agree_upto_law a b i (suc k) e j f g = go (nat_lt j (i + suc k)) refl (agree_upto_law a b i k)
  where
    halves : (agree_upto a b i k ≡ true) × ((slice_index a (i + suc k) == slice_index b (i + suc k)) ≡ true)
    halves = both (agree_upto a b i k) (slice_index a (i + suc k) == slice_index b (i + suc k)) e

    go : (x : Bool) → nat_lt j (i + suc k) ≡ x → (agree_upto a b i k ≡ true → (j : ℕ) → i ≤ j → j ≤ i + k → slice_index a j ≡ slice_index b j) → slice_index a j ≡ slice_index b j
    go true q ih = ih halves.0 j f (omega (arith, ltb-true j (i + suc k) q))
    go false q ih =
        let z : j ≡ i + suc k = omega (arith, ltb-false j (i + suc k) q) in
        rw z (eqb-true (slice_index a (i + suc k)) (slice_index b (i + suc k)) halves.1)

agree_self : (a : List ℕ) (i k : ℕ) → agree_upto a a i k ≡ true
agree_self a i zero = eq-eqb (slice_index a i) (slice_index a i) refl
agree_self a i (suc k) = rw (agree_self a i k) (eq-eqb (slice_index a (i + suc k)) (slice_index a (i + suc k)) refl)

module _ (a b : List ℕ) (i k : ℕ) (c : Bool) (told : c ≡ agree_upto a b i k) where
  -- some differ
  pub eight_other : c ≡ false → false ≡ same_bytes a b
  eight_other e = sym (bytes_other a b (λ f. false≢true (sym e ∙ told ∙ rw f (agree_self b i k))))

  -- all agree
  pub eight_more : c ≡ true → Agreed a b i → Agreed a b (i + suc k)
  eight_more e h j l = go (nat_lt j i) refl
    where
      go : (x : Bool) → nat_lt j i ≡ x → slice_index a j ≡ slice_index b j
      go true q = h j (ltb-true j i q)
      go false q = agree_upto_law a b i k (sym told ∙ e) j (ltb-false j i q) (omega arith)

  -- what is the same before the last bytes is the same if they are
  pub eight_last : length a ≡ length b → length a ≤ i + suc k → Agreed a b i → c ≡ same_bytes a b
  eight_last l f h = go c refl
    where
      go : (x : Bool) → c ≡ x → c ≡ same_bytes a b
      go true e =
          let z : a ≡ b = ext_get_or 0 a b l (λ j g. eight_more e h j (omega arith)) in
          e ∙ rw z (sym (bytes_refl b))
      go false e = e ∙ eight_other e
