-- The pigeonhole principle: different numbers below n are at most n, and fewer if one is left out.
use Rattle.std.specs.Prelude.{Bool, ◌≡◌}
use Rattle.std.proofs.Math.Bool.{true, false, cond}
use Rattle.std.proofs.Math.Path.{refl, sym}
use Rattle.std.proofs.Common.{ap, ◌∙◌}
use Prim.Native.Nat.{ℕ, zero, suc, ◌+◌, ◌≤◌, ◌<◌}
use native.Mathlib.Omega.{arith}
use borrow.Author.Tests.{eqb-true, eqb-false, ne_eqb}
use Rattle.std.proofs.Math.Dec.{eqb}

-- how often x is among the first h of some numbers; how many of them are below n
unfoldable count : (ℕ → ℕ) → ℕ → ℕ → ℕ
count g x zero = 0
count g x (suc h) = count g x h + cond (eqb (g h) x) 1 0

unfoldable total : (ℕ → ℕ) → ℕ → ℕ → ℕ
total g zero h = 0
total g (suc n) h = total g n h + count g n h

module _ (g : ℕ → ℕ) where
  count_none : (x h : ℕ) → ((i : ℕ) → i < h → g i ≡ x → ⊥) → count g x h ≡ 0
  unfolding count
  count_none x zero f = refl
  count_none x (suc h) f = rw (count_none x h (λ i k. f i (omega arith)), ne_eqb (g h) x (f h (omega arith)))

  count_le : (x h : ℕ) → ((i j : ℕ) → i < j → j < h → g i ≡ g j → ⊥) → count g x h ≤ 1
  unfolding count
  count_le x zero d = omega arith
  count_le x (suc h) d = go (eqb (g h) x) refl (count_le x h (λ i j a b. d i j a (omega arith)))
    where
      go : (b : Bool) → eqb (g h) x ≡ b → count g x h ≤ 1 → count g x h + cond (eqb (g h) x) 1 0 ≤ 1
      go true e ih = rw (count_none x h (λ i k q. d i h k (omega arith) (q ∙ sym (eqb-true _ _ e))), e) (omega arith)
      go false e ih = rw e (omega arith)

  total_out : (n h : ℕ) → n ≤ g h → total g n (suc h) ≡ total g n h
  unfolding total count
  total_out zero h k = refl
  total_out (suc n) h k = rw (total_out n h (omega arith), ne_eqb (g h) n (λ e. omega arith)) (omega arith)

  total_in : (n h : ℕ) → g h < n → total g n (suc h) ≡ suc (total g n h)
  unfolding total count
  total_in zero h k = absurd (omega arith)
  total_in (suc n) h k = go (eqb (g h) n) refl (total_in n h)
    where
      go : (b : Bool) → eqb (g h) n ≡ b → (g h < n → total g n (suc h) ≡ suc (total g n h)) → total g n (suc h) + (count g n h + cond (eqb (g h) n) 1 0) ≡ suc (total g n h + count g n h)
      go true e ih =
          let q : g h ≡ n = eqb-true _ _ e in
          rw (total_out n h (omega arith), e) (omega arith)
      go false e ih =
          let q : g h ≡ n → ⊥ = eqb-false _ _ e in
          rw (ih (omega arith), e) (omega arith)

  total_none : (n : ℕ) → total g n zero ≡ 0
  unfolding total count
  total_none zero = refl
  total_none (suc n) = rw (total_none n)

  total_all : (n h : ℕ) → ((i : ℕ) → i < h → g i < n) → total g n h ≡ h
  total_all n zero b = total_none n
  total_all n (suc h) b = total_in n h (b h (omega arith)) ∙ ap suc (total_all n h (λ i k. b i (omega arith)))

  module _ (h : ℕ) (different : (i j : ℕ) → i < j → j < h → g i ≡ g j → ⊥) where
    total_le : (n : ℕ) → total g n h ≤ n
    unfolding total
    total_le zero = omega arith
    total_le (suc n) = omega (arith, total_le n, count_le n h different)

    total_lt : (n x : ℕ) → x < n → count g x h ≡ 0 → total g n h < n
    unfolding total
    total_lt zero x k e = absurd (omega arith)
    total_lt (suc n) x k e = go (eqb x n) refl (total_lt n x)
      where
        go : (b : Bool) → eqb x n ≡ b → (x < n → count g x h ≡ 0 → total g n h < n) → total g n h + count g n h < suc n
        go true q ih =
            let c : count g n h ≡ 0 = rw (eqb-true x n q) at e in
            omega (arith, total_le n)
        go false q ih =
            let d : x ≡ n → ⊥ = eqb-false _ _ q in
            omega (arith, ih (omega arith) e, count_le n h different)

    module _ (n : ℕ) (below : (i : ℕ) → i < h → g i < n) where
      pub pigeonhole : h ≤ n
      pigeonhole = omega (arith, total_all n h below, total_le n)

      pub pigeonhole_free : (x : ℕ) → x < n → ((i : ℕ) → i < h → g i ≡ x → ⊥) → h < n
      pigeonhole_free x k f = omega (arith, total_all n h below, total_lt n x k (count_none x h f))
