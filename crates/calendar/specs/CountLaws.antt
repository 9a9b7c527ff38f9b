-- Laws of counting off: there is a place, it is the only one, and it is the one that counting off gives.
use Rattle.std.specs.Prelude.{Bool, cond, ◌≡◌}
use Rattle.std.proofs.Math.Bool.{true, false}
use Rattle.std.proofs.Math.Path.{refl, ap, ap₂, subst}
use Rattle.std.proofs.Common.{sym, ◌∙◌, add-one}
use Prim.Native.Nat.{ℕ, zero, suc, ◌+◌, ◌-◌, ◌≤◌, ◌<◌}
use Rattle.std.proofs.Math.Nat.{add-zero, add-suc, zero-add}
use native.Mathlib.Omega.{arith}
use borrow.Author.Tests.{lt-ltb, le-ltb, ltb-true, ltb-false}
use Rattle.std.proofs.Math.Dec.{ltb}
use Rattle.calendar.specs.declared.days.Place.{Place}
use Rattle.calendar.specs.Count.{total, count_off}

abbrev pub place : ℕ → ℕ → Place
place i n = record { part = i; rest = n }

module _ (size : ℕ → ℕ) where
  -- the first m parts are no larger than the first m + k
  pub total_grows : (m k : ℕ) → total size m ≤ total size (m + k)
  unfolding total
  total_grows m zero = rw add-zero (omega arith)
  total_grows m (suc k) = rw add-suc (omega (arith, total_grows m k))

  -- what lies in one of the first k parts lies below their total
  pub below_total : (k j d : ℕ) → j < k → d < size (suc j) → total size j + d < total size k
  unfolding total
  below_total k j d l h =
      let e : suc j + (k - suc j) ≡ k = omega arith in
      let g : total size j + size (suc j) ≤ total size k = subst (λ (n : ℕ). total size (suc j) ≤ total size n) e (total_grows (suc j) (k - suc j)) in
      omega arith

  pub total_next : (i : ℕ) → 0 < i → total size (i + 1 - 1) ≡ total size (i - 1) + size i
  unfolding total
  total_next zero h = absurd (omega arith)
  total_next (suc i) h = let p : suc i + 1 - 1 ≡ suc i = omega arith in let q : suc i - 1 ≡ i = omega arith in rw (p, q)

  -- counting off, by its turns
  pub count_here : (k i n : ℕ) → n < size i → count_off size k i n ≡ place i n
  unfolding count_off
  count_here zero i n h = refl
  count_here (suc k) i n h = rw (lt-ltb n (size i) h)

  pub count_next : (k i n : ℕ) → size i ≤ n → count_off size (suc k) i n ≡ count_off size k (i + 1) (n - size i)
  unfolding count_off
  count_next k i n h = rw (le-ltb n (size i) h, add-one)

  -- what is left is no more than there was
  pub rest_most : (k i n : ℕ) → (count_off size k i n).rest ≤ n
  unfolding count_off
  rest_most zero i n = omega arith
  rest_most (suc k) i n = go (ltb n (size i)) (rest_most k (suc i) (n - size i))
    where
      go : (b : Bool) → (count_off size k (suc i) (n - size i)).rest ≤ n - size i → (cond b (place i n) (count_off size k (suc i) (n - size i))).rest ≤ n
      go true h = omega arith
      go false h = omega arith

  -- what lies in part i + j + 1, counted off from part i + 1 on
  pub counted : (k i n j d : ℕ) → total size i + n ≡ total size (i + j) + d → d < size (suc (i + j)) → j ≤ k → count_off size k (suc i) n ≡ place (suc (i + j)) d
  unfolding total count_off
  counted zero i n zero d e h l = ap₂ place (rw add-zero) (omega (arith, rw add-zero at e))
  counted zero i n (suc j) d e h l = absurd (omega arith)
  counted (suc k) i n zero d e h l =
      let g : n ≡ d = omega (arith, rw add-zero at e) in
      let lt : n < size (suc i) = rw g (rw add-zero at h) in
      rw (lt-ltb n (size (suc i)) lt) (ap₂ place (rw add-zero) g)
  counted (suc k) i n (suc j) d e h l =
      let q : i + suc j ≡ suc i + j = omega arith in
      let e' : total size i + n ≡ total size (suc i + j) + d = subst (λ (x : ℕ). total size i + n ≡ total size x + d) q e in
      let h' : d < size (suc (suc i + j)) = subst (λ (x : ℕ). d < size (suc x)) q h in
      let le : size (suc i) ≤ n = omega (arith, total_grows (suc i) j) in
      rw (le-ltb n (size (suc i)) le) (counted k (suc i) (n - size (suc i)) j d (omega arith) h' (omega arith) ∙ ap (λ (x : ℕ). place (suc x) d) (sym q))

  pub counted_first : (k n j d : ℕ) → n ≡ total size j + d → d < size (suc j) → j ≤ k → count_off size k 1 n ≡ place (suc j) d
  unfolding total
  counted_first k n j d e h l = rw (zero-add j) at (counted k 0 n j d (rw (zero-add j, zero-add n) e) (rw (zero-add j) h) l)

  -- a place among the first k parts
  pub record Found (k n : ℕ) : Type 0 where
    pub before : ℕ
    pub rest : ℕ
    pub near : before < k
    pub sum : n ≡ total size before + rest
    pub inside : rest < size (suc before)

  pub found : (k n : ℕ) → n < total size k → Found k n
  unfolding total
  found zero n h = absurd (omega arith)
  found (suc k) n h = go (ltb n (total size k)) refl (found k n)
    where
      go : (b : Bool) → ltb n (total size k) ≡ b → (n < total size k → Found k n) → Found (suc k) n
      go true e ih =
          let f = ih (ltb-true n (total size k) e) in
          record { before = f.before; rest = f.rest; near = omega arith; sum = f.sum; inside = f.inside }
      go false e ih =
          let g : total size k ≤ n = ltb-false n (total size k) e in
          record { before = k; rest = n - total size k; near = omega arith; sum = omega arith; inside = omega arith }
