-- A weight of open containers that falls with every call: what is left of each counts, and an outer one more than all that it may hold.
use Rattle.std.specs.Prelude.{List, ◌≡◌}
use Rattle.std.proofs.Math.Path.{refl}
use Rattle.std.proofs.Common.{sym, ap, ◌∙◌, suc-mul, mul-suc, mul_comm, pow-suc}
use Prim.Native.Nat.{ℕ, zero, suc, ◌+◌, ◌-◌, ◌*◌, ◌^◌, ◌≤◌, ◌<◌}
use Rattle.std.proofs.Math.Nat.{one-le-pow}
use native.Mathlib.Omega.{arith}
use Rattle.layout.specs.declared.frame.Frame.{Frame}
use Rattle.claims.specs.Open.{frame_at}

-- the weight of the outer h of some frames, at most so deep, where no container has more than most references
unfoldable pub weight : ℕ → ℕ → List Frame → ℕ → ℕ
weight most deepest fs zero = 0
weight most deepest fs (suc h) = weight most deepest fs h + (most + 1 - (frame_at fs h).position) * (most + 2) ^ (deepest - h)

module _ (most deepest : ℕ) where
  pub unit_pos : (h : ℕ) → 0 < (most + 2) ^ (deepest - h)
  unit_pos h = one-le-pow (deepest - h) (most + 2) (omega arith)

  -- frames that are alike weigh the same
  pub weight_same : (fs gs : List Frame) (h : ℕ) → ((i : ℕ) → i < h → frame_at fs i ≡ frame_at gs i) → weight most deepest fs h ≡ weight most deepest gs h
  unfolding weight
  weight_same fs gs zero s = refl
  weight_same fs gs (suc h) s = rw (weight_same fs gs h (λ i k. s i (omega arith)), s h (omega arith))

  pub weight_top : (fs : List Frame) (h : ℕ) → 0 < h → weight most deepest fs h ≡ weight most deepest fs (h - 1) + (most + 1 - (frame_at fs (h - 1)).position) * (most + 2) ^ (deepest - (h - 1))
  unfolding weight
  weight_top fs zero k = absurd (omega arith)
  weight_top fs (suc h) k = let e : suc h - 1 ≡ h = omega arith in rw e

  -- a unit of one depth is more than a whole container of the next
  pub unit_more : (h : ℕ) → 0 < h → h ≤ deepest → (most + 1) * (most + 2) ^ (deepest - h) < (most + 2) ^ (deepest - (h - 1))
  unit_more h k j =
      let e : deepest - (h - 1) ≡ suc (deepest - h) = omega arith in
      let u = (most + 2) ^ (deepest - h) in
      let p : 0 < u = unit_pos h in
      let q : most + 2 ≡ suc (most + 1) = omega arith in
      let m : u * (most + 2) ≡ u * (most + 1) + u = ap (λ (x : ℕ). u * x) q ∙ mul-suc u (most + 1) in
      rw (e, pow-suc) (omega (arith, mul_comm (most + 1) u))

module _ (most x p : ℕ) (h : p ≤ most) where
  -- one reference less weighs a unit less
  pub weight_next : (most + 1 - (p + 1)) * x + x ≡ (most + 1 - p) * x
  weight_next =
      let e : most + 1 - p ≡ suc (most + 1 - (p + 1)) = omega arith in
      rw e (sym (suc-mul (most + 1 - (p + 1)) x))

  -- a container weighs something
  pub weighs : 0 < x → 0 < (most + 1 - p) * x
  weighs k = omega (arith, weight_next)
