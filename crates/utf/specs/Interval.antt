-- Two functions that antt computes to be equal at each number of an interval are equal on it.
use Rattle.std.specs.Prelude.{ℕ, zero, suc, ◌+◌, ◌≤◌, ◌<◌, ◌≡◌}
use Rattle.std.proofs.Common.{subst, arith}
use mathlib.Core.List.{List, [], ◌∷◌, head-eq_of_cons-eq, tail-eq_of_cons-eq}
use Rattle.std.proofs.Math.Decide.{dec_lt}

-- what f is at low, low + 1, .., n numbers in all
abbrev pub values : {A : Type 0} → (ℕ → A) → ℕ → ℕ → List A
values f low zero = []
values f low (suc n) = f low ∷ values f (low + 1) n

pub on : {A : Type 0} (f g : ℕ → A) (low n m : ℕ) → values f low n ≡ values g low n → low ≤ m → m < low + n → f m ≡ g m
on f g low zero m a h k = absurd (omega arith)
on f g low (suc n) m a h k =
    elim (dec_lt low m) [
      | yes p ↦ on f g (low + 1) n m (tail-eq_of_cons-eq a) (omega arith) (omega arith)
      | no q ↦ subst (λ (x : ℕ). f x ≡ g x) (let e : low ≡ m = omega arith in e) (head-eq_of_cons-eq a)
    ]
