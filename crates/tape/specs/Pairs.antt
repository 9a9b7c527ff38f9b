-- What an optional pair holds.
use Rattle.std.specs.Prelude.{ℕ, ◌≡◌, Option, Some}
use Rattle.std.proofs.Common.{ap}

-- equal ones hold equal numbers
pub both_of : {a b c d : ℕ} → ◌≡◌ {A = Option (ℕ × ℕ)} (Some (a, b)) (Some (c, d)) → (a ≡ c) × (b ≡ d)
both_of {a} {b} {c} {d} e = let p : ◌≡◌ {A = ℕ × ℕ} (a, b) (c, d) = cc in (ap (λ (q : ℕ × ℕ). q.0) p, ap (λ (q : ℕ × ℕ). q.1) p)
