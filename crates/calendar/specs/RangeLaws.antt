-- Laws of the range: what lies in it, and the same by a number's sign.
use Rattle.std.specs.Prelude.{Bool, true, false, cond, ◌≡◌, refl, ℕ, zero, suc, ◌+◌, ◌-◌, ◌≤◌, ◌<◌, ltb, ℤ, pos, negsuc, neg_ℤ, None, Option, Some}
use Rattle.std.proofs.Common.{arith, lt-ltb, le-ltb, ltb-true}
use Rattle.calendar.specs.Date.{since_whole, since_floor, since_of}
use Rattle.calendar.specs.Floor.{floor_of_bits}

pub only : (b : Bool) (m n : ℕ) → cond b (Some m) None ≡ Some n → (b ≡ true) × (m ≡ n)
only true m n e = (refl, cc)
only false m n e = absurd (let z : ◌≡◌ {A = ℕ} 0 1 = cc in omega arith)

pub whole_range : (z : ℤ) (n : ℕ) → since_whole z ≡ Some n → n < 315_537_897_600
unfolding since_whole
whole_range (pos m) n e = let o = only (ltb m 252_423_993_600) (63_113_904_000 + m) n e in let h : m < 252_423_993_600 = ltb-true _ _ o.0 in let g = o.1 in omega arith
whole_range (negsuc k) n e = let o = only (ltb k 63_113_904_000) (63_113_904_000 - suc k) n e in let g = o.1 in omega arith

floor_range : (o : Option ℤ) (n : ℕ) → since_floor o ≡ Some n → n < 315_537_897_600
unfolding since_floor
floor_range None n e = absurd (let z : ◌≡◌ {A = ℕ} 0 1 = cc in omega arith)
floor_range (Some z) n e = whole_range z n e

pub since_range : (b n : ℕ) → since_of b ≡ Some n → n < 315_537_897_600
unfolding since_of
since_range b n e = floor_range (floor_of_bits b) n e

-- a negated number of seconds
pub since_below : (n : ℕ) → n ≤ 63_113_904_000 → since_whole (neg_ℤ (pos n)) ≡ Some (63_113_904_000 - n)
unfolding since_whole
since_below zero h = refl
since_below (suc k) h = rw (lt-ltb k 63_113_904_000 (omega arith))

pub since_far_below : (n : ℕ) → 63_113_904_000 < n → since_whole (neg_ℤ (pos n)) ≡ None
unfolding since_whole
since_far_below zero h = absurd (omega arith)
since_far_below (suc k) h = rw (le-ltb k 63_113_904_000 (omega arith))
