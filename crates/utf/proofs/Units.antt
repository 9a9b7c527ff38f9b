-- Units at a place of a slice of bytes.
use mathlib.Core.Path.{◌≡◌, refl, ap}
use mathlib.Core.Bool.{false}
use mathlib.Core.List.{List, [], ◌∷◌}
use Prim.Native.Nat.{ℕ, suc, ◌+◌, ◌*◌, ◌≤◌, ◌<◌}
use native.Mathlib.Numerals.{add-one, add-two}
use native.Mathlib.Omega.{arith}
use lib.ListN.{length, get_or, drop}
use lib.Seq.{drop-cons}
use Rattle.utf.specs.Unicode.{units_of, is_even}
use Rattle.utf.specs.Utf16At.{UnitAt}

-- two bytes are a unit
pub unit_at : (s : List ℕ) (i : ℕ) → i + 2 ≤ length s → ((k : ℕ) → get_or s k 0 < 256) → UnitAt s i (get_or s i 0 * 256 + get_or s (i + 1) 0)
unfolding units_of is_even
unit_at s i h b =
    let e : drop i s ≡ get_or s i 0 ∷ get_or s (i + 1) 0 ∷ drop (i + 2) s = rw (add-two, add-one, drop-cons s i 0 (omega arith)) (ap (λ (l : List ℕ). get_or s i 0 ∷ l) (drop-cons s (suc i) 0 (omega arith))) in
    record { units = rw e; even = rw e; small = omega (arith, b i, b (i + 1)) }

-- fewer bytes are none
pub short_units : (t : List ℕ) → length t < 2 → units_of t ≡ []
unfolding units_of
short_units [] h = refl
short_units (a ∷ []) h = refl
short_units (a ∷ b ∷ t) h = absurd (omega arith)

-- one byte is odd
pub odd_one : (t : List ℕ) → length t ≡ 1 → is_even t ≡ false
unfolding is_even
odd_one [] h = absurd (omega arith)
odd_one (a ∷ []) h = refl
odd_one (a ∷ b ∷ t) h = absurd (omega arith)
