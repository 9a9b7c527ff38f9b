-- What a turn of the writing loop does.
use mathlib.Core.Logic.{◌≢◌}
use mathlib.Core.Path.{◌≡◌, sym, ◌∙◌}
use mathlib.Core.List.{List, [], ◌∷◌, ◌++◌}
use Prim.Native.Nat.{ℕ, zero, suc, ◌+◌, ◌-◌, ◌/◌, ◌%◌, ◌<◌}
use native.Mathlib.Nat.{add-zero}
use native.Mathlib.Numerals.{sub-one}
use native.Mathlib.Omega.{arith}
use lib.ListN.{length, set}
use lib.Seq.{sets, set_comm}
use Rattle.digits.specs.Digits.{digits_of}
use Rattle.digits.specs.DigitsLaws.{length_digits}

-- the last element goes first
last_first : (vs : List ℕ) (l : List ℕ) (i v : ℕ) → sets l i (vs ++ (v ∷ [])) ≡ sets (set l (i + length vs) v) i vs
last_first [] l i v = rw add-zero
last_first (x ∷ xs) l i v =
    let ne : i ≢ suc i + length xs = λ e. omega arith in
    let e : i + suc (length xs) ≡ suc i + length xs = omega arith in
    last_first xs (set l i x) (suc i) v ∙ rw (e, set_comm l i (suc i + length xs) x v ne)

pub next_digit : (out : List ℕ) (at k n : ℕ) → 0 < k → sets (set out (at + (k - 1)) (48 + n % 10)) at (digits_of (k - 1) (n / 10)) ≡ sets out at (digits_of k n)
unfolding digits_of
next_digit out at zero n h = absurd (omega arith)
next_digit out at (suc k) n h = simp sub-one (sym (last_first (digits_of k (n / 10)) out at (48 + n % 10) ∙ rw (length_digits k (n / 10))))
