-- Base 64 is one to one: the bytes come back from the letters. How long it is, and of which bytes.
use Rattle.std.specs.Prelude.{false, ◌≡◌, refl, ℕ, ◌+◌, ◌*◌, ◌/◌, ◌%◌, ◌<◌, eqb, length}
use mathlib.Core.List.{List, [], ◌∷◌}
use Rattle.std.proofs.Common.{sym, ap, ◌∙◌, arith}
use Rattle.number.specs.BeLaws.{Bytes}
use Rattle.utf.specs.Interval.{on}
use Rattle.digits.specs.Each.{Each}
use Rattle.radix64.specs.Base64.{alphabet, letter_of, base64, six_of, three, unbase64}

-- a value comes back from its letter
six_letter : (v : ℕ) → v < 64 → six_of (letter_of v) ≡ v
unfolding six_of letter_of alphabet
six_letter v h = on (λ (x : ℕ). six_of (letter_of x)) (λ (x : ℕ). x) 0 64 v refl (omega arith) (omega arith)

-- no letter is `=`
letter_pad : (v : ℕ) → v < 64 → eqb (letter_of v) 61 ≡ false
unfolding letter_of alphabet
letter_pad v h = on (λ (x : ℕ). eqb (letter_of x) 61) (λ (x : ℕ). false) 0 64 v refl (omega arith) (omega arith)

-- the bytes come back
pub base64_again : (s : List ℕ) → Bytes s → unbase64 (base64 s) ≡ s
unfolding base64 unbase64 three
base64_again [] h = refl
base64_again (a ∷ []) h =
    let p : a / 4 < 64 = omega (arith, h.0) in
    let q : a % 4 * 16 < 64 = omega arith in
    let e : a / 4 * 4 + a % 4 * 16 / 16 ≡ a = omega arith in
    rw (six_letter (a / 4) p, six_letter (a % 4 * 16) q, e)
base64_again (a ∷ b ∷ []) h =
    let p : a / 4 < 64 = omega (arith, h.0) in
    let q : a % 4 * 16 + b / 16 < 64 = omega (arith, h.1.0) in
    let r : b % 16 * 4 < 64 = omega arith in
    let e : a / 4 * 4 + (a % 4 * 16 + b / 16) / 16 ≡ a = omega (arith, h.1.0) in
    let f : (a % 4 * 16 + b / 16) % 16 * 16 + b % 16 * 4 / 4 ≡ b = omega (arith, h.1.0) in
    rw (letter_pad (b % 16 * 4) r, six_letter (a / 4) p, six_letter (a % 4 * 16 + b / 16) q, six_letter (b % 16 * 4) r, e, f)
base64_again (a ∷ b ∷ c ∷ s) h =
    let p : a / 4 < 64 = omega (arith, h.0) in
    let q : a % 4 * 16 + b / 16 < 64 = omega (arith, h.1.0) in
    let r : b % 16 * 4 + c / 64 < 64 = omega (arith, h.1.1.0) in
    let t : c % 64 < 64 = omega arith in
    let e : a / 4 * 4 + (a % 4 * 16 + b / 16) / 16 ≡ a = omega (arith, h.1.0) in
    let f : (a % 4 * 16 + b / 16) % 16 * 16 + (b % 16 * 4 + c / 64) / 4 ≡ b = omega (arith, h.1.0, h.1.1.0) in
    let g : (b % 16 * 4 + c / 64) % 4 * 64 + c % 64 ≡ c = omega (arith, h.1.1.0) in
    rw (letter_pad (b % 16 * 4 + c / 64) r, letter_pad (c % 64) t, six_letter (a / 4) p, six_letter (a % 4 * 16 + b / 16) q, six_letter (b % 16 * 4 + c / 64) r, six_letter (c % 64) t, e, f, g, base64_again s h.1.1.1)

-- so it is one to one
pub base64_one : (s t : List ℕ) → Bytes s → Bytes t → base64 s ≡ base64 t → s ≡ t
base64_one s t h k e = sym (base64_again s h) ∙ ap unbase64 e ∙ base64_again t k

-- four letters for every three bytes begun
pub length_base64 : (s : List ℕ) → length (base64 s) ≡ (length s + 2) / 3 * 4
unfolding base64
length_base64 [] = refl
length_base64 (a ∷ []) = refl
length_base64 (a ∷ b ∷ []) = refl
length_base64 (a ∷ b ∷ c ∷ s) = omega (arith, length_base64 s)

-- ---- of which bytes

-- what holds of the letters and of `=` holds of every byte
module _ (P : ℕ → Type 0) (letters : (v : ℕ) → v < 64 → P (letter_of v)) (pad : P 61) where
  pub base64_each : (s : List ℕ) → Bytes s → Each P (base64 s)
  unfolding base64
  base64_each [] h = tt
  base64_each (a ∷ []) h = (letters (a / 4) (omega (arith, h.0)), (letters (a % 4 * 16) (omega arith), (pad, (pad, tt))))
  base64_each (a ∷ b ∷ []) h = (letters (a / 4) (omega (arith, h.0)), (letters (a % 4 * 16 + b / 16) (omega (arith, h.1.0)), (letters (b % 16 * 4) (omega arith), (pad, tt))))
  base64_each (a ∷ b ∷ c ∷ s) h =
      let w = letters (a / 4) (omega (arith, h.0)) in
      let x = letters (a % 4 * 16 + b / 16) (omega (arith, h.1.0)) in
      let y = letters (b % 16 * 4 + c / 64) (omega (arith, h.1.1.0)) in
      let z = letters (c % 64) (omega arith) in
      (w, (x, (y, (z, base64_each s h.1.1.1))))
