-- The groups of base 64, one by one.
use Rattle.std.specs.Prelude.{List, [], ◌∷◌, ◌≡◌, ℕ, suc, ◌+◌, ◌*◌, ◌/◌, ◌%◌, ◌≤◌, length, get_or, drop}
use native.Mathlib.Omega.{arith}
use Rattle.std.proofs.Common.{length-drop}
use Rattle.std.proofs.Math.ListN.{drop_of_length-le}
use Rattle.std.proofs.lemmas.List.Edits.{sets}
use Rattle.utf.specs.Left.{left_at}
use Rattle.radix64.specs.Base64.{letter_of, base64}
use Rattle.radix64.specs.Base64Laws.{length_base64}

-- what is left from a place on, where three bytes are, or two, or one, or none
module _ (s : List ℕ) (i : ℕ) where
  abbrev at : ℕ → ℕ
  at k = get_or s (i + k) 0

  pub three_left : i + 3 ≤ length s → base64 (drop i s) ≡ letter_of (get_or s i 0 / 4) ∷ letter_of (get_or s i 0 % 4 * 16 + at 1 / 16) ∷ letter_of (at 1 % 16 * 4 + at 2 / 64) ∷ letter_of (at 2 % 64) ∷ base64 (drop (i + 3) s)
  unfolding base64
  three_left h =
      let e : i + 1 + 1 ≡ i + 2 = omega arith in
      let f : i + 2 + 1 ≡ i + 3 = omega arith in
      rw (left_at s i (omega arith), left_at s (i + 1) (omega arith), e, left_at s (i + 2) (omega arith), f)

  pub two_left : length s ≡ i + 2 → base64 (drop i s) ≡ letter_of (get_or s i 0 / 4) ∷ letter_of (get_or s i 0 % 4 * 16 + at 1 / 16) ∷ letter_of (at 1 % 16 * 4) ∷ 61 ∷ []
  unfolding base64
  two_left h =
      let e : i + 1 + 1 ≡ i + 2 = omega arith in
      rw (left_at s i (omega arith), left_at s (i + 1) (omega arith), e, drop_of_length-le s {i = i + 2} (omega arith))

  pub one_left : length s ≡ i + 1 → base64 (drop i s) ≡ letter_of (get_or s i 0 / 4) ∷ letter_of (get_or s i 0 % 4 * 16) ∷ 61 ∷ 61 ∷ []
  unfolding base64
  one_left h = rw (left_at s i (omega arith), drop_of_length-le s {i = i + 1} (omega arith))

  pub none_left : length s ≤ i → base64 (drop i s) ≡ []
  unfolding base64
  none_left h = rw (drop_of_length-le s {i = i} h)

-- one group more is written: what stands, with what is left, is the whole
pub next_group :
    (out s : List ℕ) (at k a b c d : ℕ) → 3 * k + 3 ≤ length s → base64 (drop (3 * k) s) ≡ a ∷ b ∷ c ∷ d ∷ base64 (drop (3 * k + 3) s) →
    sets (sets out (at + 4 * k) (a ∷ b ∷ c ∷ d ∷ [])) (at + 4 * (k + 1)) (base64 (drop (3 * (k + 1)) s)) ≡ sets out (at + 4 * k) (base64 (drop (3 * k) s))
next_group out s at k a b c d h e =
    let f : 3 * (k + 1) ≡ 3 * k + 3 = omega arith in
    let g : at + 4 * (k + 1) ≡ suc (suc (suc (suc (at + 4 * k)))) = omega arith in
    rw (e, f, g)

-- the letters of whole groups and of what is left are all
pub last_size : (s : List ℕ) → 4 * (length s / 3) + length (base64 (drop (3 * (length s / 3)) s)) ≡ length (base64 s)
last_size s = omega (arith, length_base64 s, length_base64 (drop (3 * (length s / 3)) s), length-drop (3 * (length s / 3)) s)
