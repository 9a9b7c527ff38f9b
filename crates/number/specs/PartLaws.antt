-- Laws of parts: bytes of bytes are bytes, how long a part is, the number that it is.
use Rattle.std.specs.Prelude.{List, [], ◌∷◌, ◌++◌, ◌≡◌, refl, ℕ, zero, suc, ◌+◌, ◌-◌, ◌*◌, ◌/◌, ◌^◌, ◌≤◌, ◌<◌, take, drop, Some}
use Rattle.std.proofs.Common.{sym, ap, ◌∙◌, pow-suc, arith, length-drop, take-append-drop, pow-add, length-take-le, take-add, take-take, drop-drop}
use Rattle.std.proofs.Math.Nat.{add-sub_cancel_left}
use borrow.Author.Tests.{ne_eqb, le-ltb}
use Rattle.std.proofs.Math.Arith.{digits_div}
use Rattle.std.proofs.Math.ListN.{length}
use Rattle.number.specs.Be.{be}
use Rattle.number.specs.BeLaws.{Bytes, be_lt, be_halves}
use Rattle.number.specs.Part.{part}
use Rattle.number.specs.Read.{number_of}

pub bytes_take : (n : ℕ) (s : List ℕ) → Bytes s → Bytes (take n s)
bytes_take zero s b = tt
bytes_take (suc n) [] b = tt
bytes_take (suc n) (x ∷ xs) b = (b.0, bytes_take n xs b.1)

pub bytes_drop : (n : ℕ) (s : List ℕ) → Bytes s → Bytes (drop n s)
bytes_drop zero s b = b
bytes_drop (suc n) [] b = tt
bytes_drop (suc n) (x ∷ xs) b = bytes_drop n xs b.1

module _ (s : List ℕ) (at n : ℕ) (fits : at + n ≤ length s) where
  -- a part that lies within has as many bytes as are asked for
  pub length_part : length (part s at n) ≡ n
  length_part = length-take-le n (drop at s) (rw length-drop (omega arith))

  -- and is a number of so many bytes
  pub part_lt : Bytes s → be (part s at n) < 256 ^ n
  part_lt b = rw length_part at (be_lt (part s at n) (bytes_take n (drop at s) (bytes_drop at s b)))

  -- one of 1 to 8 bytes is read; the code's part ends at `at + n`
  pub number_part : 0 < n → n ≤ 8 → number_of (take (at + n - at) (drop at s)) ≡ Some (be (part s at n))
  unfolding number_of
  number_part low high =
      let e : length (part s at n) ≡ n = length_part in
      rw (add-sub_cancel_left, ne_eqb (length (part s at n)) 0 (omega arith), le-ltb 8 (length (part s at n)) (omega arith))

-- two parts that meet are one
pub part_add : (s : List ℕ) (at m n : ℕ) → part s at (m + n) ≡ part s at m ++ part s (at + m) n
part_add s at m n = rw (take-add, drop-drop)

-- the number of a part is its two parts' numbers
pub be_part_add : (s : List ℕ) (at m n : ℕ) → at + m + n ≤ length s → be (part s at (m + n)) ≡ be (part s at m) * 256 ^ n + be (part s (at + m) n)
be_part_add s at m n h = rw (part_add, be_halves, length_part s (at + m) n h)

-- the number of the first bytes is what is left of the whole number without its low digits
pub be_first : (s : List ℕ) (w : ℕ) → Bytes s → be s / 256 ^ (length s - w) ≡ be (take w s)
be_first s w b =
    let t : List ℕ = drop w s in
    rw (← length-drop w s)
    (ap (λ (x : ℕ). x / 256 ^ length t) (ap be (sym (take-append-drop w s)) ∙ be_halves (take w s) t) ∙
    digits_div (be (take w s)) (be_lt t (bytes_drop w s b)))

pow_bytes : (k : ℕ) → 2 ^ (8 * k) ≡ 256 ^ k
pow_bytes zero = refl
pow_bytes (suc k) =
    let e : 8 * suc k ≡ 8 * k + 8 = omega arith in
    rw (e, pow-add 2 (8 * k) 8, pow_bytes k) (sym (pow-suc 256 k))

-- a number of any width is had from eight bytes by a shift
pub be_shifted : (s : List ℕ) (at w : ℕ) → Bytes s → w ≤ 8 → at + 8 ≤ length s → be (part s at 8) / 2 ^ (64 - 8 * w) ≡ be (part s at w)
be_shifted s at w b few inside =
    let p : List ℕ = part s at 8 in
    let l : length p ≡ 8 = length_part s at 8 inside in
    let e : 64 - 8 * w ≡ 8 * (8 - w) = omega arith in
    let q : be p / 256 ^ (8 - w) ≡ be (take w p) = rw l at (be_first p w (bytes_take 8 (drop at s) (bytes_drop at s b))) in
    rw (e, pow_bytes (8 - w)) (q ∙ ap be (take-take w 8 (drop at s) few))
