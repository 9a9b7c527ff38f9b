-- How long numbers in decimal are, and of which bytes they are.
use Rattle.std.specs.Prelude.{Bool, true, false, cond, [], ◌∷◌, ◌≡◌, refl, ltb, ℤ, pos, negsuc, length}
use Rattle.std.proofs.Common.{ap, ◌∙◌, div-lt_iff_lt-mul, le-div_iff_mul-le, mul_comm, pow-suc, add-one, arith, lt-ltb, le-ltb, lit<, length-append}
use Rattle.std.proofs.Math.Nat.{one-le-pow}
use Prim.Native.Nat.{ℕ, zero, suc, ◌+◌, ◌*◌, ◌/◌, ◌%◌, ◌^◌, ◌≤◌, ◌<◌, max}
use Rattle.digits.specs.Digits.{places_of, digits_of, decimal, minus, signed}
use Rattle.digits.specs.Each.{Each, each_append}

-- an integer that an i64 or a u64 holds
abbrev pub Holds : ℤ → Type 0
Holds (pos n) = n < 2 ^ 64
Holds (negsuc k) = k < 2 ^ 63

-- ---- how long

pub length_digits : (k n : ℕ) → length (digits_of k n) ≡ k
unfolding digits_of
length_digits zero n = refl
length_digits (suc k) n = simp (length-append, length_digits k (n / 10), add-one)

pub length_decimal : (n : ℕ) → length (decimal n) ≡ places_of 19 n
unfolding decimal
length_decimal n = length_digits (places_of 19 n) n

-- so many digits as were counted are the number
pub decimal_counted : (places n : ℕ) → places ≡ length (decimal n) → digits_of places n ≡ decimal n
unfolding decimal
decimal_counted places n e = ap (λ (k : ℕ). digits_of k n) (e ∙ length_decimal n)

pub length_minus : (n : ℕ) → length (minus n) ≡ 1 + length (decimal n)
unfolding minus
length_minus n = omega arith

-- a number below 10 ^ (m + 1) takes m + 1 digits at most
places_few : (k m n : ℕ) → n < 10 ^ suc m → places_of k n ≤ suc m
unfolding places_of
places_few zero m n h = omega arith
places_few (suc k) zero n h = rw (lt-ltb n 10 (omega arith)) (omega arith)
places_few (suc k) (suc m) n h = go (ltb n 10) (places_few k m (n / 10) ((div-lt_iff_lt-mul (lit< tt)).1 (rw pow-suc at h)))
  where
    go : (b : Bool) → places_of k (n / 10) ≤ suc m → cond b 1 (suc (places_of k (n / 10))) ≤ suc (suc m)
    go true l = omega arith
    go false l = omega arith

-- and one of 10 ^ m or more takes more than m
places_many : (k m n : ℕ) → m ≤ k → 10 ^ m ≤ n → m < places_of k n
unfolding places_of
places_many zero zero n l h = omega arith
places_many zero (suc m) n l h = absurd (omega arith)
places_many (suc k) zero n l h = go (ltb n 10)
  where
    go : (b : Bool) → 0 < cond b 1 (suc (places_of k (n / 10)))
    go true = omega arith
    go false = omega arith
places_many (suc k) (suc m) n l h =
    let d : 10 ^ m ≤ n / 10 = (le-div_iff_mul-le (lit< tt)).1 (rw pow-suc at h) in
    let ih : m < places_of k (n / 10) = places_many k m (n / 10) (omega arith) d in
    let o : 1 ≤ 10 ^ m = one-le-pow m 10 (lit< tt) in
    let t : 10 ≤ n = omega (arith, o, d) in
    rw (le-ltb n 10 t) (omega arith)

one_place : places_of 19 0 ≡ 1
unfolding places_of
one_place = refl

-- so the power of ten below a number tells how many
pub decimal_places : (m n : ℕ) → 10 ^ m ≤ max n 1 → max n 1 < 10 * 10 ^ m → m < 20 → length (decimal n) ≡ m + 1
decimal_places zero zero l h b = rw length_decimal one_place
decimal_places (suc m) zero l h b =
    let o : 1 ≤ 10 ^ m = one-le-pow m 10 (lit< tt) in
    let p : 10 ^ m * 10 ≤ max 0 1 = rw pow-suc at l in
    absurd (omega arith)
decimal_places m (suc k) l h b =
    let n = suc k in
    let few : places_of 19 n ≤ suc m = places_few 19 m n (rw (pow-suc, mul_comm (10 ^ m) 10) (omega arith)) in
    let many : m < places_of 19 n = places_many 19 m n (omega arith) (omega arith) in
    rw length_decimal (omega arith)

pub decimal_few : (m n : ℕ) → n < 10 ^ suc m → length (decimal n) ≤ suc m
decimal_few m n h = rw length_decimal (places_few 19 m n h)

-- no integer takes more than 20 bytes, its sign included
pub signed_few : (z : ℤ) → Holds z → length (signed z) ≤ 20
unfolding signed
signed_few (pos n) h = decimal_few 19 n (omega arith)
signed_few (negsuc k) h = omega (arith, length_minus (k + 1), decimal_few 18 (k + 1) (omega arith))

-- ---- of which bytes

-- what holds of the ten digits holds of every byte of a number
module _ (P : ℕ → Type 0) (ten : (d : ℕ) → d < 10 → P (48 + d)) where
  pub digits_each : (k n : ℕ) → Each P (digits_of k n)
  unfolding digits_of
  digits_each zero n = tt
  digits_each (suc k) n = each_append P (digits_of k (n / 10)) ((48 + n % 10) ∷ []) (digits_each k (n / 10)) (ten (n % 10) (omega arith), tt)

  pub decimal_each : (n : ℕ) → Each P (decimal n)
  unfolding decimal
  decimal_each n = digits_each (places_of 19 n) n

  pub signed_each : P 45 → (z : ℤ) → Each P (signed z)
  unfolding signed minus
  signed_each m (pos n) = decimal_each n
  signed_each m (negsuc k) = (m, decimal_each (k + 1))
