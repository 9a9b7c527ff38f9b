-- Laws of the size of a maximum.
use Rattle.std.specs.Prelude.{Bool, true, false, cond, ◌≡◌, refl, ℕ, zero, suc, ◌/◌, ◌^◌, ◌≤◌, ◌<◌, eqb, leb}
use Rattle.std.proofs.Common.{pow-suc, div-lt_iff_lt-mul, le-div_iff_mul-le, arith, lit<, lit≤}
use Rattle.std.proofs.Math.Nat.{one-le-pow, pow-le-pow_right}
use borrow.Author.Tests.{le-leb, lt-leb, eq-eqb, ne_eqb, eqb-true, leb-true}
use Rattle.number.specs.Size.{needed, rounded, size_of}

-- a number below 256 ^ w needs at most w bytes
pub needed_le : (k w n : ℕ) → n < 256 ^ w → needed k n ≤ w
unfolding needed
needed_le zero w n h = omega arith
needed_le (suc k) zero n h = rw (eq-eqb n 0 (omega arith)) (omega arith)
needed_le (suc k) (suc w) n h = go (eqb n 0) refl (needed_le k w (n / 256) ((div-lt_iff_lt-mul (lit< tt)).1 (rw pow-suc at h)))
  where
    go : (b : Bool) → eqb n 0 ≡ b → needed k (n / 256) ≤ w → needed (suc k) n ≤ suc w
    go true e ih = rw (e, needed) (omega arith)
    go false e ih = rw (e, needed) (omega arith)

-- and any other needs more, as far as they are counted
pub needed_gt : (k w n : ℕ) → w < k → 256 ^ w ≤ n → w < needed k n
unfolding needed
needed_gt zero w n g h = absurd (omega arith)
needed_gt (suc k) zero n g h = rw (ne_eqb n 0 (omega arith)) (omega arith)
needed_gt (suc k) (suc w) n g h =
    let d : 256 ^ w ≤ n / 256 = (le-div_iff_mul-le (lit< tt)).1 (rw pow-suc at h) in
    let ih : w < needed k (n / 256) = needed_gt k w (n / 256) (omega arith) d in
    let z : n ≡ 0 → ⊥ = λ e. omega (arith, one-le-pow (suc w) 256 (lit< tt)) in
    rw (ne_eqb n 0 z) (omega arith)

needed_fits : (k n : ℕ) → n < 256 ^ k → n < 256 ^ needed k n
unfolding needed
needed_fits zero n h = h
needed_fits (suc k) n h = go (eqb n 0) refl (needed_fits k (n / 256) ((div-lt_iff_lt-mul (lit< tt)).1 (rw pow-suc at h)))
  where
    go : (b : Bool) → eqb n 0 ≡ b → n / 256 < 256 ^ needed k (n / 256) → n < 256 ^ needed (suc k) n
    go true e ih = rw (e, needed) (omega (arith, eqb-true n 0 e))
    go false e ih = rw (e, needed, pow-suc) ((div-lt_iff_lt-mul (lit< tt)).0 ih)

rounded_ge : (w : ℕ) → w ≤ 8 → w ≤ rounded w
unfolding rounded
rounded_ge w h = go (leb w 1) (leb w 2) (leb w 4) refl refl refl
  where
    go : (a b c : Bool) → leb w 1 ≡ a → leb w 2 ≡ b → leb w 4 ≡ c → w ≤ cond a 1 (cond b 2 (cond c 4 8))
    go true b c e f g = leb-true w 1 e
    go false true c e f g = leb-true w 2 f
    go false false true e f g = leb-true w 4 g
    go false false false e f g = h

-- the numbers up to a maximum fit into its size
pub size_of_fits : (m n : ℕ) → m < 2 ^ 64 → n ≤ m → n < 256 ^ size_of m
unfolding size_of
size_of_fits m n h g =
    let le : needed 8 m ≤ 8 = needed_le 8 8 m h in
    let big : 256 ^ needed 8 m ≤ 256 ^ rounded (needed 8 m) = pow-le-pow_right {n = 256} (lit< tt) (rounded_ge (needed 8 m) le) in
    omega (arith, needed_fits 8 m h, big)

-- a number fits into its own size
pub fits_itself : (n : ℕ) → n < 2 ^ 64 → n < 256 ^ size_of n
fits_itself n h = size_of_fits n n h (let e : n ≤ n = omega arith in e)

-- the sizes that there are
pub data Sized : ℕ → Type 0 where
  one : Sized 1
  two : Sized 2
  four : Sized 4
  eight : Sized 8

pub sized : (n : ℕ) → Sized (size_of n)
unfolding size_of rounded
sized n = go (leb (needed 8 n) 1) (leb (needed 8 n) 2) (leb (needed 8 n) 4)
  where
    go : (a b c : Bool) → Sized (cond a 1 (cond b 2 (cond c 4 8)))
    go true b c = one
    go false true c = two
    go false false true = four
    go false false false = eight

pub sized_pos : {w : ℕ} → Sized w → 0 < w
sized_pos one = lit< tt
sized_pos two = lit< tt
sized_pos four = lit< tt
sized_pos eight = lit< tt

pub sized_le : {w : ℕ} → Sized w → w ≤ 8
sized_le one = lit≤ tt
sized_le two = lit≤ tt
sized_le four = lit≤ tt
sized_le eight = lit≤ tt

-- the size by bounds
module _ (n : ℕ) where
  pub size_one : n < 0x100 → size_of n ≡ 1
  unfolding size_of rounded
  size_one h = rw (le-leb (needed 8 n) 1 (needed_le 8 1 n h))

  pub size_two : 0x100 ≤ n → n < 0x1_0000 → size_of n ≡ 2
  unfolding size_of rounded
  size_two g h = rw (lt-leb (needed 8 n) 1 (needed_gt 8 1 n (lit< tt) g), le-leb (needed 8 n) 2 (needed_le 8 2 n h))

  pub size_four : 0x1_0000 ≤ n → n < 0x1_0000_0000 → size_of n ≡ 4
  unfolding size_of rounded
  size_four g h =
      let two : 2 < needed 8 n = needed_gt 8 2 n (lit< tt) g in
      rw (lt-leb (needed 8 n) 1 (omega arith), lt-leb (needed 8 n) 2 two, le-leb (needed 8 n) 4 (needed_le 8 4 n h))

  pub size_eight : 0x1_0000_0000 ≤ n → size_of n ≡ 8
  unfolding size_of rounded
  size_eight g =
      let four : 4 < needed 8 n = needed_gt 8 4 n (lit< tt) g in
      rw (lt-leb (needed 8 n) 1 (omega arith), lt-leb (needed 8 n) 2 (omega arith), lt-leb (needed 8 n) 4 four)

pub ruleset size_by_bounds = (size_one, size_two, size_four, size_eight)
