-- Laws of the floor of 64 bits: what the exponent's field and the digits say of it.
use Rattle.std.specs.Prelude.{Bool, true, false, cond, ◌≡◌, refl, ℕ, zero, suc, ◌+◌, ◌-◌, ◌*◌, ◌/◌, ◌%◌, ◌^◌, ◌≤◌, ◌<◌, leb, eqb, ℤ, pos, negsuc, neg_ℤ, None, Some}
use Rattle.std.proofs.Common.{sym, ap, ap₂, subst, ◌∙◌, mul-one, one-mul, mul_comm, mul_assoc, mul-pos, div-add-mod', mod-eq_of_lt, lt_of_lt_of_le, le-div_iff_mul-le, mul-le-mul, add-zero, arith, le-ltb, le-leb, eq-eqb, ne_eqb, eqb-true, lit<, pow_pos, pow_mono, pow-add, shl_lt, shr_lt, shl_exact}
use Rattle.std.proofs.Math.Nat.{mul-mod_left, mul-div-mul_right, eq_of_mul-eq-mul_left, div-eq_of_lt}
use Rattle.std.proofs.lemmas.Bool.{lt-leb, eqb-false}
use Rattle.std.specs.Float.{nan, inf, binary64}
use Rattle.std.specs.Float.Ieee.{up, down, minus, odd, of_fields, of_bits}
use Rattle.std.specs.Int.Count.{count_trailing_zeros}
use Rattle.std.specs.Float.Ieee.Digits.{odd_val}
use Rattle.calendar.specs.declared.floor.Split.{Split}
use Rattle.calendar.specs.Date.{since_whole, since_floor, since_of}
use Rattle.calendar.specs.Floor.{ceiling, floor_fraction, floor_of, floor_of_bits}
use Rattle.calendar.specs.Split.{units_at, split_of}
use Rattle.calendar.specs.RangeLaws.{since_far_below}

-- ---- equal fractions have equal floors

same_test : (x y : ℕ) → (x ≡ 0 → y ≡ 0) → (y ≡ 0 → x ≡ 0) → eqb x 0 ≡ eqb y 0
same_test x y f g = go (eqb x 0) refl
  where
    go : (b : Bool) → eqb x 0 ≡ b → eqb x 0 ≡ eqb y 0
    go true e = rw (eq-eqb y 0 (f (eqb-true _ _ e))) e
    go false e = rw (ne_eqb y 0 (λ h. eqb-false _ _ e (g h))) e

module _ (a b c d : ℕ) (hb : 0 < b) (hd : 0 < d) (e : a * d ≡ c * b) where
  pub same_quotient : a / b ≡ c / d
  same_quotient = sym (mul-div-mul_right a b hd) ∙ ap₂ (λ (x y : ℕ). x / y) e (mul_comm b d) ∙ mul-div-mul_right c d hb

  exact_too : a % b ≡ 0 → c % d ≡ 0
  exact_too h =
      let q = a / b in
      let p : q * b ≡ a = sym (add-zero (q * b)) ∙ ap (λ (x : ℕ). q * b + x) (sym h) ∙ div-add-mod' a b in
      let r : b * (q * d) ≡ b * c = sym (mul_assoc b q d) ∙ ap (λ (x : ℕ). x * d) (mul_comm b q ∙ p) ∙ e ∙ mul_comm c b in
      let s : q * d ≡ c = eq_of_mul-eq-mul_left b hb (q * d) c r in
      rw (← s) (mul-mod_left q d)

pub same_exact : (a b c d : ℕ) → 0 < b → 0 < d → a * d ≡ c * b → eqb (a % b) 0 ≡ eqb (c % d) 0
same_exact a b c d hb hd e = same_test (a % b) (c % d) (exact_too a b c d hb hd e) (exact_too c d a b hd hb (sym e))

pub same_fraction : (s : Bool) (a b c d : ℕ) → 0 < b → 0 < d → a * d ≡ c * b → floor_fraction s a b ≡ floor_fraction s c d
unfolding floor_fraction ceiling
same_fraction false a b c d hb hd e = ap pos (same_quotient a b c d hb hd e)
same_fraction true a b c d hb hd e = rw (same_quotient a b c d hb hd e, same_exact a b c d hb hd e)

-- ---- the fields

pub down_pos : (e : ℤ) → 0 < down e
down_pos (pos k) = lit< tt
down_pos (negsuc k) = pow_pos (suc k)

floor_odd : (d : ℕ) (s : Bool) (q k l : ℕ) → floor_of (odd d s q k l) ≡ Some (floor_fraction s (q * 2 ^ k) (2 ^ l))
unfolding odd floor_of
floor_odd d s zero k l = ap Some (same_fraction s (0 * up (pos 0)) (down (pos 0)) (0 * 2 ^ k) (2 ^ l) (down_pos (pos 0)) (pow_pos l) (odd_val d s zero k l))
floor_odd d s (suc q) k l =
    let t = count_trailing_zeros d (suc q) in
    let e = minus (k + t) l in
    ap Some (same_fraction s (suc q / 2 ^ t * up e) (down e) (suc q * 2 ^ k) (2 ^ l) (down_pos e) (pow_pos l) (odd_val d s (suc q) k l))

floor_fields : (s : Bool) (x t : ℕ) → (x ≡ 2047 → ⊥) → floor_of (of_fields binary64 s x t) ≡ Some (floor_fraction s (units_at x t) (2 ^ 1074))
unfolding of_fields units_at
floor_fields s zero t h = floor_odd 53 s t 0 1074 ∙ ap (λ (a : ℕ). Some (floor_fraction s a (2 ^ 1074))) (mul-one t)
floor_fields s (suc x) t h = rw (ne_eqb (suc x) 2047 h) (floor_odd 53 s (2 ^ 52 + t) x 1074)

no_floor : (s : Bool) (x t : ℕ) → x ≡ 2047 → floor_of (of_fields binary64 s x t) ≡ None
unfolding of_fields floor_of
no_floor s x t h = rw h (go (eqb t 0))
  where
    go : (b : Bool) → floor_of (cond b (inf s) nan) ≡ None
    go true = refl
    go false = refl

-- ---- how large they are

pub units_below : (x t : ℕ) → t < 2 ^ 52 → units_at x t < 2 ^ (52 + x)
unfolding units_at
units_below zero t h = h
units_below (suc x) t h =
    let l : 2 ^ 52 + t < 2 ^ 53 = omega arith in
    let e : 53 + x ≡ 52 + suc x = omega arith in
    subst (λ (n : ℕ). (2 ^ 52 + t) * 2 ^ x < 2 ^ n) e (shl_lt 53 x l)

pub units_above : (x t : ℕ) → 1061 ≤ x → 2 ^ 38 ≤ units_at x t / 2 ^ 1074
unfolding units_at
units_above zero t h = absurd (omega arith)
units_above (suc x) t h =
    let l : 2 ^ 52 ≤ 2 ^ 52 + t = omega arith in
    let k : 1060 ≤ x = omega arith in
    (le-div_iff_mul-le (pow_pos 1074)).1 (mul-le-mul l (pow_mono k))

-- ---- only zero has no units

no_units : (x t : ℕ) → units_at x t ≡ 0 → (x ≡ 0) × (t ≡ 0)
unfolding units_at
no_units zero t e = (refl, e)
no_units (suc x) t e =
    let h : 0 < (2 ^ 52 + t) * 2 ^ x = mul-pos (let k : 0 < 2 ^ 52 + t = omega arith in k) (pow_pos x) in
    absurd (omega arith)

units_of_none : units_at 0 0 ≡ 0
unfolding units_at
units_of_none = refl

-- ---- the whole part and what is left of it, as they are worked out

-- a magnitude below one
pub split_small : (low : ℕ) → low / 2 ^ 52 < 1023 → split_of low ≡ record { whole = 0; exact = eqb low 0 }
unfolding split_of
split_small low h =
    let x = low / 2 ^ 52 in
    let t = low % 2 ^ 52 in
    let l : units_at x t < 2 ^ 1074 = lt_of_lt_of_le (units_below x t (omega arith)) (pow_mono (let k : 52 + x ≤ 1074 = omega arith in k)) in
    rw (div-eq_of_lt l, mod-eq_of_lt l) (ap (λ (b : Bool). split 0 b) (same_test (units_at x t) low zero_is is_zero))
  where
    split : ℕ → Bool → Split
    split n b = record { whole = n; exact = b }

    zero_is : units_at (low / 2 ^ 52) (low % 2 ^ 52) ≡ 0 → low ≡ 0
    zero_is e = let z = no_units (low / 2 ^ 52) (low % 2 ^ 52) e in omega arith

    is_zero : low ≡ 0 → units_at (low / 2 ^ 52) (low % 2 ^ 52) ≡ 0
    is_zero e =
        let p : low / 2 ^ 52 ≡ 0 = omega arith in
        let q : low % 2 ^ 52 ≡ 0 = omega arith in
        ap₂ units_at p q ∙ units_of_none

-- a magnitude from one on: the digits, cut at the point
shifted : (x q j : ℕ) → x + j ≡ 1074 → q * 2 ^ x * 2 ^ j ≡ q * 2 ^ 1074
shifted x q j e = mul_assoc q (2 ^ x) (2 ^ j) ∙ ap (λ (n : ℕ). q * n) (sym (pow-add 2 x j) ∙ ap (λ (n : ℕ). 2 ^ n) e)

pub split_large : (x t : ℕ) → 1023 ≤ x → x < 1061 → (units_at x t / 2 ^ 1074 ≡ (2 ^ 52 + t) / 2 ^ (1075 - x)) × (eqb (units_at x t % 2 ^ 1074) 0 ≡ eqb ((2 ^ 52 + t) % 2 ^ (1075 - x)) 0)
unfolding units_at
split_large zero t h l = absurd (omega arith)
split_large (suc x) t h l =
    let q = 2 ^ 52 + t in
    let j = 1075 - suc x in
    let e : q * 2 ^ x * 2 ^ j ≡ q * 2 ^ 1074 = shifted x q j (omega arith) in
    (same_quotient (q * 2 ^ x) (2 ^ 1074) q (2 ^ j) (pow_pos 1074) (pow_pos j) e, same_exact (q * 2 ^ x) (2 ^ 1074) q (2 ^ j) (pow_pos 1074) (pow_pos j) e)

pub unit_is : (j : ℕ) → j ≤ 63 → 1 * 2 ^ j % 2 ^ 64 ≡ 2 ^ j
unit_is j h = shl_exact {a = 1} 1 j 64 (lit< tt) (omega arith) ∙ one-mul (2 ^ j)

pub whole_small : (low : ℕ) → low / 2 ^ 52 < 1061 → (split_of low).whole < 2 ^ 38
unfolding split_of
whole_small low h =
    let x = low / 2 ^ 52 in
    shr_lt 38 1074 (lt_of_lt_of_le (units_below x (low % 2 ^ 52) (omega arith)) (pow_mono (let k : 52 + x ≤ 1112 = omega arith in k)))

-- ---- the floor of 64 bits

-- the sign, the field and the digits of a pattern
pub floor_bits : (b : ℕ) → (b % 2 ^ 63 / 2 ^ 52 ≡ 2047 → ⊥) → floor_of_bits b ≡ Some (floor_fraction (leb (2 ^ 63) b) (units_at (b % 2 ^ 63 / 2 ^ 52) (b % 2 ^ 52)) (2 ^ 1074))
unfolding of_bits floor_of_bits
floor_bits b h = floor_fields (leb (2 ^ 63) b) (b % 2 ^ 63 / 2 ^ 52) (b % 2 ^ 52) h

pub no_floor_bits : (b : ℕ) → b % 2 ^ 63 / 2 ^ 52 ≡ 2047 → floor_of_bits b ≡ None
unfolding of_bits floor_of_bits
no_floor_bits b h = no_floor (leb (2 ^ 63) b) (b % 2 ^ 63 / 2 ^ 52) (b % 2 ^ 52) h

far : (s : Bool) (a c : ℕ) → 2 ^ 38 ≤ a / c → since_whole (floor_fraction s a c) ≡ None
unfolding floor_fraction ceiling since_whole
far false a c h = rw (le-ltb (a / c) 252_423_993_600 (omega arith))
far true a c h = since_far_below (cond (eqb (a % c) 0) (a / c) (a / c + 1)) (go (eqb (a % c) 0))
  where
    go : (b : Bool) → 63_113_904_000 < cond b (a / c) (a / c + 1)
    go true = omega arith
    go false = omega arith

-- from 2 ^ 38 on nothing is in the range
pub since_far : (b : ℕ) → 1061 * 2 ^ 52 ≤ b % 2 ^ 63 → since_of b ≡ None
unfolding since_of since_floor
since_far b h = go (eqb (b % 2 ^ 63 / 2 ^ 52) 2047) refl
  where
    go : (t : Bool) → eqb (b % 2 ^ 63 / 2 ^ 52) 2047 ≡ t → since_of b ≡ None
    go true e = rw (no_floor_bits b (eqb-true _ _ e), since_of)
    go false e =
        let x = b % 2 ^ 63 / 2 ^ 52 in
        rw (floor_bits b (eqb-false _ _ e), since_of) (far (leb (2 ^ 63) b) (units_at x (b % 2 ^ 52)) (2 ^ 1074) (units_above x (b % 2 ^ 52) (omega arith)))

-- below that, it is the floor of the split magnitude with its sign
pub since_near : (b : ℕ) → b % 2 ^ 63 < 1061 * 2 ^ 52 → since_of b ≡ since_whole (floor_fraction (leb (2 ^ 63) b) (units_at (b % 2 ^ 63 / 2 ^ 52) (b % 2 ^ 63 % 2 ^ 52)) (2 ^ 1074))
unfolding since_of since_floor
since_near b h =
    let e : b % 2 ^ 63 % 2 ^ 52 ≡ b % 2 ^ 52 = omega arith in
    rw (floor_bits b (omega arith), e)

module _ (b : ℕ) (h : b % 2 ^ 63 < 1061 * 2 ^ 52) where
  pub since_positive : b < 2 ^ 63 → since_of b ≡ since_whole (pos (split_of (b % 2 ^ 63)).whole)
  unfolding split_of floor_fraction
  since_positive l = since_near b h ∙ rw (lt-leb (2 ^ 63) b l)

  pub since_exact : 2 ^ 63 ≤ b → (split_of (b % 2 ^ 63)).exact ≡ true → since_of b ≡ since_whole (neg_ℤ (pos (split_of (b % 2 ^ 63)).whole))
  unfolding split_of floor_fraction ceiling
  since_exact l e = since_near b h ∙ rw (le-leb (2 ^ 63) b l, e)

  pub since_between : 2 ^ 63 ≤ b → (split_of (b % 2 ^ 63)).exact ≡ false → since_of b ≡ since_whole (neg_ℤ (pos ((split_of (b % 2 ^ 63)).whole + 1)))
  unfolding split_of floor_fraction ceiling
  since_between l e = since_near b h ∙ rw (le-leb (2 ^ 63) b l, e)
