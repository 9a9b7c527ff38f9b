-- The floor is the greatest whole number at or below a number; and since both ends of the range are whole, a number lies in it exactly when its
-- floor does.
use Rattle.std.specs.Prelude.{Bool, ◌≡◌, ℕ, zero, suc, ◌+◌, ◌*◌, ◌/◌, ◌%◌, ◌≤◌, ◌<◌, ltb, leb, ℤ, pos, negsuc, neg_ℤ, Float, Option, None, Some}
use Rattle.std.proofs.Math.Bool.{true, false, cond}
use Rattle.std.proofs.Common.{true≢false, sym, ◌∙◌, div-lt_iff_lt-mul, le-div_iff_mul-le, mul-le-mul_right, add-mul, one-mul, mul-pos}
use Rattle.std.proofs.lemmas.Bool.{false≢true}
use Rattle.std.proofs.Math.Path.{refl}
use Rattle.std.proofs.Math.Nat.{div-add-mod', mod-lt, mul-mod_left}
use native.Mathlib.Omega.{arith}
use borrow.Author.Tests.{lt-ltb, le-ltb, le-leb, lt-leb, ltb-true, ltb-false, leb-true, leb-false, eqb-true, eqb-false}
use Rattle.std.proofs.Math.Dec.{eqb}
use Rattle.std.specs.Float.{nan, inf, fin, binary64}
use Rattle.std.specs.Float.Ieee.{up, down, of_bits}
use Rattle.std.specs.Int.Signed.{le_z}
use Rattle.calendar.specs.declared.Time.{Time}
use Rattle.calendar.specs.BitsLaws.{down_pos}
use Rattle.calendar.specs.Calendar.{time_since_one}
use Rattle.calendar.specs.Date.{Said, gives, refused, since_whole, since_floor, since_of, time_since, calendar_of}
use Rattle.calendar.specs.Floor.{ceiling, floor_fraction, floor_of, floor_of_bits}
use Rattle.calendar.specs.Number.{in_range, lies, at_or_below}
use Rattle.calendar.specs.RangeLaws.{since_below, since_far_below}

-- ---- quotients, rounded up

module _ (a b : ℕ) (h : 0 < b) where
  ceiling_reaches : a ≤ ceiling a b * b
  unfolding ceiling
  ceiling_reaches = go (eqb (a % b) 0) refl
    where
      go : (t : Bool) → eqb (a % b) 0 ≡ t → a ≤ cond t (a / b) (a / b + 1) * b
      go true e = omega (arith, eqb-true (a % b) 0 e, div-add-mod' a b)
      go false e = rw (add-mul (a / b) 1 b, one-mul) (omega (arith, mod-lt a h, div-add-mod' a b))

  ceiling_least : (n : ℕ) → a ≤ n * b → ceiling a b ≤ n
  unfolding ceiling
  ceiling_least n l = go (eqb (a % b) 0) refl
    where
      go : (t : Bool) → eqb (a % b) 0 ≡ t → cond t (a / b) (a / b + 1) ≤ n
      go true e =
          let k : a < (n + 1) * b = rw (add-mul n 1 b, one-mul) (omega arith) in
          omega (arith, (div-lt_iff_lt-mul h).1 k)
      go false e =
          let m : a ≡ n * b → ⊥ = λ p. eqb-false (a % b) 0 e (rw p (mul-mod_left n b)) in
          let k : a < n * b = omega arith in
          omega (arith, (div-lt_iff_lt-mul h).1 k)

  -- fewer multiples of b don't reach a
  ceiling_above : (n : ℕ) → n * b < a → n < ceiling a b
  ceiling_above n l = go (ltb n (ceiling a b)) refl
    where
      go : (t : Bool) → ltb n (ceiling a b) ≡ t → n < ceiling a b
      go true e = ltb-true _ _ e
      go false e = absurd (let m : ceiling a b * b ≤ n * b = mul-le-mul_right b (ltb-false n (ceiling a b) e) in omega (arith, ceiling_reaches))

-- ---- what a floor is

-- two tests that pass together
same : (m n x y : ℕ) → (m ≤ n → x ≤ y) → (n < m → y < x) → leb m n ≡ leb x y
same m n x y f g = go (leb m n) refl
  where
    go : (t : Bool) → leb m n ≡ t → leb m n ≡ leb x y
    go true e = e ∙ sym (le-leb x y (f (leb-true m n e)))
    go false e = e ∙ sym (lt-leb x y (g (leb-false m n e)))

no_multiple : (n b : ℕ) → 0 < b → n * b ≤ 0 → n ≤ 0
no_multiple zero b h l = omega arith
no_multiple (suc n) b h l = absurd (let m : 0 < suc n * b = mul-pos (let k : 0 < suc n = omega arith in k) h in omega arith)

some_multiple : (n b : ℕ) → 0 < n * b → 0 < n
some_multiple zero b l = absurd (omega arith)
some_multiple (suc n) b l = omega arith

above_none : (a b c : ℕ) → (a ≤ 0 * b → suc c ≤ 0) → 0 < a
above_none zero b c g = absurd (let k : suc c ≤ 0 = g (omega arith) in omega arith)
above_none (suc a) b c g = omega arith

-- c is a / b rounded up
below_minus : (z : ℤ) (a b c : ℕ) → 0 < b → a ≤ c * b → ((n : ℕ) → n * b < a → n < c) → ((n : ℕ) → a ≤ n * b → c ≤ n) → at_or_below z true a b ≡ le_z z (neg_ℤ (pos c))
unfolding at_or_below
below_minus (pos n) a b zero h r f g = same (n * b + a) 0 n 0 (λ l. no_multiple n b h (omega arith)) (λ l. some_multiple n b (omega arith))
below_minus (pos n) a b (suc c) h r f g = lt-leb (n * b + a) 0 (omega (arith, above_none a b c (g 0)))
below_minus (negsuc k) a b zero h r f g = le-leb a (suc k * b) (omega arith)
below_minus (negsuc k) a b (suc c) h r f g = same a (suc k * b) c k (λ l. omega (arith, g (suc k) l)) (λ l. omega (arith, f (suc k) l))

-- a whole number is at or below a fraction exactly when it is at or below the fraction's floor
pub floor_greatest : (z : ℤ) (s : Bool) (a b : ℕ) → 0 < b → at_or_below z s a b ≡ le_z z (floor_fraction s a b)
unfolding at_or_below floor_fraction
floor_greatest (pos n) false a b h = same (n * b) a n (a / b) (λ l. (le-div_iff_mul-le h).1 l) (λ l. (div-lt_iff_lt-mul h).1 l)
floor_greatest (negsuc k) false a b h = refl
floor_greatest (pos n) true a b h = below_minus (pos n) a b (ceiling a b) h (ceiling_reaches a b h) (ceiling_above a b h) (ceiling_least a b h)
floor_greatest (negsuc k) true a b h = below_minus (negsuc k) a b (ceiling a b) h (ceiling_reaches a b h) (ceiling_above a b h) (ceiling_least a b h)

-- ---- the range

judged : (s : Bool) (m : ℕ) (e : ℤ) → lies (since_whole (floor_fraction s (m * up e) (down e))) ≡ in_range (fin s m e)
unfolding floor_fraction in_range lies since_whole
judged false m e = go (ltb (m * up e / down e) 252_423_993_600) refl
  where
    go : (t : Bool) → ltb (m * up e / down e) 252_423_993_600 ≡ t → lies (since_whole (pos (m * up e / down e))) ≡ ltb (m * up e) (252_423_993_600 * down e)
    go true p = rw (p, since_whole) (sym (lt-ltb _ _ ((div-lt_iff_lt-mul (down_pos e)).0 (ltb-true _ _ p))))
    go false p = rw (p, since_whole) (sym (le-ltb _ _ ((le-div_iff_mul-le (down_pos e)).0 (ltb-false _ _ p))))
judged true m e = go (leb (m * up e) (63_113_904_000 * down e)) refl
  where
    a : ℕ
    a = m * up e

    go : (t : Bool) → leb a (63_113_904_000 * down e) ≡ t → lies (since_whole (neg_ℤ (pos (ceiling a (down e))))) ≡ leb a (63_113_904_000 * down e)
    go true p = rw (since_below (ceiling a (down e)) (ceiling_least a (down e) (down_pos e) 63_113_904_000 (leb-true _ _ p))) (sym p)
    go false p = rw (since_far_below (ceiling a (down e)) (ceiling_above a (down e) (down_pos e) 63_113_904_000 (leb-false _ _ p))) (sym p)

outside : (s : Option ℕ) → lies s ≡ false → time_since s ≡ refused 30
unfolding lies time_since
outside (Some n) e = absurd (true≢false e)
outside None e = refl

pub record Given (r : Said Time) : Type 0 where
  pub time : Time
  pub is : r ≡ gives time

inside : (s : Option ℕ) → lies s ≡ true → Given (time_since s)
unfolding lies time_since
inside (Some n) e = record { time = time_since_one n; is = refl }
inside None e = absurd (false≢true e)

-- judging the number and judging its floor is the same
pub number_judged : (x : Float) → lies (since_floor (floor_of x)) ≡ in_range x
unfolding floor_of since_floor lies in_range
number_judged nan = refl
number_judged (inf s) = refl
number_judged (fin s m e) = judged s m e

-- so 30 is given exactly where the number lies outside the range, is infinite, or is none
pub refused_exactly : (b : ℕ) → in_range (of_bits binary64 b) ≡ false → calendar_of b ≡ refused 30
unfolding calendar_of since_of floor_of_bits
refused_exactly b h = outside (since_floor (floor_of (of_bits binary64 b))) (number_judged (of_bits binary64 b) ∙ h)

pub given_exactly : (b : ℕ) → in_range (of_bits binary64 b) ≡ true → Given (calendar_of b)
unfolding calendar_of since_of floor_of_bits
given_exactly b h = inside (since_floor (floor_of (of_bits binary64 b))) (number_judged (of_bits binary64 b) ∙ h)
