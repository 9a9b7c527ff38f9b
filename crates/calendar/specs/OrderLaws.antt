-- The order of days and times is the order of their seconds.
use Rattle.std.specs.Prelude.{Bool, true, false, List, [], ◌∷◌, ◌≡◌, refl, ℕ, suc, ◌+◌, ◌-◌, ◌≤◌, ◌<◌, ltb, eqb, pos, ◌-ℤ◌}
use Rattle.std.proofs.Common.{sym, ◌∙◌, lt-ltb, le-ltb, ltb-true, ltb-false, eqb-true}
use native.Mathlib.Omega.{arith}
use Rattle.std.proofs.lemmas.Bool.{eqb-false}
use Rattle.std.specs.Int.Signed.{lt_z}
use Rattle.calendar.specs.declared.Time.{Time}
use Rattle.calendar.specs.Calendar.{days_in_year, days_in_month, days_before_year, days_before_month, days_since_one, clock_of, is_time, seconds_since_one, seconds_since_epoch}
use Rattle.calendar.specs.CountLaws.{below_total}
use Rattle.calendar.specs.EpochLaws.{epoch_is, before_epoch, after_epoch}
use Rattle.calendar.specs.Order.{before, fields_of, earlier}
use Rattle.calendar.specs.TimeLaws.{IsTime, time_says, from_one_year, day_in_month, day_in_year}

-- ---- an earlier field, with all fields before it the same, makes fewer seconds

module _ (t u : Time) (v : IsTime t) (w : IsTime u) where
  earlier_day : days_since_one t < days_since_one u → seconds_since_one t < seconds_since_one u
  unfolding seconds_since_one clock_of
  earlier_day h = omega arith

  earlier_clock : days_since_one t ≡ days_since_one u → clock_of t < clock_of u → seconds_since_one t < seconds_since_one u
  unfolding seconds_since_one
  earlier_clock e h = omega arith

  by_year : t.year < u.year → seconds_since_one t < seconds_since_one u
  unfolding days_since_one days_before_year
  by_year h =
      let d = days_before_month t.year t.month + (t.day - 1) in
      let i : d < days_in_year (suc (t.year - 1)) = rw (from_one_year t v) (day_in_year t v) in
      let l = below_total days_in_year (u.year - 1) (t.year - 1) d (omega arith) i in
      earlier_day (omega (arith, l))

  by_month : t.year ≡ u.year → t.month < u.month → seconds_since_one t < seconds_since_one u
  unfolding days_since_one days_before_month
  by_month e h =
      let l = below_total (days_in_month t.year) (u.month - 1) (t.month - 1) (t.day - 1) (omega arith) (day_in_month t v) in
      earlier_day (rw (← e) (omega (arith, l)))

  by_day : t.year ≡ u.year → t.month ≡ u.month → t.day < u.day → seconds_since_one t < seconds_since_one u
  unfolding days_since_one
  by_day e f h =
      let l : t.day - 1 < u.day - 1 = omega arith in
      earlier_day (rw (← e, ← f) (omega arith))

  same_days : t.year ≡ u.year → t.month ≡ u.month → t.day ≡ u.day → days_since_one t ≡ days_since_one u
  unfolding days_since_one
  same_days e f g = rw (e, f, g)

  same_seconds : days_since_one t ≡ days_since_one u → clock_of t ≡ clock_of u → seconds_since_one t ≡ seconds_since_one u
  unfolding seconds_since_one
  same_seconds d e = rw (d, e)

-- a field of the lists that are compared: it decides, or the fields behind it do
step :
    (a b : ℕ) (ts us : List ℕ) (x y : ℕ)
    → (a < b → x < y) → (b < a → y < x) → (a ≡ b → before ts us ≡ ltb x y)
    → before (a ∷ ts) (b ∷ us) ≡ ltb x y
unfolding before
step a b ts us x y lower higher same = go (ltb a b) refl (eqb a b) refl
  where
    go : (p : Bool) → ltb a b ≡ p → (q : Bool) → eqb a b ≡ q → before (a ∷ ts) (b ∷ us) ≡ ltb x y
    go true e q f = rw (e, before) (sym (lt-ltb x y (lower (ltb-true _ _ e))))
    go false e true f = rw (e, f, before) (same (eqb-true _ _ f))
    go false e false f =
        let g : b ≤ a = ltb-false _ _ e in
        let n : a ≡ b → ⊥ = eqb-false _ _ f in
        let l : y < x = higher (omega arith) in
        rw (e, f, before) (sym (le-ltb x y (omega arith)))

-- nothing is left to compare
all_same : (x y : ℕ) → x ≡ y → before [] [] ≡ ltb x y
unfolding before
all_same x y e = sym (le-ltb x y (omega arith))

-- ---- seconds since year one

order_since_one : (t u : Time) → IsTime t → IsTime u → earlier t u ≡ ltb (seconds_since_one t) (seconds_since_one u)
unfolding earlier fields_of clock_of
order_since_one t u v w =
    step _ _ _ _ x y (by_year t u v w) (by_year u t w v)
    (λ a. step _ _ _ _ x y (by_month t u v w a) (by_month u t w v (sym a))
    (λ b. step _ _ _ _ x y (by_day t u v w a b) (by_day u t w v (sym a) (sym b))
    (λ c.
    let d : days_since_one t ≡ days_since_one u = same_days t u v w a b c in
    let less : clock_of t < clock_of u → x < y = earlier_clock t u v w d in
    let more : clock_of u < clock_of t → y < x = earlier_clock u t w v (sym d) in
    step _ _ _ _ x y (λ h. less (omega arith)) (λ h. more (omega arith))
    (λ e. step _ _ _ _ x y (λ h. less (omega arith)) (λ h. more (omega arith))
    (λ f. step _ _ _ _ x y (λ h. less (omega arith)) (λ h. more (omega arith))
    (λ g. all_same x y (same_seconds t u v w d (omega arith))))))))
  where
    x : ℕ
    x = seconds_since_one t

    y : ℕ
    y = seconds_since_one u

-- ---- seconds since 2001

-- taking the same number off leaves the order
order_difference : (x y : ℕ) → lt_z (pos x -ℤ pos 63_113_904_000) (pos y -ℤ pos 63_113_904_000) ≡ ltb x y
order_difference x y = go (ltb x 63_113_904_000) refl (ltb y 63_113_904_000) refl
  where
    less : (m n : ℕ) → (x < y → m < n) → (y ≤ x → n ≤ m) → ltb m n ≡ ltb x y
    less m n f g = by (ltb x y) refl
      where
        by : (b : Bool) → ltb x y ≡ b → ltb m n ≡ ltb x y
        by true e = rw (lt-ltb m n (f (ltb-true _ _ e))) (sym e)
        by false e = rw (le-ltb m n (g (ltb-false _ _ e))) (sym e)

    go : (p : Bool) → ltb x 63_113_904_000 ≡ p → (q : Bool) → ltb y 63_113_904_000 ≡ q → lt_z (pos x -ℤ pos 63_113_904_000) (pos y -ℤ pos 63_113_904_000) ≡ ltb x y
    go true e true f =
        let h : x < 63_113_904_000 = ltb-true _ _ e in
        let g : y < 63_113_904_000 = ltb-true _ _ f in
        rw (before_epoch x h, before_epoch y g) (less (63_113_904_000 - suc y) (63_113_904_000 - suc x) (λ l. omega arith) (λ l. omega arith))
    go true e false f =
        let h : x < 63_113_904_000 = ltb-true _ _ e in
        let g : 63_113_904_000 ≤ y = ltb-false _ _ f in
        rw (before_epoch x h, after_epoch y g) (sym (lt-ltb x y (omega arith)))
    go false e true f =
        let h : 63_113_904_000 ≤ x = ltb-false _ _ e in
        let g : y < 63_113_904_000 = ltb-true _ _ f in
        rw (after_epoch x h, before_epoch y g) (sym (le-ltb x y (omega arith)))
    go false e false f =
        let h : 63_113_904_000 ≤ x = ltb-false _ _ e in
        let g : 63_113_904_000 ≤ y = ltb-false _ _ f in
        rw (after_epoch x h, after_epoch y g) (less (x - 63_113_904_000) (y - 63_113_904_000) (λ l. omega arith) (λ l. omega arith))

-- of two days and times the earlier one has fewer seconds, and no other
pub order_is : (t u : Time) → is_time t ≡ true → is_time u ≡ true → earlier t u ≡ lt_z (seconds_since_epoch t) (seconds_since_epoch u)
unfolding seconds_since_epoch
order_is t u h g = order_since_one t u (time_says t h) (time_says u g) ∙ rw epoch_is (sym (order_difference (seconds_since_one t) (seconds_since_one u)))
