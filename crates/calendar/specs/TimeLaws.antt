-- Days and times, and the seconds since year one: each is undone by the other.
use Rattle.std.specs.Prelude.{Bool, true, false, cond, ◌≡◌, refl, ltb}
use Rattle.std.proofs.lemmas.Bool.{false≢true}
use Rattle.std.proofs.Math.Path.{sym, ap}
use Rattle.std.proofs.Common.{◌∙◌, ltb-false, leb-true, le-ltb, le-leb}
use Prim.Native.Nat.{ℕ, suc, ◌+◌, ◌-◌, ◌*◌, ◌/◌, ◌%◌, ◌≤◌, ◌<◌}
use Rattle.std.proofs.Math.Nat.{add_assoc}
use native.Mathlib.Omega.{arith}
use Rattle.calendar.specs.declared.Time.{Time}
use Rattle.calendar.specs.Count.{total, count_off}
use Rattle.calendar.specs.CountLaws.{place, below_total, counted_first, Found, found}
use Rattle.calendar.specs.Calendar.{days_in_year, days_in_month, days_before_year, days_before_month, days_since_one, clock_of, is_day, is_clock, is_time, seconds_since_one, time_since_one}
use Rattle.calendar.specs.YearLaws.{cycles}
use Rattle.calendar.specs.MonthLaws.{months_year}

-- ---- what it says that there is such a day and time

pub record IsTime (t : Time) : Type 0 where
  pub year_from : 1 ≤ t.year
  pub year_to : t.year ≤ 9999
  pub month_from : 1 ≤ t.month
  pub month_to : t.month ≤ 12
  pub day_from : 1 ≤ t.day
  pub day_to : t.day ≤ days_in_month t.year t.month
  pub hour_to : t.hour ≤ 23
  pub minute_to : t.minute ≤ 59
  pub second_to : t.second ≤ 59

failed : (b x : Bool) → cond b false x ≡ true → (b ≡ false) × (x ≡ true)
failed true x e = absurd (false≢true e)
failed false x e = (refl, e)

passed : (b x : Bool) → cond b x false ≡ true → (b ≡ true) × (x ≡ true)
passed true x e = (refl, e)
passed false x e = absurd (false≢true e)

pub time_says : (t : Time) → is_time t ≡ true → IsTime t
unfolding is_time is_day is_clock
time_says t e =
    let both = passed (is_day t.year t.month t.day) _ e in
    let p1 = failed (ltb t.year 1) _ both.0 in
    let p2 = failed (ltb 9999 t.year) _ p1.1 in
    let p3 = failed (ltb t.month 1) _ p2.1 in
    let p4 = failed (ltb 12 t.month) _ p3.1 in
    let p5 = failed (ltb t.day 1) _ p4.1 in
    let p6 = failed (ltb 23 t.hour) _ both.1 in
    let p7 = failed (ltb 59 t.minute) _ p6.1 in
    record {
      year_from = ltb-false _ _ p1.0;
      year_to = ltb-false _ _ p2.0;
      month_from = ltb-false _ _ p3.0;
      month_to = ltb-false _ _ p4.0;
      day_from = ltb-false _ _ p5.0;
      day_to = leb-true _ _ p5.1;
      hour_to = ltb-false _ _ p6.0;
      minute_to = ltb-false _ _ p7.0;
      second_to = leb-true _ _ p7.1;
    }

pub says_time : (t : Time) → IsTime t → is_time t ≡ true
unfolding is_time is_day is_clock
says_time t v =
    rw (
      le-ltb _ _ v.year_from,
      le-ltb _ _ v.year_to,
      le-ltb _ _ v.month_from,
      le-ltb _ _ v.month_to,
      le-ltb _ _ v.day_from,
      le-leb _ _ v.day_to,
      le-ltb _ _ v.hour_to,
      le-ltb _ _ v.minute_to,
      le-leb _ _ v.second_to,
    )

-- ---- days

pub all_years : total days_in_year 9999 ≡ 3_652_059
all_years = cycles 24 3 24 3 (omega arith) (omega arith) (omega arith)

-- a day of a month is one of the year's, and a day of a year one of the range's
pub in_year : (y m d : ℕ) → m < 12 → d < days_in_month y (suc m) → total (days_in_month y) m + d < days_in_year y
in_year y m d l h = rw (← months_year y) (below_total (days_in_month y) 12 m d l h)

pub in_range_law : (y u : ℕ) → y < 9999 → u < days_in_year (suc y) → total days_in_year y + u < 3_652_059
in_range_law y u l h = rw (← all_years) (below_total days_in_year 9999 y u l h)

-- the counts of a day's year and month
pub year_of_day : (y u : ℕ) → y < 9999 → u < days_in_year (suc y) → count_off days_in_year 9998 1 (total days_in_year y + u) ≡ place (suc y) u
year_of_day y u l h = counted_first days_in_year 9998 (total days_in_year y + u) y u refl h (omega arith)

pub month_of_day : (y m d : ℕ) → m < 12 → d < days_in_month y (suc m) → count_off (days_in_month y) 11 1 (total (days_in_month y) m + d) ≡ place (suc m) d
month_of_day y m d l h = counted_first (days_in_month y) 11 (total (days_in_month y) m + d) m d refl h (omega arith)

-- ---- seconds of a day and time

clock_sum : (n : ℕ) → n / 86400 * 86400 + (n % 86400 / 3600 * 3600 + n % 86400 % 3600 / 60 * 60 + n % 86400 % 60) ≡ n
clock_sum n =
    let t = n % 86400 in
    let p : t % 3600 % 60 ≡ t % 60 = omega arith in
    omega arith

-- the quotients and remainders of seconds
pub record Clock (n d h m s : ℕ) : Type 0 where
  pub days : n / 86400 ≡ d
  pub hours : n % 86400 / 3600 ≡ h
  pub minutes : n % 86400 % 3600 / 60 ≡ m
  pub seconds : n % 86400 % 60 ≡ s

pub clock : (d h m s : ℕ) → h ≤ 23 → m ≤ 59 → s ≤ 59 → Clock (d * 86400 + (h * 3600 + m * 60 + s)) d h m s
clock d h m s p q r = record { days = omega arith; hours = omega arith; minutes = omega arith; seconds = omega arith }

module _ (t : Time) (v : IsTime t) where
  pub from_one_year : suc (t.year - 1) ≡ t.year
  from_one_year = omega arith

  pub from_one_month : suc (t.month - 1) ≡ t.month
  from_one_month = omega arith

  pub day_in_month : t.day - 1 < days_in_month t.year (suc (t.month - 1))
  day_in_month = rw from_one_month (omega arith)

  pub day_in_year : days_before_month t.year t.month + (t.day - 1) < days_in_year t.year
  unfolding days_before_month
  day_in_year = in_year t.year (t.month - 1) (t.day - 1) (omega arith) day_in_month

  pub days_in_range : days_since_one t < 3_652_059
  unfolding days_since_one days_before_year
  days_in_range =
      rw add_assoc (in_range_law (t.year - 1) (days_before_month t.year t.month + (t.day - 1)) (omega arith) (rw from_one_year day_in_year))

  pub year_again : count_off days_in_year 9998 1 (days_since_one t) ≡ place t.year (days_before_month t.year t.month + (t.day - 1))
  unfolding days_since_one days_before_year
  year_again =
      rw add_assoc (year_of_day (t.year - 1) (days_before_month t.year t.month + (t.day - 1)) (omega arith) (rw from_one_year day_in_year) ∙ ap (λ (y : ℕ). place y (days_before_month t.year t.month + (t.day - 1))) from_one_year)

  pub month_again : count_off (days_in_month t.year) 11 1 (days_before_month t.year t.month + (t.day - 1)) ≡ place t.month (t.day - 1)
  unfolding days_before_month
  month_again = month_of_day t.year (t.month - 1) (t.day - 1) (omega arith) day_in_month ∙ ap (λ (m : ℕ). place m (t.day - 1)) from_one_month

  -- the day and time of its seconds is this one again
  pub time_again : time_since_one (seconds_since_one t) ≡ t
  unfolding time_since_one seconds_since_one clock_of
  time_again =
      let k = clock (days_since_one t) t.hour t.minute t.second v.hour_to v.minute_to v.second_to in
      let d : t.day - 1 + 1 ≡ t.day = omega arith in
      rw (k.days, k.hours, k.minutes, k.seconds, year_again, month_again, d)

  pub seconds_in_range : seconds_since_one t < 315_537_897_600
  unfolding seconds_since_one clock_of
  seconds_in_range = omega (arith, days_in_range)

-- every second of the range is that of its day and time
module _ (n : ℕ) (l : n < 315_537_897_600) where
  year_found : Found days_in_year 9999 (n / 86400)
  year_found = found days_in_year 9999 (n / 86400) (rw all_years (omega arith))

  month_found : Found (days_in_month (suc year_found.before)) 12 year_found.rest
  month_found = found (days_in_month (suc year_found.before)) 12 year_found.rest (rw months_year year_found.inside)

  the_time : time_since_one n ≡ record { year = suc year_found.before; month = suc month_found.before; day = month_found.rest + 1; hour = n % 86400 / 3600; minute = n % 86400 % 3600 / 60; second = n % 86400 % 60 }
  unfolding time_since_one
  the_time =
      let f = year_found in
      let g = month_found in
      rw (
        counted_first days_in_year 9998 (n / 86400) f.before f.rest f.sum f.inside (omega arith),
        counted_first (days_in_month (suc f.before)) 11 f.rest g.before g.rest g.sum g.inside (omega arith),
      )

  pub since_is_time : IsTime (time_since_one n)
  since_is_time =
      let f = year_found in
      let g = month_found in
      let a : f.before < 9999 = f.near in
      let b : g.before < 12 = g.near in
      let d : g.rest < days_in_month (suc f.before) (suc g.before) = g.inside in
      rw the_time
      (record {
        year_from = omega arith;
        year_to = omega arith;
        month_from = omega arith;
        month_to = omega arith;
        day_from = omega arith;
        day_to = omega arith;
        hour_to = omega arith;
        minute_to = omega arith;
        second_to = omega arith;
      })

  pub seconds_again : seconds_since_one (time_since_one n) ≡ n
  unfolding seconds_since_one days_since_one clock_of days_before_year days_before_month
  seconds_again =
      let f = year_found in
      let g = month_found in
      let p : suc f.before - 1 ≡ f.before = omega arith in
      let q : suc g.before - 1 ≡ g.before = omega arith in
      let r : g.rest + 1 - 1 ≡ g.rest = omega arith in
      let e : total days_in_year f.before + total (days_in_month (suc f.before)) g.before + g.rest ≡ n / 86400 = add_assoc _ _ _ ∙ ap (λ (x : ℕ). total days_in_year f.before + x) (sym g.sum) ∙ sym f.sum in
      rw (the_time, p, q, r, e) (clock_sum n)
