-- A day has 86,400 seconds: those from its midnight on are days and times of that day, and it has no others.
use Rattle.std.specs.Prelude.{true, ◌≡◌, ℕ, ◌+◌, ◌-◌, ◌*◌, ◌/◌, ◌<◌}
use Rattle.std.proofs.Common.{arith}
use Rattle.calendar.specs.declared.Time.{Time}
use Rattle.calendar.specs.Calendar.{days_since_one, clock_of, is_time, seconds_since_one, time_since_one}
use Rattle.calendar.specs.TimeLaws.{IsTime, time_says, says_time, days_in_range, year_again, month_again, since_is_time, seconds_again}

abbrev pub midnight : Time → ℕ
midnight t = days_since_one t * 86400

pub record SameDay (t u : Time) : Type 0 where
  pub year : t.year ≡ u.year
  pub month : t.month ≡ u.month
  pub day : t.day ≡ u.day

-- a second of t's day: it is less than 86,400 after midnight
pub record InDay (t u : Time) : Type 0 where
  pub after : ℕ
  pub few : after < 86400
  pub sum : seconds_since_one u ≡ midnight t + after

pub day_only : (t u : Time) → is_time u ≡ true → SameDay t u → InDay t u
unfolding days_since_one seconds_since_one clock_of
day_only t u h s =
    let v = time_says u h in
    record { after = clock_of u; few = omega arith; sum = rw (s.year, s.month, s.day) }

-- a second after midnight as a day and time
pub record DayTime (t u : Time) (k : ℕ) : Type 0 where
  pub there : is_time u ≡ true
  pub same : SameDay t u
  pub sum : seconds_since_one u ≡ midnight t + k

on_day : (t : Time) → IsTime t → (k : ℕ) → k < 86400 → SameDay t (time_since_one (midnight t + k))
unfolding time_since_one
on_day t v k l =
    let d : (midnight t + k) / 86400 ≡ days_since_one t = omega arith in
    let e : t.day ≡ t.day - 1 + 1 = omega arith in
    record { year = rw (d, year_again t v); month = rw (d, year_again t v, month_again t v); day = rw (d, year_again t v, month_again t v) e }

pub day_all : (t : Time) (k : ℕ) → is_time t ≡ true → k < 86400 → DayTime t (time_since_one (midnight t + k)) k
day_all t k h l =
    let v = time_says t h in
    let n = midnight t + k in
    let r : n < 315_537_897_600 = omega (arith, days_in_range t v) in
    record { there = says_time (time_since_one n) (since_is_time n r); same = on_day t v k l; sum = seconds_again n r }
