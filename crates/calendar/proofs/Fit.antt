-- The numbers on the way between a day and its seconds fit their types.
use mathlib.Core.Bool.{true}
use mathlib.Core.Path.{◌≡◌}
use Prim.Native.Nat.{ℕ, ◌+◌, ◌-◌, ◌≤◌, ◌<◌}
use native.Mathlib.Omega.{arith}
use mir.Syntax.{w32}
use mir.Val.{Fits}
use Rattle.calendar.specs.declared.Time.{Time}
use Rattle.calendar.specs.Calendar.{is_time, days_before_year, days_before_month, days_since_one}
use Rattle.calendar.specs.TimeLaws.{time_says, days_in_range}

pub part_fits : (x d : ℕ) → x + d < 10000 → Fits w32 x
part_fits x d h = record { fits = omega arith }

pub whole_fits : (x : ℕ) → x < 10000 → Fits w32 x
whole_fits x h = record { fits = omega arith }

pub next_fits : (x : ℕ) → x < 10000 → Fits w32 (x + 1)
next_fits x h = record { fits = omega arith }

-- how large the parts of a day's and time's seconds are, the days before its year being p and those before its month q
pub record Sums (t : Time) (p q : ℕ) : Type 0 where
  pub days : p + q + (t.day - 1) < 3_652_059
  pub day : 1 ≤ t.day
  pub hour : t.hour ≤ 23
  pub minute : t.minute ≤ 59
  pub second : t.second ≤ 59

pub sums : (t : Time) (p q : ℕ) → is_time t ≡ true → p ≡ days_before_year t.year → q ≡ days_before_month t.year t.month → Sums t p q
unfolding days_since_one
sums t p q h e f =
    let v = time_says t h in
    record { days = rw (e, f) (days_in_range t v); day = v.day_from; hour = v.hour_to; minute = v.minute_to; second = v.second_to }
