-- The proleptic Gregorian calendar, without leap seconds. docs/FORMAT.md, C1 to C4.
use Rattle.std.specs.Prelude.{Bool, true, false, cond, ◌||◌, ℕ, ◌+◌, ◌-◌, ◌*◌, ◌/◌, ◌%◌, ltb, leb, eqb, ℤ, pos, ◌-ℤ◌}
use Rattle.calendar.specs.Count.{total, count_off}
use Rattle.calendar.specs.declared.Time.{Time}

-- C1: a year that 400 divides is a leap year; of the others, one that 100 divides isn't, and one that 4 divides is
unfoldable pub is_leap : ℕ → Bool
is_leap y = cond (eqb (y % 400) 0) true (cond (eqb (y % 100) 0) false (eqb (y % 4) 0))

unfoldable pub days_in_year : ℕ → ℕ
days_in_year y = cond (is_leap y) 366 365

-- April, June, September and November have 30 days
unfoldable pub days_in_month : ℕ → ℕ → ℕ
days_in_month y m = cond (eqb m 2) (cond (is_leap y) 29 28) (cond (eqb m 4 || eqb m 6 || eqb m 9 || eqb m 11) 30 31)

-- C2: the days of the years before y, and of the months of y before m
unfoldable pub days_before_year : ℕ → ℕ
days_before_year y = total days_in_year (y - 1)

unfoldable pub days_before_month : ℕ → ℕ → ℕ
days_before_month y m = total (days_in_month y) (m - 1)

-- days since 0001-01-01
unfoldable pub days_since_one : Time → ℕ
days_since_one t = days_before_year t.year + days_before_month t.year t.month + (t.day - 1)

-- seconds since midnight
unfoldable pub clock_of : Time → ℕ
clock_of t = t.hour * 3600 + t.minute * 60 + t.second

-- seconds since 0001-01-01 00:00:00
unfoldable pub seconds_since_one : Time → ℕ
seconds_since_one t = days_since_one t * 86400 + clock_of t

-- C3: whether there is such a day, such a time of day, and both
unfoldable pub is_day : ℕ → ℕ → ℕ → Bool
is_day year month day =
    cond (ltb year 1) false
    (cond (ltb 9999 year) false
    (cond (ltb month 1) false
    (cond (ltb 12 month) false
    (cond (ltb day 1) false
    (leb day (days_in_month year month))))))

unfoldable pub is_clock : ℕ → ℕ → ℕ → Bool
is_clock hour minute second = cond (ltb 23 hour) false (cond (ltb 59 minute) false (leb second 59))

unfoldable pub is_time : Time → Bool
is_time t = cond (is_day t.year t.month t.day) (is_clock t.hour t.minute t.second) false

-- the day and time of seconds since 0001-01-01 00:00:00: years are counted off, then months of that year
unfoldable pub time_since_one : ℕ → Time
time_since_one n =
    let clock = n % 86400 in
    let y = count_off days_in_year 9998 1 (n / 86400) in
    let m = count_off (days_in_month y.part) 11 1 y.rest in
    record { year = y.part; month = m.part; day = m.rest + 1; hour = clock / 3600; minute = clock % 3600 / 60; second = clock % 60 }

-- C4: the beginning of the count of seconds
abbrev pub epoch : Time
epoch = record { year = 2001; month = 1; day = 1; hour = 0; minute = 0; second = 0 }

-- seconds since 2001-01-01 00:00:00
unfoldable pub seconds_since_epoch : Time → ℤ
seconds_since_epoch t = pos (seconds_since_one t) -ℤ pos (seconds_since_one epoch)
