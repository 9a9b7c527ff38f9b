-- Worked cases of docs/FORMAT.md, C9, and the ends of the range, computed from the definitions.
use Rattle.std.specs.Prelude.{[], ◌∷◌, map, ◌≡◌, refl, ℕ, ◌+◌, ◌*◌, pos, negsuc}
use Rattle.std.specs.Float.Ieee.{of_bits}
use Rattle.calendar.specs.declared.Time.{Time}
use Rattle.calendar.specs.Calendar.{is_leap, days_in_year, days_in_month, days_before_year, days_before_month, days_since_one, clock_of, is_day, is_clock, is_time, seconds_since_one, time_since_one, seconds_since_epoch, epoch}
use Rattle.calendar.specs.Count.{total, count_off}
use Rattle.calendar.specs.Date.{gives, refused, since_whole, since_floor, since_of, time_since, calendar_of, seconds_of}
use Rattle.calendar.specs.Floor.{ceiling, floor_fraction, floor_of, floor_of_bits}

abbrev pub at : ℕ → ℕ → ℕ → ℕ → ℕ → ℕ → Time
at y m d h i s = record { year = y; month = m; day = d; hour = h; minute = i; second = s }

-- 0 and -0; half a second before 2001, and the smallest number below 0; the first second, and half a second before it; half a second before the
-- end, and the end; an infinity, and a NaN
pub dates :
    map calendar_of
    (0 ∷ 0x8000_0000_0000_0000 ∷ 0xBFE0_0000_0000_0000 ∷ 0x8000_0000_0000_0001 ∷ 0xC22D_63C3_7F00_0000 ∷ 0xC22D_63C3_7F01_0000 ∷ 0x424D_62D2_3C7F_C000 ∷ 0x424D_62D2_3C80_0000 ∷ 0x7FF0_0000_0000_0000 ∷ 0xFFF8_0000_0000_0000 ∷ [])
    ≡ (gives (at 2001 1 1 0 0 0) ∷ gives (at 2001 1 1 0 0 0) ∷ gives (at 2000 12 31 23 59 59) ∷ gives (at 2000 12 31 23 59 59) ∷ gives (at 1 1 1 0 0 0) ∷ refused 30 ∷ gives (at 9999 12 31 23 59 59) ∷ refused 30 ∷ refused 30 ∷ refused 30 ∷ [])
unfolding calendar_of time_since since_of since_floor since_whole floor_of_bits floor_of floor_fraction ceiling of_bits time_since_one count_off days_in_year days_in_month is_leap
dates = refl

-- the epoch, the last second of a leap day, both ends
pub seconds :
    map seconds_of (at 2001 1 1 0 0 0 ∷ at 2000 2 29 23 59 59 ∷ at 1 1 1 0 0 0 ∷ at 9999 12 31 23 59 59 ∷ [])
    ≡ (gives (pos 0) ∷ gives (negsuc 26_438_400) ∷ gives (negsuc 63_113_903_999) ∷ gives (pos 252_423_993_599) ∷ [])
unfolding seconds_of seconds_since_epoch seconds_since_one days_since_one clock_of days_before_year days_before_month total is_time is_day is_clock days_in_year days_in_month is_leap
seconds = refl

-- years 0 and 10000, months 0 and 13, days 0 and 32, 31 April, 29 February of a common year and of 1900, 24:00:00, minute 60, second 60
pub no_times :
    map seconds_of
    (at 0 1 1 0 0 0 ∷ at 10000 1 1 0 0 0 ∷ at 2001 0 1 0 0 0 ∷ at 2001 13 1 0 0 0 ∷ at 2001 1 0 0 0 0 ∷ at 2001 1 32 0 0 0 ∷ at 2001 4 31 0 0 0 ∷ at 2001 2 29 0 0 0 ∷ at 1900 2 29 0 0 0 ∷ at 2001 1 1 24 0 0 ∷ at 2001 1 1 0 60 0 ∷ at 2001 1 1 0 0 60 ∷ [])
    ≡ (refused 30 ∷ refused 30 ∷ refused 30 ∷ refused 30 ∷ refused 30 ∷ refused 30 ∷ refused 30 ∷ refused 30 ∷ refused 30 ∷ refused 30 ∷ refused 30 ∷ refused 30 ∷ [])
unfolding seconds_of is_time is_day is_clock days_in_month is_leap
no_times = refl

-- the seconds of the years 1 to 2000: 365 days each, and 485 leap days
pub until_epoch : seconds_since_one epoch ≡ (365 * 2000 + 485) * 86400
unfolding seconds_since_one days_since_one clock_of days_before_year days_before_month total days_in_year days_in_month is_leap
until_epoch = refl
