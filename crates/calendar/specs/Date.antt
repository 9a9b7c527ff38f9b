-- What a date's 64 bits are as a day and a time, and what seconds a day and time has. docs/FORMAT.md, C6 and C7.
use Rattle.std.specs.Prelude.{cond, ℕ, suc, ◌+◌, ◌-◌, ltb, ℤ, pos, negsuc, Option, None, Some}
use Rattle.calendar.specs.Calendar.{is_time, time_since_one, seconds_since_epoch}
use Rattle.calendar.specs.Floor.{floor_of_bits}
use Rattle.calendar.specs.declared.Time.{Time}

-- an answer, or a refusal's number
pub data Said (A : Type 0) : Type 0 where
  gives : A → Said A
  refused : ℕ → Said A

-- C6: seconds since 2001 as seconds since year one. The range is from -63,113,904,000 to below 252,423,993,600; `negsuc k` is -1 - k
unfoldable pub since_whole : ℤ → Option ℕ
since_whole (pos n) = cond (ltb n 252_423_993_600) (Some (63_113_904_000 + n)) None
since_whole (negsuc k) = cond (ltb k 63_113_904_000) (Some (63_113_904_000 - suc k)) None

unfoldable pub since_floor : Option ℤ → Option ℕ
since_floor None = None
since_floor (Some z) = since_whole z

unfoldable pub since_of : ℕ → Option ℕ
since_of bits = since_floor (floor_of_bits bits)

unfoldable pub time_since : Option ℕ → Said Time
time_since (Some n) = gives (time_since_one n)
time_since None = refused 30

-- the day and time of a date's bits
unfoldable pub calendar_of : ℕ → Said Time
calendar_of bits = time_since (since_of bits)

-- C7: the seconds of a day and time
unfoldable pub seconds_of : Time → Said ℤ
seconds_of t = cond (is_time t) (gives (seconds_since_epoch t)) (refused 30)

-- what the code's answers say
unfoldable pub dated_said : Option Time → Said Time
dated_said (Some t) = gives t
dated_said None = refused 30

unfoldable pub seconds_said : Option ℤ → Said ℤ
seconds_said (Some z) = gives z
seconds_said None = refused 30
