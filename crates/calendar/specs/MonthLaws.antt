-- Laws of months: none has more than 31 days, and the twelve are the year.
use Rattle.std.specs.Prelude.{Bool, true, false, cond, ◌||◌, ◌≡◌, refl, ℕ, ◌+◌, ◌≤◌, eqb}
use Rattle.std.proofs.Common.{arith}
use Rattle.calendar.specs.Count.{total}
use Rattle.calendar.specs.Calendar.{is_leap, days_in_year, days_in_month}

pub month_most : (y m : ℕ) → days_in_month y m ≤ 31
unfolding days_in_month
month_most y m = go (eqb m 2) (is_leap y) (eqb m 4 || eqb m 6 || eqb m 9 || eqb m 11)
  where
    go : (a b c : Bool) → cond a (cond b 29 28) (cond c 30 31) ≤ 31
    go true true c = omega arith
    go true false c = omega arith
    go false b true = omega arith
    go false b false = omega arith

-- the months are the year
pub months_year : (y : ℕ) → total (days_in_month y) 12 ≡ days_in_year y
unfolding total days_in_month days_in_year
months_year y = go (is_leap y)
  where
    go : (b : Bool) → 0 + 31 + cond b 29 28 + 31 + 30 + 31 + 30 + 31 + 31 + 30 + 31 + 30 + 31 ≡ cond b 366 365
    go true = refl
    go false = refl
