-- Digits and days and times read again.
use Rattle.std.specs.Prelude.{cond, List, [], ◌∷◌, ℕ, ◌+◌, ◌-◌, ◌*◌, eqb, ℤ, pos, negsuc, get_or, take, drop}
use Rattle.calendar.specs.declared.Time.{Time}

-- a number from digits behind one that was read
unfoldable pub number_from : ℕ → List ℕ → ℕ
number_from n [] = n
number_from n (d ∷ s) = number_from (n * 10 + (d - 48)) s

-- behind a minus, -n is -1 - (n - 1)
unfoldable pub integer_in : List ℕ → ℤ
integer_in s = cond (eqb (get_or s 0 0) 45) (negsuc (number_from 0 (drop 1 s) - 1)) (pos (number_from 0 s))

-- the day and time of `2001-01-01T00:00:00Z`
unfoldable pub time_in : List ℕ → Time
time_in s =
    record {
      year = number_from 0 (take 4 s);
      month = number_from 0 (take 2 (drop 5 s));
      day = number_from 0 (take 2 (drop 8 s));
      hour = number_from 0 (take 2 (drop 11 s));
      minute = number_from 0 (take 2 (drop 14 s));
      second = number_from 0 (take 2 (drop 17 s));
    }
