-- Laws of the seconds since 2001: a day and time and its seconds give each other.
use Rattle.std.specs.Prelude.{Bool, true, false, ◌≡◌, refl, ℕ, suc, ◌+◌, ◌-◌, ◌≤◌, ◌<◌, ltb, ℤ, pos, negsuc, ◌-ℤ◌, Some}
use Rattle.std.proofs.Common.{sym, ap, ◌∙◌, arith, lt-ltb, le-ltb, ltb-true, ltb-false, SFits}
use Rattle.std.specs.Int.{w64}
use Rattle.calendar.specs.declared.Time.{Time}
use Rattle.calendar.specs.Count.{total}
use Rattle.calendar.specs.Calendar.{days_in_year, days_in_month, days_before_year, days_before_month, days_since_one, clock_of, is_time, seconds_since_one, time_since_one, epoch, seconds_since_epoch}
use Rattle.calendar.specs.Date.{gives, since_whole, time_since, seconds_of}
use Rattle.calendar.specs.RangeLaws.{only, whole_range}
use Rattle.calendar.specs.YearLaws.{cycles}
use Rattle.calendar.specs.TimeLaws.{time_says, says_time, time_again, since_is_time, seconds_again, seconds_in_range}

none_yet : (size : ℕ → ℕ) → total size 0 ≡ 0
unfolding total
none_yet size = refl

pub epoch_is : seconds_since_one epoch ≡ 63_113_904_000
unfolding seconds_since_one days_since_one clock_of days_before_year days_before_month
epoch_is =
    let e : total days_in_year 2000 ≡ 730485 = cycles 5 0 0 0 (omega arith) (omega arith) (omega arith) in
    rw (e, none_yet (days_in_month 2001))

-- the difference from the epoch, at or after it and before it
pub after_epoch : (r : ℕ) → 63_113_904_000 ≤ r → pos r -ℤ pos 63_113_904_000 ≡ pos (r - 63_113_904_000)
after_epoch r h = rw (le-ltb r 63_113_904_000 h)

pub before_epoch : (r : ℕ) → r < 63_113_904_000 → pos r -ℤ pos 63_113_904_000 ≡ negsuc (63_113_904_000 - suc r)
before_epoch r h = rw (lt-ltb r 63_113_904_000 h)

pub difference_fits : (r : ℕ) → r < 315_537_897_600 → SFits w64 (pos r -ℤ pos 63_113_904_000)
difference_fits r h = go (ltb r 63_113_904_000) refl
  where
    go : (b : Bool) → ltb r 63_113_904_000 ≡ b → SFits w64 (pos r -ℤ pos 63_113_904_000)
    go true e = rw (before_epoch r (ltb-true _ _ e)) (record { sfits = omega arith })
    go false e = rw (after_epoch r (ltb-false _ _ e)) (record { sfits = omega arith })

-- seconds since year one are told by their difference from the epoch
pub since_difference : (r : ℕ) → r < 315_537_897_600 → since_whole (pos r -ℤ pos 63_113_904_000) ≡ Some r
unfolding since_whole
since_difference r h = go (ltb r 63_113_904_000) refl
  where
    go : (b : Bool) → ltb r 63_113_904_000 ≡ b → since_whole (pos r -ℤ pos 63_113_904_000) ≡ Some r
    go true e =
        let l : r < 63_113_904_000 = ltb-true _ _ e in
        rw (before_epoch r l, lt-ltb (63_113_904_000 - suc r) 63_113_904_000 (omega arith)) (ap Some (let q : 63_113_904_000 - suc (63_113_904_000 - suc r) ≡ r = omega arith in q))
    go false e =
        let l : 63_113_904_000 ≤ r = ltb-false _ _ e in
        rw (after_epoch r l, lt-ltb (r - 63_113_904_000) 252_423_993_600 (omega arith)) (ap Some (let q : 63_113_904_000 + (r - 63_113_904_000) ≡ r = omega arith in q))

pub difference_since : (z : ℤ) (n : ℕ) → since_whole z ≡ Some n → pos n -ℤ pos 63_113_904_000 ≡ z
unfolding since_whole
difference_since (pos m) n e =
    let o = only (ltb m 252_423_993_600) (63_113_904_000 + m) n e in
    rw (← o.1) (after_epoch (63_113_904_000 + m) (omega arith) ∙ ap pos (let q : 63_113_904_000 + m - 63_113_904_000 ≡ m = omega arith in q))
difference_since (negsuc k) n e =
    let o = only (ltb k 63_113_904_000) (63_113_904_000 - suc k) n e in
    let l : k < 63_113_904_000 = ltb-true _ _ o.0 in
    rw (← o.1) (before_epoch (63_113_904_000 - suc k) (omega arith) ∙ ap negsuc (let q : 63_113_904_000 - suc (63_113_904_000 - suc k) ≡ k = omega arith in q))

-- ---- the two undo each other

-- the day and time of the seconds of a day and time is this one again
pub there_and_back : (t : Time) → is_time t ≡ true → time_since (since_whole (seconds_since_epoch t)) ≡ gives t
unfolding seconds_since_epoch time_since
there_and_back t h =
    let v = time_says t h in
    rw (epoch_is, since_difference (seconds_since_one t) (seconds_in_range t v)) (ap gives (time_again t v))

-- the seconds of the day and time of whole seconds in the range are these again
pub back_and_there : (z : ℤ) (n : ℕ) → since_whole z ≡ Some n → seconds_of (time_since_one n) ≡ gives z
unfolding seconds_of seconds_since_epoch
back_and_there z n e =
    let l = whole_range z n e in
    rw (says_time (time_since_one n) (since_is_time n l), seconds_again n l, epoch_is) (ap gives (difference_since z n e))

-- two days and times with the same seconds are one
pub one_time : (t u : Time) → is_time t ≡ true → is_time u ≡ true → seconds_since_epoch t ≡ seconds_since_epoch u → t ≡ u
one_time t u h g e =
    let p = there_and_back t h in
    let q = there_and_back u g in
    let r : gives t ≡ gives u = sym p ∙ ap (λ (z : ℤ). time_since (since_whole z)) e ∙ q in
    cc
