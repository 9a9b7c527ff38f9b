-- Every whole second of the range has bits, and on these bits the calendar's two functions undo each other.
use Rattle.std.specs.Prelude.{Bool, true, false, ◌≡◌, refl, ℕ, suc, ◌+◌, ◌-◌, ◌*◌, ◌/◌, ◌%◌, ◌^◌, ◌≤◌, ◌<◌, ltb, ℤ, pos, negsuc, Float, Some}
use Rattle.std.proofs.lemmas.Bool.{false≢true}
use Rattle.std.proofs.Common.{ap, ◌∙◌, arith, eq-eqb, lt-ltb, ltb-true, lit<}
use Rattle.std.specs.Float.{nan, inf, fin, binary64}
use Rattle.std.specs.Float.Ieee.{up, down, to_bits, of_int, round}
use Rattle.std.specs.Float.Ieee.Back.{round_whole}
use Rattle.std.specs.Float.Ieee.Bits.{of_bits-to_bits}
use Rattle.std.specs.Float.Ieee.Exact.{HasValue}
use Rattle.std.specs.Float.Ieee.Fits.{of_int-fits}
use Rattle.calendar.specs.BitsLaws.{same_fraction, down_pos}
use Rattle.calendar.specs.Calendar.{is_time, seconds_since_one, time_since_one, seconds_since_epoch}
use Rattle.calendar.specs.Date.{gives, since_whole, since_floor, since_of, time_since, calendar_of, seconds_of}
use Rattle.calendar.specs.DateLaws.{calendar_of_floor, undo_calendar}
use Rattle.calendar.specs.EpochLaws.{epoch_is, since_difference}
use Rattle.calendar.specs.Floor.{ceiling, floor_fraction, floor_of, floor_of_bits}
use Rattle.calendar.specs.Number.{lies}
use Rattle.calendar.specs.TimeLaws.{time_says, seconds_in_range}
use Rattle.calendar.specs.declared.Time.{Time}

-- the bits of a whole number, as a conversion to a float gives them
unfoldable pub bits_for : ℤ → ℕ
bits_for z = to_bits binary64 (of_int binary64 z)

floor_value : (x : Float) (s : Bool) (a : ℕ) → HasValue x s a 1 → floor_of x ≡ Some (floor_fraction s a 1)
unfolding floor_of
floor_value nan s a v = absurd v
floor_value (inf t) s a v = absurd v
floor_value (fin t m e) s a v = rw v.0 (ap Some (same_fraction s (m * up e) (down e) a 1 (down_pos e) (lit< tt) v.1))

whole_plus : (n : ℕ) → floor_fraction false n 1 ≡ pos n
unfolding floor_fraction
whole_plus n = ap pos (let q : n / 1 ≡ n = omega arith in q)

whole_minus : (k : ℕ) → floor_fraction true (suc k) 1 ≡ negsuc k
unfolding floor_fraction ceiling
whole_minus k =
    let q : suc k / 1 ≡ suc k = omega arith in
    let r : suc k % 1 ≡ 0 = omega arith in
    rw (eq-eqb (suc k % 1) 0 r, q)

-- what it says that a whole number of seconds lies in the range
plus_bound : (m : ℕ) → lies (since_whole (pos m)) ≡ true → m < 252_423_993_600
unfolding lies since_whole
plus_bound m h = go (ltb m 252_423_993_600) refl
  where
    go : (b : Bool) → ltb m 252_423_993_600 ≡ b → m < 252_423_993_600
    go true e = ltb-true _ _ e
    go false e = absurd (false≢true (rw (e, since_whole) at h))

minus_bound : (k : ℕ) → lies (since_whole (negsuc k)) ≡ true → k < 63_113_904_000
unfolding lies since_whole
minus_bound k h = go (ltb k 63_113_904_000) refl
  where
    go : (b : Bool) → ltb k 63_113_904_000 ≡ b → k < 63_113_904_000
    go true e = ltb-true _ _ e
    go false e = absurd (false≢true (rw (e, since_whole) at h))

floor_int : (z : ℤ) → lies (since_whole z) ≡ true → floor_of (of_int binary64 z) ≡ Some z
unfolding of_int
floor_int (pos m) h =
    let f : m ≤ 2 ^ 53 = omega (arith, plus_bound m h) in
    floor_value (round binary64 false m 1) false m (round_whole binary64 false m f) ∙ ap Some (whole_plus m)
floor_int (negsuc k) h =
    let f : suc k ≤ 2 ^ 53 = omega (arith, minus_bound k h) in
    floor_value (round binary64 true (suc k) 1) true (suc k) (round_whole binary64 true (suc k) f) ∙ ap Some (whole_minus k)

-- the floor of a whole second's bits is that second
pub floor_whole : (z : ℤ) → lies (since_whole z) ≡ true → floor_of_bits (bits_for z) ≡ Some z
unfolding floor_of_bits bits_for
floor_whole z h = rw (of_bits-to_bits binary64 (of_int binary64 z) (of_int-fits binary64 z)) (floor_int z h)

-- a day and time, its seconds, and their day and time
pub time_seconds_time : (t : Time) → is_time t ≡ true → (seconds_of t ≡ gives (seconds_since_epoch t)) × (calendar_of (bits_for (seconds_since_epoch t)) ≡ gives t)
unfolding seconds_of seconds_since_epoch lies
time_seconds_time t h =
    let r = since_difference (seconds_since_one t) (seconds_in_range t (time_says t h)) in
    let f = floor_whole (seconds_since_epoch t) (rw (epoch_is, r)) in
    (rw h, calendar_of_floor (bits_for (seconds_since_epoch t)) t h f)

-- a whole second of the range, its day and time, and that one's seconds
pub record Again (z : ℤ) : Type 0 where
  pub time : Time
  pub calendar : calendar_of (bits_for z) ≡ gives time
  pub seconds : seconds_of time ≡ gives z

again : (z : ℤ) (t : Time) → lies (since_whole z) ≡ true → calendar_of (bits_for z) ≡ gives t → Again z
again z t h c = record { time = t; calendar = c; seconds = undo_calendar (bits_for z) t z c (floor_whole z h) }

pub seconds_time_seconds : (z : ℤ) → lies (since_whole z) ≡ true → Again z
unfolding calendar_of since_of since_floor since_whole time_since
seconds_time_seconds (pos m) h =
    again (pos m) (time_since_one (63_113_904_000 + m)) h (rw (floor_whole (pos m) h, lt-ltb m 252_423_993_600 (plus_bound m h)))
seconds_time_seconds (negsuc k) h =
    again (negsuc k) (time_since_one (63_113_904_000 - suc k)) h (rw (floor_whole (negsuc k) h, lt-ltb k 63_113_904_000 (minus_bound k h)))
