-- The day and time of a date's bits is the one whose seconds are the bits' floor, and it is the only one.
use Rattle.std.specs.Prelude.{Bool, true, false, cond, ◌≡◌, refl, ℕ, ℤ, Option, None, Some}
use Rattle.std.proofs.Common.{sym, ◌∙◌, arith}
use Rattle.calendar.specs.declared.Time.{Time}
use Rattle.calendar.specs.Calendar.{is_time, time_since_one, seconds_since_epoch}
use Rattle.calendar.specs.Date.{gives, refused, since_floor, since_of, time_since, calendar_of, seconds_of, dated_said, seconds_said}
use Rattle.calendar.specs.EpochLaws.{there_and_back, back_and_there}
use Rattle.calendar.specs.Floor.{floor_of_bits}

-- bits whose floor is the seconds of a day and time are of that day and time
pub calendar_of_floor : (b : ℕ) (t : Time) → is_time t ≡ true → floor_of_bits b ≡ Some (seconds_since_epoch t) → calendar_of b ≡ gives t
unfolding calendar_of since_of since_floor
calendar_of_floor b t h e = rw e (there_and_back t h)

-- a floor, and that it is the seconds of a day and time
pub record FloorIs (o : Option ℤ) (t : Time) : Type 0 where
  pub floor : ℤ
  pub is : o ≡ Some floor
  pub seconds : seconds_of t ≡ gives floor

floor_is : (o : Option ℤ) (s : Option ℕ) (t : Time) → since_floor o ≡ s → time_since s ≡ gives t → FloorIs o t
unfolding since_floor time_since
floor_is None (Some n) t e f = absurd (let z : ◌≡◌ {A = ℕ} 0 1 = cc in omega arith)
floor_is None None t e f = absurd (let z : ◌≡◌ {A = ℕ} 0 1 = cc in omega arith)
floor_is (Some z) (Some n) t e f =
    let g : time_since_one n ≡ t = cc in
    record { floor = z; is = refl; seconds = rw (← g) (back_and_there z n e) }
floor_is (Some z) None t e f = absurd (let y : ◌≡◌ {A = ℕ} 0 1 = cc in omega arith)

-- and the other way: bits that have a day and time have a floor, which is its seconds
pub floor_of_calendar : (b : ℕ) (t : Time) → calendar_of b ≡ gives t → FloorIs (floor_of_bits b) t
unfolding calendar_of since_of
floor_of_calendar b t e = floor_is (floor_of_bits b) (since_of b) t refl e

-- ---- on whole seconds the two undo each other

told : (b : Bool) (y z : ℤ) → cond b (gives y) (refused 30) ≡ gives z → (b ≡ true) × (y ≡ z)
told true y z e = (refl, cc)
told false y z e = absurd (let n : ◌≡◌ {A = ℕ} 0 1 = cc in omega arith)

pub undo_seconds : (b : ℕ) (t : Time) (z : ℤ) → seconds_of t ≡ gives z → floor_of_bits b ≡ Some z → calendar_of b ≡ gives t
unfolding seconds_of
undo_seconds b t z e f =
    let o = told (is_time t) (seconds_since_epoch t) z e in
    calendar_of_floor b t o.0 (rw o.1 f)

pub undo_calendar : (b : ℕ) (t : Time) (z : ℤ) → calendar_of b ≡ gives t → floor_of_bits b ≡ Some z → seconds_of t ≡ gives z
undo_calendar b t z e f =
    let i = floor_of_calendar b t e in
    let g : Some i.floor ≡ Some z = sym i.is ∙ f in
    let h : i.floor ≡ z = cc in
    rw (← h) i.seconds

-- 30 is the only refusal
pub calendar_refusal : (b n : ℕ) → calendar_of b ≡ refused n → n ≡ 30
unfolding calendar_of time_since
calendar_refusal b n e = go (since_of b) e
  where
    go : (s : Option ℕ) → time_since s ≡ refused n → n ≡ 30
    go (Some k) f = absurd (let z : ◌≡◌ {A = ℕ} 0 1 = cc in omega arith)
    go None f = cc

pub seconds_refusal : (t : Time) (n : ℕ) → seconds_of t ≡ refused n → n ≡ 30
unfolding seconds_of
seconds_refusal t n e = go (is_time t) e
  where
    go : (b : Bool) → cond b (gives (seconds_since_epoch t)) (refused 30) ≡ refused n → n ≡ 30
    go true f = absurd (let z : ◌≡◌ {A = ℕ} 0 1 = cc in omega arith)
    go false f = cc

-- the code's answers are fixed by what they say
pub dated_said_one : (x y : Option Time) → dated_said x ≡ dated_said y → x ≡ y
unfolding dated_said
dated_said_one (Some s) (Some t) e = cc
dated_said_one (Some s) None e = absurd (let z : ◌≡◌ {A = ℕ} 0 1 = cc in omega arith)
dated_said_one None (Some t) e = absurd (let z : ◌≡◌ {A = ℕ} 0 1 = cc in omega arith)
dated_said_one None None e = refl

pub seconds_said_one : (x y : Option ℤ) → seconds_said x ≡ seconds_said y → x ≡ y
unfolding seconds_said
seconds_said_one (Some y) (Some z) e = cc
seconds_said_one (Some y) None e = absurd (let z : ◌≡◌ {A = ℕ} 0 1 = cc in omega arith)
seconds_said_one None (Some z) e = absurd (let y : ◌≡◌ {A = ℕ} 0 1 = cc in omega arith)
seconds_said_one None None e = refl
