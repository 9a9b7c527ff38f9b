-- `seconds_of` answers the difference from 2001, which an i64 holds.
use mathlib.Core.Bool.{true}
use mathlib.Core.Path.{◌≡◌, sym, ◌∙◌}
use Prim.Native.Nat.{◌<◌, ◌^◌}
use native.Mathlib.Omega.{arith}
use mir.Facts.{to_z_pos, to_z-of_z}
use mir.Syntax.{w64}
use Rattle.calendar.specs.Calendar.{is_time, seconds_since_epoch}
use Rattle.calendar.specs.Date.{seconds_of, seconds_said}
use Rattle.calendar.specs.EpochLaws.{epoch_is, difference_fits}
use Rattle.calendar.specs.TimeLaws.{time_says, seconds_in_range}
use Rattle.calendar.proofs.seconds_of.Goals as goal

there : (c : goal.After-seconds_since_one-seconds) → is_time c.args.time ≡ true
there c = sym c.is_time.ensures ∙ c.if-is_time.true

near : (c : goal.After-seconds_since_one-seconds) → c.seconds_since_one-seconds.result < 315_537_897_600
near c =
    let t = c.args.time in
    rw c.seconds_since_one-seconds.ensures (seconds_in_range t (time_says t (there c)))

small : (c : goal.After-seconds_since_one-seconds) → c.seconds_since_one-seconds.result < 2 ^ 63
small c = omega (arith, near c)

pub seconds_since_one-seconds-requires : goal.seconds_since_one-seconds-requires
seconds_since_one-seconds-requires c = sym c.is_time.ensures ∙ c.if-is_time.true

pub overflow_cast-result : goal.overflow_cast-result
overflow_cast-result c = record { sfits = small c }

pub overflow_sub-result : goal.overflow_sub-result
overflow_sub-result c = rw (to_z_pos w64 (small c)) (difference_fits c.seconds_since_one-seconds.result (near c))

pub returns-then-is_time : goal.returns-then-is_time
unfolding seconds_of seconds_said seconds_since_epoch
returns-then-is_time c = rw (there c, to_z_pos w64 (small c), to_z-of_z (difference_fits c.seconds_since_one-seconds.result (near c)), epoch_is, c.seconds_since_one-seconds.ensures)

pub returns : goal.returns
unfolding seconds_of seconds_said
returns c = rw (sym c.is_time.ensures ∙ c.if-is_time.false)
