-- `event_for`: one event for each kind.
use Prim.Native.Nat.{◌<◌, ◌^◌}
use native.Mathlib.Omega.{arith}
use borrow.Author.Tests.{ne_eqb}
use Rattle.event.specs.RealLaws.{real_bits}
use Rattle.exports.specs.TapeAppend.{meaning_for, chosen_meaning}
use Rattle.exports.proofs.tape_append.event_for.Goals as goal

pub returns-in-4 : goal.returns-in-4
unfolding meaning_for
returns-in-4 c = λ s. rw c.in-4.is (c.negative_for.ensures s)

pub returns-in-5 : goal.returns-in-5
unfolding meaning_for chosen_meaning
returns-in-5 c =
    let n = c.args.value in
    let h : n < 2 ^ 64 = omega arith in
    λ s. rw (c.in-5.is, c.real_of.ensures, real_bits n s h)

pub returns-in_default : goal.returns-in_default
unfolding meaning_for chosen_meaning
returns-in_default c =
    let k = c.args.kind in
    let r = c.in_default.in_default-own.rest in
    λ s. simp (
      ne_eqb k 0x01 r.0.0.0.0.0.0.0.0.0.0.0.0.0.1,
      ne_eqb k 0x02 r.0.0.0.0.0.0.0.0.0.0.0.0.1,
      ne_eqb k 0x03 r.0.0.0.0.0.0.0.0.0.0.0.1,
      ne_eqb k 0x04 r.0.0.0.0.0.0.0.0.0.0.1,
      ne_eqb k 0x05 r.0.0.0.0.0.0.0.0.0.1,
      ne_eqb k 0x06 r.0.0.0.0.0.0.0.0.1,
      ne_eqb k 0x07 r.0.0.0.0.0.0.0.1,
      ne_eqb k 0x08 r.0.0.0.0.0.0.1,
      ne_eqb k 0x09 r.0.0.0.0.0.1,
      ne_eqb k 0x0A r.0.0.0.0.1,
      ne_eqb k 0x0B r.0.0.0.1,
      ne_eqb k 0x0C r.0.0.1,
      ne_eqb k 0x0D r.0.1,
      ne_eqb k 0x0E r.1,
    )
