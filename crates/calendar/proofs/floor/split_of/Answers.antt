-- `split_of` cuts the digits where the exponent says.
use mathlib.Core.Path.{sym}
use Prim.Native.Nat.{◌-◌, ◌/◌, ◌%◌, ◌^◌}
use native.Mathlib.Omega.{arith}
use lib.Pow.{pow_pos}
use Rattle.calendar.specs.Split.{split_of}
use Rattle.calendar.specs.BitsLaws.{split_small, split_large, unit_is}
use Rattle.calendar.proofs.floor.split_of.Goals as goal

pub returns-then-field-lt1023 : goal.returns-then-field-lt1023
returns-then-field-lt1023 c = sym (split_small c.args.low c.if-field-lt1023.true)

pub nonzero_div-result : goal.nonzero_div-result
nonzero_div-result c =
    let j = 1075 - c.args.low / 2 ^ 52 in
    rw (unit_is j (omega arith)) (pow_pos j)

pub nonzero_rem-result : goal.nonzero_rem-result
nonzero_rem-result c =
    let j = 1075 - c.args.low / 2 ^ 52 in
    rw (unit_is j (omega arith)) (pow_pos j)

pub returns : goal.returns
unfolding split_of
returns c =
    let low = c.args.low in
    let x = low / 2 ^ 52 in
    let s = split_large x (low % 2 ^ 52) c.if-field-lt1023.false (omega arith) in
    rw (unit_is (1075 - x) (omega arith), s.0, s.1)
