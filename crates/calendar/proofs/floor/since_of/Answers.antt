-- `since_of` is the floor by the magnitude's whole part and the sign.
use mathlib.Core.Path.{sym, ap, ◌∙◌}
use Prim.Native.Nat.{◌+◌, ◌%◌, ◌^◌, ◌<◌}
use native.Mathlib.Omega.{arith}
use lib.IntN.{pos, neg_ℤ}
use Rattle.calendar.specs.declared.floor.Split.{Split}
use Rattle.calendar.specs.Date.{since_whole}
use Rattle.calendar.specs.BitsLaws.{since_far, since_positive, since_exact, since_between, whole_small}
use Rattle.calendar.proofs.floor.since_of.Goals as goal

pub returns-then-low-ge4778319204640096256 : goal.returns-then-low-ge4778319204640096256
returns-then-low-ge4778319204640096256 c = sym (since_far c.args.bits c.if-low-ge4778319204640096256.true)

pub returns-then-bits-lt9223372036854775808 : goal.returns-then-bits-lt9223372036854775808
returns-then-bits-lt9223372036854775808 c =
    let e = c.split_of-split.ensures in
    c.at_or_after.ensures ∙ ap (λ (s : Split). since_whole (pos s.whole)) e ∙ sym (since_positive c.args.bits c.if-low-ge4778319204640096256.false c.if-bits-lt9223372036854775808.true)

pub returns-then-split : goal.returns-then-split
returns-then-split c =
    let e = c.split_of-split.ensures in
    c.at_or_before.ensures ∙ ap (λ (s : Split). since_whole (neg_ℤ (pos s.whole))) e ∙ sym (since_exact c.args.bits c.if-low-ge4778319204640096256.false c.if-bits-lt9223372036854775808.false (sym (ap (λ (s : Split). s.exact) e) ∙ c.if-split.true))

pub overflow_add-split : goal.overflow_add-split
overflow_add-split c =
    let e = c.split_of-split.ensures in
    let w : c.split_of-split.result.whole < 2 ^ 38 = rw e (whole_small (c.args.bits % 2 ^ 63) (omega arith)) in
    omega arith

pub returns : goal.returns
returns c =
    let e = c.split_of-split.ensures in
    c.at_or_before-2.ensures ∙ ap (λ (s : Split). since_whole (neg_ℤ (pos (s.whole + 1)))) e ∙ sym (since_between c.args.bits c.if-low-ge4778319204640096256.false c.if-bits-lt9223372036854775808.false (sym (ap (λ (s : Split). s.exact) e) ∙ c.if-split.false))
