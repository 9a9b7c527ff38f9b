-- `number_at` reads the number: the groups read, in front of those that follow, are the whole.
use mathlib.Core.Path.{sym, ◌∙◌}
use Prim.Native.Nat.{ℕ, ◌+◌, ◌-◌, ◌*◌, ◌^◌, ◌<◌}
use native.Mathlib.Omega.{arith}
use lib.ListN.{get_or, drop}
use Rattle.number.specs.BeLaws.{bytes_of_law}
use Rattle.number.specs.PartLaws.{bytes_drop}
use Rattle.tape.specs.Value.{number_at}
use Rattle.tape.specs.ValueLoopLaws.{no_groups, unit_small, more_lt, more_groups, above_nothing, turn_last, turn_more, turn_tenth, turn_none}
use Rattle.tape.proofs.value.number_at.Goals as goal

pub loop-i-init : goal.loop-i-init
loop-i-init c =
    let a = c.args in
    (no_groups, above_nothing a.at (drop a.at a.tape.now) (bytes_drop a.at a.tape.now (bytes_of_law a.tape.now (λ (i : ℕ). omega (arith, c.type_inv.tape i)))))

pub returns-then-group-lt128 : goal.returns-then-group-lt128
unfolding number_at
returns-then-group-lt128 c =
    let l = c.loop-i in
    c.last_group.ensures ∙ sym (l.invariant.1 ∙ turn_last l.value l.unit l.invariant.0 c.args.tape.now l.i (omega arith) c.if-group-lt128.true)

pub returns-then-unit : goal.returns-then-unit
unfolding number_at
returns-then-unit c =
    let l = c.loop-i in
    sym (l.invariant.1 ∙ turn_tenth l.value l.unit l.invariant.0 c.args.tape.now l.i (omega arith) c.if-group-lt128.false c.if-unit.true)

-- the group at hand, and what it adds
byte : (c : goal.Else-unit) → get_or c.args.tape.now c.loop-i.i 0 < 256
byte c = omega (arith, c.type_inv.tape c.loop-i.i)

grows : (c : goal.Else-unit) →
    let l = c.loop-i in
    (get_or c.args.tape.now l.i 0 - 128) * l.unit + l.value < 2 ^ 64
grows c =
    let l = c.loop-i in
    let b = get_or c.args.tape.now l.i 0 in
    omega (arith, more_lt l.value l.unit l.invariant.0 (b - 128) (omega (arith, byte c)), unit_small l.value l.unit l.invariant.0 c.if-unit.false)

pub overflow_mul-value : goal.overflow_mul-value
overflow_mul-value c = omega (arith, grows c)

pub overflow_add-value : goal.overflow_add-value
overflow_add-value c = omega (arith, grows c)

pub overflow_mul-unit : goal.overflow_mul-unit
overflow_mul-unit c =
    let l = c.loop-i in
    omega (arith, unit_small l.value l.unit l.invariant.0 c.if-unit.false)

pub loop-i-preserved : goal.loop-i-preserved
loop-i-preserved c =
    let l = c.loop-i in
    let t = c.args.tape.now in (
      more_groups l.value l.unit l.invariant.0 (get_or t l.i 0 - 128) (omega (arith, byte c)) c.if-unit.false,
      l.invariant.1 ∙ turn_more l.value l.unit l.invariant.0 t l.i (omega arith) c.if-group-lt128.false (byte c),
    )

pub returns : goal.returns
unfolding number_at
returns c =
    let l = c.loop-i in
    sym (l.invariant.1 ∙ turn_none l.value l.unit l.invariant.0 c.args.tape.now l.i (omega arith))
