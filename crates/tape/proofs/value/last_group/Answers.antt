-- `last_group` puts the last group in its place, if it is the shortest form and nothing is lost.
use mathlib.Core.Path.{◌≡◌, sym}
use Prim.Native.Nat.{◌^◌, ◌≤◌}
use native.Mathlib.Omega.{arith}
use Rattle.tape.specs.ValueLoopLaws.{last_zero, last_long, last_large, last_room, last_good}
use Rattle.tape.proofs.value.last_group.Goals.{then-unit-eq9223372036854775808+else-group-gt1, else-unit-eq9223372036854775808}
use Rattle.tape.proofs.value.last_group.Goals as goal

pub returns-then-unit-eq1 : goal.returns-then-unit-eq1
returns-then-unit-eq1 c =
    let a = c.args in
    let p = c.requires in
    rw c.if-group-eq0.true (sym (last_zero a.value a.unit p.0 a.next c.if-unit-eq1.true))

pub returns-then-group-eq0 : goal.returns-then-group-eq0
returns-then-group-eq0 c =
    let a = c.args in
    let p = c.requires in
    rw c.if-group-eq0.true (sym (last_long a.value a.unit p.0 a.next c.if-unit-eq1.false))

pub returns-then-group-gt1 : goal.returns-then-group-gt1
returns-then-group-gt1 c =
    let a = c.args in
    let p = c.requires in
    sym (last_large a.value a.unit p.0 a.group a.next c.if-unit-eq9223372036854775808.true c.if-group-gt1.true)

-- a tenth group is at most 1
tenth : (c : goal.Joined-unit-eq9223372036854775808) → c.args.unit ≡ 2 ^ 63 → c.args.group ≤ 1
tenth c e = elim c.if-unit-eq9223372036854775808.branch [ then-unit-eq9223372036854775808+else-group-gt1 w ↦ omega arith | else-unit-eq9223372036854775808 w ↦ omega arith ]

pub overflow_mul-result : goal.overflow_mul-result
overflow_mul-result c =
    let a = c.args in
    let p = c.requires in
    omega (arith, last_room a.value a.unit p.0 a.group p.1 (tenth c))

pub overflow_add-result : goal.overflow_add-result
overflow_add-result c =
    let a = c.args in
    let p = c.requires in
    omega (arith, last_room a.value a.unit p.0 a.group p.1 (tenth c))

pub returns : goal.returns
returns c =
    let a = c.args in
    let p = c.requires in
    sym (last_good a.value a.unit p.0 a.group a.next c.if-group-eq0.false p.1 (tenth c))
