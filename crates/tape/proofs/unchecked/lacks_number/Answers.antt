-- `lacks_number` counts the groups only where the longest number might pass the end.
use mathlib.Core.Path.{sym, ◌∙◌}
use Prim.Native.Nat.{◌+◌, ◌≤◌}
use native.Mathlib.Omega.{arith}
use borrow.Author.Tests.{le-ltb}
use lib.ListN.{length}
use Rattle.tape.specs.Seven.{seven}
use Rattle.tape.specs.SevenLaws.{seven_few}
use Rattle.tape.proofs.Tests.{has}
use Rattle.tape.proofs.unchecked.lacks_number.Goals as goal

pub overflow_add-groups_in : goal.overflow_add-groups_in
overflow_add-groups_in c = omega (arith, c.groups_in.ensures, seven_few c.args.n)

pub returns-else-lacks_room : goal.returns-else-lacks_room
returns-else-lacks_room c =
    let a = c.args in
    let h : a.at + 11 ≤ a.end = has _ _ _ c.lacks_room.ensures c.if-lacks_room.false in
    let e : a.at + (1 + length (seven a.n)) ≤ a.end = omega (arith, seven_few a.n) in
    c.if-lacks_room.false ∙ sym (le-ltb _ _ e)
