-- `groups`: the groups stand behind a byte, and have room.
use mathlib.Core.List.{List}
use mathlib.Core.Path.{ap, ◌∙◌}
use Prim.Native.Nat.{ℕ}
use native.Mathlib.Omega.{arith}
use lib.ListN.{length}
use Rattle.number.specs.Part.{part}
use Rattle.tape.specs.Append.{said}
use Rattle.tape.specs.Seven.{seven}
use Rattle.lookup.proofs.Growing.{groups_end, groups_bad, groups_there}
use Rattle.lookup.proofs.append.groups.Goals as goal

pub returns-in-Held : goal.returns-in-Held
returns-in-Held c =
    let p = c.put_number in
    (record { value = groups_end c.args.memory.now c.args.n (omega arith) p.result c.in-Held.end c.put_number.ensures.result_value c.in-Held.is; n_after = ap (λ (m : List ℕ). part m 1 (length (seven c.args.n))) c.put_number.ensures.tape_after ∙ groups_there c.args.memory.now c.args.n (omega arith) })

pub returns-in-BadEvent : goal.returns-in-BadEvent
unfolding said
returns-in-BadEvent c =
    let p = c.put_number in
    absurd (groups_bad c.args.memory.now c.args.n (omega arith) p.result _ 20 c.put_number.ensures.result_value (ap said c.in-BadEvent.is))

pub returns-in-NoRoom : goal.returns-in-NoRoom
unfolding said
returns-in-NoRoom c =
    let p = c.put_number in
    absurd (groups_bad c.args.memory.now c.args.n (omega arith) p.result _ 27 c.put_number.ensures.result_value (ap said c.in-NoRoom.is))
