-- `put_bytes` writes the kind, the length and the bytes, where there is room for all of them.
use mathlib.Core.List.{◌++◌}
use mathlib.Core.Path.{◌≡◌, sym, ◌∙◌}
use Prim.Native.Nat.{◌+◌, ◌≤◌, ◌<◌}
use native.Mathlib.Omega.{arith}
use lib.ListN.{length, length-append, set}
use lib.Seq.{sets}
use Rattle.tape.specs.Append.{said}
use Rattle.tape.proofs.AppendLaws.{put_none, put_room}
use Rattle.tape.specs.Seven.{seven}
use Rattle.tape.specs.SevenLaws.{seven_few}
use Rattle.utf.proofs.Writing.{sets_append}
use Rattle.tape.proofs.Tests.{lacks, has}
use Rattle.tape.proofs.unchecked.put_bytes.Goals.{then-lacks_room-via-then-lacks_room, then-lacks_room-via-else-lacks_room+then-lacks_room-2}
use Rattle.tape.proofs.unchecked.put_bytes.Goals as goal

pub overflow_add-head : goal.overflow_add-head
overflow_add-head c = omega (arith, c.groups_in-head.ensures, seven_few (length c.args.bytes.now))

-- the head doesn't fit, or the bytes don't
short : (c : goal.Joined-then-lacks_room) → let a = c.args in length a.tape.now < a.held + (1 + c.groups_in-head.result) + length a.bytes.now
short c =
    elim c.then-lacks_room.branch [
      | then-lacks_room-via-then-lacks_room w ↦ omega (arith, lacks _ _ _ c.lacks_room.ensures w.if-lacks_room.true)
      | then-lacks_room-via-else-lacks_room+then-lacks_room-2 w ↦ lacks _ _ _ w.lacks_room-else-lacks_room.ensures w.if-lacks_room-2.true
    ]

pub returns-then-lacks_room : goal.returns-then-lacks_room
unfolding said
returns-then-lacks_room c =
    let a = c.args in
    let s = a.bytes.now in
    put_none a.tape.now a.held a.kind (seven (length s) ++ s) (omega (arith, short c, c.groups_in-head.ensures, length-append (seven (length s)) s))

pub returns : goal.returns
unfolding said
returns c =
    let a = c.args in
    let s = a.bytes.now in
    let r : a.held + (1 + c.groups_in-head.result) + length s ≤ length a.tape.now = has _ _ _ c.lacks_room-else-lacks_room.ensures c.if-lacks_room-2.false in
    let n = length-append (seven (length s)) s in
    let w = c.write_number-start.ensures in
    let after : c.write_bytes.new.out ≡ sets (set a.tape.now a.held a.kind) (a.held + 1) (seven (length s) ++ s) =
    c.write_bytes.ensures ∙ rw (w.value, w.tape_after) (sym (sets_append (seven (length s)) s (set a.tape.now a.held a.kind) (a.held + 1))) in
    put_room a.tape.now a.held a.kind (seven (length s) ++ s) (omega (arith, c.groups_in-head.ensures)) (omega (arith, w.value)) after
