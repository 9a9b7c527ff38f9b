-- `append_utf16` measures the text, and writes the kind, the length and the text, where there is room for all of them.
use mathlib.Core.Path.{◌≡◌, sym, ap, ◌∙◌}
use Prim.Native.Nat.{ℕ, ◌+◌, ◌≤◌, ◌<◌}
use native.Mathlib.Omega.{arith}
use lib.ListN.{length}
use Rattle.utf.specs.Utf16Laws.{measured, not_measured}
use Rattle.tape.specs.Append.{said}
use Rattle.tape.specs.Seven.{seven}
use Rattle.tape.specs.SevenLaws.{seven_few}
use Rattle.tape.proofs.Tests.{lacks, has}
use Rattle.tape.proofs.Texts.{not_text, text_none, text_room}
use Rattle.tape.proofs.utf16.append_utf16.Goals.{then-lacks_room-via-then-lacks_room, then-lacks_room-via-else-lacks_room+then-lacks_room-2}
use Rattle.tape.proofs.utf16.append_utf16.Goals as goal

pub returns-in_default : goal.returns-in_default
unfolding said
returns-in_default c =
    let a = c.args in
    not_text a.tape.now a.held a.utf16.now (not_measured a.utf16.now (sym c.utf8_length.ensures ∙ c.in_default.is))

pub overflow_add-head : goal.overflow_add-head
overflow_add-head c = omega (arith, c.groups_in-head.ensures, seven_few c.in-Some.bytes)

-- the head doesn't fit, or the text doesn't
short : (c : goal.Joined-then-lacks_room) → let a = c.args in length a.tape.now < a.held + (1 + c.groups_in-head.result) + c.in-Some.bytes
short c =
    elim c.then-lacks_room.branch [
      | then-lacks_room-via-then-lacks_room w ↦ omega (arith, lacks _ _ _ c.lacks_room.ensures w.if-lacks_room.true)
      | then-lacks_room-via-else-lacks_room+then-lacks_room-2 w ↦ lacks _ _ _ w.lacks_room-else-lacks_room.ensures w.if-lacks_room-2.true
    ]

pub returns-then-lacks_room : goal.returns-then-lacks_room
unfolding said
returns-then-lacks_room c =
    let a = c.args in
    let m = measured a.utf16.now _ (sym c.utf8_length.ensures ∙ c.in-Some.is) in
    let head : c.groups_in-head.result ≡ length (seven c.in-Some.bytes) = c.groups_in-head.ensures in
    text_none a.tape.now a.held a.utf16.now m.0 (rw m.1 (omega (arith, short c, head)))

pub returns : goal.returns
unfolding said
returns c =
    let a = c.args in
    let m = measured a.utf16.now _ (sym c.utf8_length.ensures ∙ c.in-Some.is) in
    let head : c.groups_in-head.result ≡ length (seven c.in-Some.bytes) = c.groups_in-head.ensures in
    let r : a.held + (1 + c.groups_in-head.result) + c.in-Some.bytes ≤ length a.tape.now = has _ _ _ c.lacks_room-else-lacks_room.ensures c.if-lacks_room-2.false in
    let w = c.write_number-start.ensures in
    text_room a.tape.now a.held a.utf16.now m.0 _ _ _ _ (rw m.1 (omega (arith, head))) (rw m.1 w.value) (rw m.1 w.tape_after) (ap (λ (k : ℕ). c.write_number-start.result + k) (sym m.1)) c.utf16_to_utf8.ensures.out_after
