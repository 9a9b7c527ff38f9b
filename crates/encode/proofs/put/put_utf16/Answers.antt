-- `put_utf16`: a text that has no room leaves all as it was; else the head is written in front of it.
use native.Mathlib.Omega.{arith}
use Rattle.encode.specs.Put.{base_of}
use Rattle.encode.proofs.Changed.{changing, utf16_short, utf16_no_text, utf16_no_room, utf16_fits, utf16_written}
use Rattle.encode.proofs.put.put_utf16.Goals as goal

pub returns-then-out-head : goal.returns-then-out-head
returns-then-out-head c =
    let a = c.args in
    utf16_short a.units a.text.now a.out.now (omega (arith, c.head_size-head.ensures))

pub overflow_add-result : goal.overflow_add-result
overflow_add-result c = omega (arith, utf16_fits (rw c.in-Written.is at (changing c.args.text.now c.head_size-head.ensures c.if-out-head.false c.utf8_to_utf16.ensures)))

pub returns-in-Written : goal.returns-in-Written
unfolding base_of
returns-in-Written c = utf16_written (rw c.in-Written.is at (changing c.args.text.now c.head_size-head.ensures c.if-out-head.false c.utf8_to_utf16.ensures)) c.write_head.ensures.out_after

pub returns-in-NotText : goal.returns-in-NotText
returns-in-NotText c = utf16_no_text (rw c.in-NotText.is at (changing c.args.text.now c.head_size-head.ensures c.if-out-head.false c.utf8_to_utf16.ensures))

pub returns-in-NoRoom : goal.returns-in-NoRoom
returns-in-NoRoom c = utf16_no_room (rw c.in-NoRoom.is at (changing c.args.text.now c.head_size-head.ensures c.if-out-head.false c.utf8_to_utf16.ensures))
