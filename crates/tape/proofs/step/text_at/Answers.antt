-- `text_at`: the bytes, where they lie within the tape and are UTF-8.
use mathlib.Core.Bool.{true, false}
use mathlib.Core.Path.{◌≡◌, sym, ◌∙◌}
use Prim.Native.Nat.{◌+◌, ◌≤◌}
use native.Mathlib.Nat.{add-sub_cancel_left}
use native.Mathlib.Omega.{arith}
use borrow.Author.Tests.{le-leb, lt-leb}
use lib.ListN.{length}
use Rattle.tape.specs.Item.{text_in}
use Rattle.number.specs.Part.{part}
use Rattle.utf.specs.Unicode.{is_utf8}
use Rattle.tape.proofs.Tests.{lacks, has}
use Rattle.tape.proofs.step.text_at.Goals as goal
use Rattle.tape.proofs.step.text_at.Goals.{Else-lacks_room}

pub returns-in_err-n : goal.returns-in_err-n
unfolding text_in
returns-in_err-n c = rw c.in_err-n.was c.from_residual.ensures

pub returns-then-lacks_room : goal.returns-then-lacks_room
unfolding text_in
returns-then-lacks_room c = rw (c.in_ok-n.was, lt-leb _ _ (lacks _ _ _ c.lacks_room.ensures c.if-lacks_room.true))

-- the bytes lie within the tape
room : (c : Else-lacks_room) → c.in_ok-n.start + c.in_ok-n.n ≤ length c.args.tape.now
room c = has _ _ _ c.lacks_room.ensures c.if-lacks_room.false

pub overflow_add-end : goal.overflow_add-end
overflow_add-end c = omega (arith, room (goal.at.overflow_add-end c).Else-lacks_room)

pub slice_bounds-is_utf8-end : goal.slice_bounds-is_utf8-end
slice_bounds-is_utf8-end c = omega (arith, room (goal.at.slice_bounds-is_utf8-end c).Else-lacks_room)

pub with_bytes-requires : goal.with_bytes-requires
with_bytes-requires c = omega (arith, room (goal.at.with_bytes-requires c).Else-lacks_room)

pub returns-then-is_utf8 : goal.returns-then-is_utf8
unfolding text_in
returns-then-is_utf8 c =
    let t = c.args.tape.now in
    let u : is_utf8 (part t c.in_ok-n.start c.in_ok-n.n) ≡ true = rw add-sub_cancel_left at (sym c.is_utf8.ensures ∙ c.if-is_utf8.true) in
    rw (c.in_ok-n.was, le-leb _ _ (room (goal.at.returns-then-is_utf8 c).Else-lacks_room), u) c.with_bytes.ensures

pub returns : goal.returns
unfolding text_in
returns c =
    let t = c.args.tape.now in
    let u : is_utf8 (part t c.in_ok-n.start c.in_ok-n.n) ≡ false = rw add-sub_cancel_left at (sym c.is_utf8.ensures ∙ c.if-is_utf8.false) in
    rw (c.in_ok-n.was, le-leb _ _ (room (goal.at.returns c).Else-lacks_room), u)
