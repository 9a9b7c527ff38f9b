-- `unchecked::utf8_to_utf16` writes where there is room.
use mathlib.Core.Bool.{true}
use mathlib.Core.Path.{refl, sym, ◌∙◌}
use Prim.Native.Nat.{◌/◌, ◌≤◌}
use native.Mathlib.Omega.{arith}
use borrow.Author.Tests.{ltb-true, ltb-false}
use lib.ListN.{length}
use Rattle.utf.specs.Unicode.{utf16, scalars8, to_utf16}
use Rattle.utf.specs.ChangedAnswers.{no_room, written}
use Rattle.utf.specs.ToUtf16Walk.{length_utf16}
use Rattle.utf.proofs.unchecked.utf8_to_utf16.Goals as goal
use Rattle.utf.proofs.unchecked.utf8_to_utf16.Lts as lts
use Rattle.utf.proofs.unchecked.utf8_to_utf16.Reads as reads
use Rattle.utf.proofs.unchecked.utf8_to_utf16.Tie as tie

pub returns-then-lacks_units : goal.returns-then-lacks_units
returns-then-lacks_units c =
    let b = c.args in
    let few = ltb-true (length b.out.now / 2) (length (utf16 (scalars8 b.s.now))) (sym c.lacks_units.ensures ∙ c.if-lacks_units.true) in
    let a = no_room true (to_utf16 b.s.now) b.out.now _ refl refl (omega (arith, few, length_utf16 b.s.now)) in
    (record { value = a.answer; out_after = a.memory })

-- there is room for the text
room : (c : lts.Else1 tie.the-claims reads.Pre reads.Post tie.handed_clauses) → length (to_utf16 c.args.s.now) ≤ length c.args.out.now
room c =
    let b = c.args in
    omega (arith, ltb-false (length b.out.now / 2) (length (utf16 (scalars8 b.s.now))) (sym c.lacks_units.ensures ∙ c.if-lacks_units.false), length_utf16 b.s.now)

pub write_utf16-requires : goal.write_utf16-requires
write_utf16-requires c = room c.before.before

pub returns : goal.returns
returns c =
    let a = written true _ c.args.out.now _ refl refl (room c.before.before.before.before.before) in
    rw c.write_utf16.ensures.value (record { value = a.answer; out_after = c.write_utf16.ensures.out_after ∙ a.memory })
