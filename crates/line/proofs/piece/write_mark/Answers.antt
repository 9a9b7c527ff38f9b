-- `write_mark` writes the number and the offset one behind the other, or nothing.
use mathlib.Core.Path.{◌≡◌, ◌∙◌}
use Prim.Native.Nat.{◌+◌}
use native.Mathlib.Omega.{arith}
use lib.ListN.{length, length-append}
use Rattle.digits.specs.PutLaws.{written_nil, written_append, written_length}
use Rattle.line.specs.Line.{labelled, origin_of}
use Rattle.line.specs.Piece.{mark_of}
use Rattle.std.specs.Prelude.{Some}
use Rattle.line.specs.declared.piece.Origin.{Origin}
use Rattle.line.proofs.piece.write_mark.Goals as goal

-- the room of both
both : (o : Origin) → length (mark_of (Some o)) ≡ length (labelled 35 o.number) + length (labelled 64 o.offset)
unfolding mark_of origin_of
both o = simp length-append

pub write_labelled-offset_at-requires : goal.write_labelled-offset_at-requires
write_labelled-offset_at-requires c = omega (arith, rw c.in-Some.is at c.requires, both c.in-Some.field-0)

pub write_labelled-requires : goal.write_labelled-requires
write_labelled-requires c =
    let w = c.write_labelled-offset_at.ensures in
    omega (arith, rw c.in-Some.is at c.requires, both c.in-Some.field-0, w.place, written_length w)

pub returns-in-None : goal.returns-in-None
unfolding mark_of
returns-in-None c = rw c.in-None.is (written_nil _ _)

pub shape_of-out : goal.shape_of-out
shape_of-out c = written_length c.write_labelled.ensures ∙ written_length c.write_labelled-offset_at.ensures

pub returns-in-Some : goal.returns-in-Some
unfolding mark_of origin_of
returns-in-Some c = rw c.in-Some.is (written_append c.write_labelled-offset_at.ensures c.write_labelled.ensures)
