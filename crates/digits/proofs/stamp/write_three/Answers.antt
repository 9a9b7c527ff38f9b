-- `write_three` writes the three fields one behind the other.
use native.Mathlib.Omega.{arith}
use Rattle.digits.specs.Stamp.{three}
use Rattle.digits.specs.StampLaws.{length_field}
use Rattle.digits.specs.PutLaws.{written_append, written_length}
use Rattle.digits.proofs.stamp.write_three.Goals as goal

pub write_field-third_at-requires : goal.write_field-third_at-requires
write_field-third_at-requires c =
    let w = c.write_field-second_at.ensures in
    omega (arith, rw length_field at w.place, written_length w)

pub write_field-requires : goal.write_field-requires
write_field-requires c =
    let v = c.write_field-second_at.ensures in
    let w = c.write_field-third_at.ensures in
    omega (arith, rw length_field at v.place, rw length_field at w.place, written_length v, written_length w)

pub returns : goal.returns
unfolding three
returns c =
    let u = c.write_field-second_at.ensures in
    let v = c.write_field-third_at.ensures in
    written_append u (written_append v c.write_field.ensures)
