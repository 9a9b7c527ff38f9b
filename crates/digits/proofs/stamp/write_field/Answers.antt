-- `write_field` writes the digits and stores the mark behind them.
use Prim.Native.Nat.{◌<◌}
use native.Mathlib.Omega.{arith}
use lib.ListN.{length}
use Rattle.digits.specs.Stamp.{field}
use Rattle.digits.specs.DigitsLaws.{length_digits}
use Rattle.digits.specs.PutLaws.{written_append, written_cons, written_nil, written_length}
use Rattle.digits.proofs.stamp.write_field.Goals as goal

-- the mark has its place
room : (c : goal.After-slice_known-2-1) → c.write_digits-mark_at.result < length c.args.out.now
room c =
    let a = c.args in
    omega (arith, c.write_digits-mark_at.ensures.place, length_digits a.places a.n)

pub bounds-out-mark_at : goal.bounds-out-mark_at
bounds-out-mark_at c = omega (arith, room c, written_length c.write_digits-mark_at.ensures)

pub overflow_add-result : goal.overflow_add-result
overflow_add-result c = omega (arith, room c)

pub returns : goal.returns
unfolding field
returns c = written_append c.write_digits-mark_at.ensures (written_cons _ _ _ (written_nil _ _))
