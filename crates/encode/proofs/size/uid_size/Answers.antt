-- `uid_size`: a marker and the size of the number.
use native.Mathlib.Omega.{arith}
use Rattle.number.specs.SizeLaws.{sized, sized_le}
use Rattle.encode.specs.Size.{uid_size}
use Rattle.encode.proofs.size.uid_size.Goals as goal

pub returns-in_err-n : goal.returns-in_err-n
unfolding uid_size
returns-in_err-n c = rw c.in_err-n.was c.from_residual.ensures

pub overflow_add-size_for : goal.overflow_add-size_for
overflow_add-size_for c = omega (arith, c.size_for.ensures, sized_le (sized c.in_ok-n.n))

pub returns : goal.returns
unfolding uid_size
returns c = rw (c.in_ok-n.was, ← c.size_for.ensures) c.bytes_alone.ensures
