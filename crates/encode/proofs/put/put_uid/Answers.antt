-- `put_uid` puts the marker of the size and the number.
use native.Mathlib.Omega.{arith}
use Rattle.encode.specs.Put.{numbered, uid_bytes}
use Rattle.number.specs.SizeLaws.{sized, sized_le}
use Rattle.encode.proofs.Putting.{nothing}
use Rattle.encode.proofs.put.put_uid.Goals as goal

pub returns-in_default : goal.returns-in_default
unfolding numbered
returns-in_default c = rw c.in_default.is (nothing _)

pub overflow_cast-size : goal.overflow_cast-size
overflow_cast-size c = omega (arith, c.size_for-size.ensures, sized_le (sized c.in-Some.n))

pub overflow_add-size : goal.overflow_add-size
overflow_add-size c = omega (arith, c.size_for-size.ensures, sized_le (sized c.in-Some.n))

pub returns : goal.returns
unfolding numbered uid_bytes
returns c =
    rw (c.in-Some.is, ← c.size_for-size.ensures) c.put_marked.ensures
