-- `head_size` is one byte, or a marker, the length's marker and the length.
use native.Mathlib.Omega.{arith}
use borrow.Author.Tests.{lt-ltb, le-ltb}
use Rattle.number.specs.SizeLaws.{sized, sized_le}
use Rattle.encode.specs.Size.{head_size}
use Rattle.encode.proofs.size.head_size.Goals as goal

pub returns-then-length-lt15 : goal.returns-then-length-lt15
unfolding head_size
returns-then-length-lt15 c = rw (lt-ltb c.args.length 15 (omega arith))

pub overflow_add-result : goal.overflow_add-result
overflow_add-result c = omega (arith, c.size_for.ensures, sized_le (sized c.args.length))

pub returns : goal.returns
unfolding head_size
returns c = rw (le-ltb _ _ c.if-length-lt15.false, c.size_for.ensures)
