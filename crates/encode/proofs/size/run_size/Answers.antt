-- `run_size`: a head has ten bytes at most, so the sum fits.
use native.Mathlib.Omega.{arith}
use Rattle.encode.specs.SizeLaws.{head_size_le}
use Rattle.encode.proofs.size.run_size.Goals as goal

pub overflow_add-result : goal.overflow_add-result
overflow_add-result c = omega (arith, c.head_size.ensures, head_size_le c.args.length)
