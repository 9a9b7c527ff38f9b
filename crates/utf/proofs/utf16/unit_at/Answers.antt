-- `unit_at` reads two bytes as one unit.
use Prim.Native.Nat.{ℕ, ◌+◌}
use native.Mathlib.Omega.{arith}
use Rattle.utf.proofs.Units.{unit_at}
use Rattle.utf.proofs.utf16.unit_at.Goals as goal

pub overflow_cast-result : goal.overflow_cast-result
overflow_cast-result c = omega (arith, c.type_inv.s c.args.i)

pub overflow_mul-result : goal.overflow_mul-result
overflow_mul-result c = omega (arith, c.type_inv.s c.args.i)

pub overflow_cast-result-2 : goal.overflow_cast-result-2
overflow_cast-result-2 c = omega (arith, c.type_inv.s (c.args.i + 1))

pub overflow_add-result-2 : goal.overflow_add-result-2
overflow_add-result-2 c = omega (arith, c.type_inv.s c.args.i, c.type_inv.s (c.args.i + 1))

pub returns : goal.returns
returns c = unit_at c.args.s.now c.args.i c.requires (λ (k : ℕ). omega (arith, c.type_inv.s k))
