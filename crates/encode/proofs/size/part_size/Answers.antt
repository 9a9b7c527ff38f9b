-- `part_size` tests as the definition does; no more units than bytes, so twice as many fit.
use mathlib.Core.Path.{sym, ◌∙◌}
use native.Mathlib.Omega.{arith}
use borrow.Author.Tests.{lt-ltb, le-ltb}
use Rattle.encode.specs.Size.{part_size}
use Rattle.encode.specs.SizeLaws.{head_size_le}
use Rattle.encode.proofs.size.part_size.Goals as goal

pub returns-then-is_ascii : goal.returns-then-is_ascii
unfolding part_size
returns-then-is_ascii c = rw (sym c.is_ascii.ensures ∙ c.if-is_ascii.true, ← c.run_size.ensures) c.bytes_alone.ensures

pub returns-then-text-units : goal.returns-then-text-units
unfolding part_size
returns-then-text-units c = rw (sym c.is_ascii.ensures ∙ c.if-is_ascii.false, ← c.units_in-units.ensures, lt-ltb _ _ c.if-text-units.true)

pub overflow_add-result : goal.overflow_add-result
overflow_add-result c = omega (arith, c.head_size.ensures, head_size_le c.units_in-units.result)

pub returns : goal.returns
unfolding part_size
returns c = rw (sym c.is_ascii.ensures ∙ c.if-is_ascii.false, ← c.units_in-units.ensures, le-ltb _ _ c.if-text-units.false, c.head_size.ensures)
