-- `utf8_length` counts what the definition counts: what is left of the bytes, with what is counted, decides.
use mathlib.Core.Path.{sym, ◌∙◌}
use mathlib.Core.Logic.{inl, inr}
use native.Mathlib.Omega.{arith}
use Rattle.utf.specs.ScalarLaws.{utf8_size}
use Rattle.utf.proofs.Count.{length_start, count_end, count_odd, count_plain, count_low, count_high, count_alone, count_pair}
use Rattle.utf.proofs.utf16.utf8_length.Goals.{in_default-via-then-unit-lt55296, in_default-via-else-unit-lt55296+else-unit-lt56320+else-unit-lt57344}
use Rattle.utf.proofs.utf16.utf8_length.Goals as goal

pub units-init : goal.units-init
units-init c = (omega arith, omega arith, length_start _)

pub returns-then-s-i : goal.returns-then-s-i
returns-then-s-i c = sym (c.units.invariant.2 ∙ count_end _ _ _ c.if-s-i.true)

pub units-preserved-then-unit-lt56320 : goal.units-preserved-then-unit-lt56320
units-preserved-then-unit-lt56320 c = (
  omega arith,
  omega arith,
  c.units.invariant.2 ∙ count_pair _ _ _ _ c.unit_at-unit.ensures (omega arith) (omega arith) _ c.unit_at-next.ensures (omega arith) (omega arith),
)

pub overflow_add-bytes-in_default : goal.overflow_add-bytes-in_default
overflow_add-bytes-in_default c = omega (arith, c.width_of-bytes.ensures, utf8_size c.unit_at-unit.result)

pub units-preserved : goal.units-preserved
units-preserved c =
    let w = c.width_of-bytes.ensures in (
      omega arith,
      omega (arith, w, utf8_size c.unit_at-unit.result),
      c.units.invariant.2 ∙ count_plain _ _ _ _ c.unit_at-unit.ensures (elim c.in_default.branch [ in_default-via-then-unit-lt55296 w ↦ inl (omega arith) | in_default-via-else-unit-lt55296+else-unit-lt56320+else-unit-lt57344 w ↦ inr (omega arith) ]) ∙ rw w,
    )

pub returns-then-s-i-lt2 : goal.returns-then-s-i-lt2
returns-then-s-i-lt2 c = sym (c.units.invariant.2 ∙ count_odd _ _ _ c.if-s-i.false c.if-s-i-lt2.true c.units.invariant.0)

pub returns-then-s-i-lt2-2 : goal.returns-then-s-i-lt2-2
returns-then-s-i-lt2-2 c = sym (c.units.invariant.2 ∙ count_high _ _ _ _ c.unit_at-unit.ensures (omega arith) (omega arith) c.if-s-i-lt2-2.true)

pub returns-in_default-next : goal.returns-in_default-next
returns-in_default-next c = sym (c.units.invariant.2 ∙ count_alone _ _ _ _ c.unit_at-unit.ensures (omega arith) (omega arith) _ c.unit_at-next.ensures (inl (omega arith)))

pub returns-in_default-next-2 : goal.returns-in_default-next-2
returns-in_default-next-2 c = sym (c.units.invariant.2 ∙ count_alone _ _ _ _ c.unit_at-unit.ensures (omega arith) (omega arith) _ c.unit_at-next.ensures (inr (omega arith)))

pub returns-in-56320-to-57343 : goal.returns-in-56320-to-57343
returns-in-56320-to-57343 c = sym (c.units.invariant.2 ∙ count_low _ _ _ _ c.unit_at-unit.ensures (omega arith) (omega arith))
