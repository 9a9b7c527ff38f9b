-- `next_scalar` reads the scalar value in front of a text: one unit, or two.
use Rattle.std.proofs.Common.{sym, ◌∙◌, arith, inl, inr}
use Rattle.utf.proofs.Scalars.{some_bytes, unit_room, one_unit, next_room, next_low, two_units, front_next}
use Rattle.utf.proofs.utf16.next_scalar.Goals.{in_default-via-then-unit-lt55296, in_default-via-else-unit-lt55296+else-unit-lt56320}
use Rattle.utf.proofs.utf16.next_scalar.Goals as goal

pub unit_at-unit-requires : goal.unit_at-unit-requires
unit_at-unit-requires c = unit_room c.args.s.now 0 c.requires (some_bytes _ (sym c.is_empty.ensures ∙ c.if-is_empty.false))

pub unit_at-next-requires : goal.unit_at-next-requires
unit_at-next-requires c = next_room c.args.s.now 0 c.requires (some_bytes _ (sym c.is_empty.ensures ∙ c.if-is_empty.false)) _ c.unit_at-unit.ensures (omega arith) (omega arith)

pub overflow_sub-scalar-in-55296-to-56319 : goal.overflow_sub-scalar-in-55296-to-56319
overflow_sub-scalar-in-55296-to-56319 c =
    (next_low c.args.s.now 0 c.requires (some_bytes _ (sym c.is_empty.ensures ∙ c.if-is_empty.false)) _ c.unit_at-unit.ensures (omega arith) (omega arith) _ c.unit_at-next.ensures).0

pub slice_bounds-result-count : goal.slice_bounds-result-count
slice_bounds-result-count c = next_room c.args.s.now 0 c.requires (some_bytes _ (sym c.is_empty.ensures ∙ c.if-is_empty.false)) _ c.unit_at-unit.ensures (omega arith) (omega arith)

pub slice_bounds-result-start : goal.slice_bounds-result-start
slice_bounds-result-start c = next_room c.args.s.now 0 c.requires (some_bytes _ (sym c.is_empty.ensures ∙ c.if-is_empty.false)) _ c.unit_at-unit.ensures (omega arith) (omega arith)

pub slice_bounds-result-count-in_default : goal.slice_bounds-result-count-in_default
slice_bounds-result-count-in_default c = unit_room c.args.s.now 0 c.requires (some_bytes _ (sym c.is_empty.ensures ∙ c.if-is_empty.false))

pub slice_bounds-result-start-in_default : goal.slice_bounds-result-start-in_default
slice_bounds-result-start-in_default c = unit_room c.args.s.now 0 c.requires (some_bytes _ (sym c.is_empty.ensures ∙ c.if-is_empty.false))

pub returns-in-55296-to-56319 : goal.returns-in-55296-to-56319
returns-in-55296-to-56319 c =
    let a = two_units c.args.s.now 0 c.requires (some_bytes _ (sym c.is_empty.ensures ∙ c.if-is_empty.false)) _ c.unit_at-unit.ensures (omega arith) (omega arith) _ c.unit_at-next.ensures in
    front_next c.args.s.now _ 4 a.scalar (omega arith) (a.two (omega arith))

pub returns-in_default : goal.returns-in_default
returns-in_default c =
    let a =
    one_unit c.args.s.now 0 c.requires (some_bytes _ (sym c.is_empty.ensures ∙ c.if-is_empty.false)) _ c.unit_at-unit.ensures
    (elim c.in_default.branch [ in_default-via-then-unit-lt55296 w ↦ inl (omega arith) | in_default-via-else-unit-lt55296+else-unit-lt56320 w ↦ inr (omega arith) ]) in
    front_next c.args.s.now _ 2 a.scalar (omega arith) (a.one c.unit_at-unit.ensures.small)
