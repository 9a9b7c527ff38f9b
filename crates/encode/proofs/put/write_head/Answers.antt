-- `write_head` writes the length into the marker, or behind it.
use mathlib.Core.Path.{sym, ◌∙◌}
use native.Mathlib.Omega.{arith}
use lib.ListN.{length-set}
use Rattle.encode.specs.Put.{base_of}
use Rattle.encode.proofs.Heads.{base_le, short_length, short_head, long_length, long_head}
use Rattle.encode.proofs.put.write_head.Goals as goal

pub overflow_add-out : goal.overflow_add-out
overflow_add-out c = omega (arith, c.marker_of.ensures, base_le c.args.base)

pub bounds-out-0 : goal.bounds-out-0
bounds-out-0 c = omega (arith, short_length _ c.if-n-lt15.true)

pub returns-then-n-lt15 : goal.returns-then-n-lt15
returns-then-n-lt15 c =
    let a = c.args in
    let h = c.if-n-lt15.true in
    (record { value = sym (short_length a.n h); out_after = rw (short_head a.n h (base_of a.base), c.marker_of.ensures) })

pub overflow_add-out-2 : goal.overflow_add-out-2
overflow_add-out-2 c = omega (arith, c.marker_of-2.ensures, base_le c.args.base)

pub bounds-out-0-2 : goal.bounds-out-0-2
bounds-out-0-2 c = omega (arith, long_length _ c.if-n-lt15.false)

pub bounds-out-1 : goal.bounds-out-1
bounds-out-1 c = simp length-set (omega (arith, long_length _ c.if-n-lt15.false))

pub write_number-requires : goal.write_number-requires
write_number-requires c = simp length-set (omega (arith, c.size_for-size.ensures, long_length _ c.if-n-lt15.false))

pub returns : goal.returns
returns c =
    let a = c.args in
    let h = c.if-n-lt15.false in
    let s = c.size_for-size.ensures in
    let m = c.marker_of-2.ensures in
    let z = c.size_marker.ensures in
    (record { value = c.write_number.ensures.value ∙ rw (s, long_length a.n h); out_after = c.write_number.ensures.out_after ∙ rw (long_head a.n h (base_of a.base), z, m, s) })
