-- `object_at`: nothing at or above T; else what the marker's kind says.
use mathlib.Core.Path.{sym, ◌∙◌}
use Prim.Native.Nat.{◌<◌}
use native.Mathlib.Omega.{arith}
use lib.ListN.{get_or}
use Rattle.object.specs.Found.{found_of}
use Rattle.object.specs.KindLaws.{width_pos, width_le}
use Rattle.object.specs.ObjectLaws.{object_outside, object_inside}
use Rattle.object.proofs.read.object_at.Goals as goal

pub returns-then-file-lt32 : goal.returns-then-file-lt32
unfolding found_of
returns-then-file-lt32 c = sym (object_outside _ _ _ (omega arith))

pub returns-then-file-offset : goal.returns-then-file-offset
unfolding found_of
returns-then-file-offset c = sym (object_outside _ _ _ c.if-file-offset.true)

pub by_kind-requires : goal.by_kind-requires
by_kind-requires c =
    let a = c.args in
    let h : get_or a.file.now a.offset 0 < 256 = omega (arith, c.type_inv.file a.offset) in
    (omega arith, rw c.kind_of.ensures (width_pos _ h), rw c.kind_of.ensures (width_le _ h))

pub returns : goal.returns
returns c = rw c.kind_of.ensures at c.by_kind.ensures ∙ sym (object_inside _ _ _ (omega arith))
