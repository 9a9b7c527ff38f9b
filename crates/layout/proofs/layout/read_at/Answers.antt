-- `read_at` reads eight bytes and drops those behind the number, where eight are left.
use Rattle.std.specs.Prelude.{Some}
use mathlib.Core.Path.{sym, ap, ◌∙◌}
use Prim.Native.Nat.{◌+◌, ◌≤◌}
use native.Mathlib.Omega.{arith}
use borrow.Author.Tests.{le-leb, ltb-false}
use lib.ListN.{length}
use Rattle.number.specs.BeLaws.{bytes_of_law}
use Rattle.object.specs.EightLaws.{shifted}
use Rattle.layout.proofs.layout.read_at.Goals as goal
use Rattle.layout.proofs.layout.read_at.Goals.{Else-lacks_eight}

pub returns-then-lacks_eight : goal.returns-then-lacks_eight
returns-then-lacks_eight c = c.number_near_end.ensures

-- eight bytes are left
left : (c : goal.Else-lacks_eight) → c.args.at + 8 ≤ length c.args.file.now
left c = ltb-false _ _ (sym c.lacks_eight.ensures ∙ c.if-lacks_eight.false)

pub overflow_add-at : goal.overflow_add-at
overflow_add-at c = omega (arith, left (goal.at.overflow_add-at c).Else-lacks_eight)

pub slice_bounds-read_eight-end : goal.slice_bounds-read_eight-end
slice_bounds-read_eight-end c = omega (arith, left (goal.at.slice_bounds-read_eight-end c).Else-lacks_eight)

pub returns : goal.returns
returns c =
    let a = c.args in
    let p = c.requires in
    let h : a.at + a.bytes ≤ length a.file.now = omega (arith, left (goal.at.returns c).Else-lacks_eight) in
    let b = bytes_of_law a.file.now (λ i. omega (arith, c.type_inv.file i)) in
    rw (le-leb _ _ h) (ap Some (rw c.read_eight-eight.ensures (shifted a.file.now a.at a.bytes b p.1 (left (goal.at.returns c).Else-lacks_eight))))
