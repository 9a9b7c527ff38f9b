-- `read_halves` reads the number of 16 bytes in two halves.
use mathlib.Core.Path.{◌≡◌, sym}
use Prim.Native.Nat.{◌-◌}
use native.Mathlib.Omega.{arith}
use lib.ListN.{length, drop, length-drop}
use lib.Seq.{length-take-le, take_all}
use borrow.Author.Tests.{eq-eqb, ne_eqb}
use Rattle.number.specs.Read.{halves_of}
use Rattle.number.proofs.be.read_halves.Goals as goal

pub returns-then-part-ne16 : goal.returns-then-part-ne16
unfolding halves_of
returns-then-part-ne16 c = rw (ne_eqb _ _ c.if-part-ne16.true)

pub slice_bounds-horner-end : goal.slice_bounds-horner-end
slice_bounds-horner-end c = sym (length-take-le 8 c.args.part.now (omega arith))

pub horner-high-requires : goal.horner-high-requires
horner-high-requires c = rw (length-take-le 8 c.args.part.now (omega arith)) (omega arith)

pub returns : goal.returns
unfolding halves_of
returns c =
    let s = c.args.part.now in
    let e : length s ≡ 16 = omega arith in
    rw (eq-eqb _ _ e, c.horner-high.ensures, c.horner-low.ensures, take_all (length s - 8) (drop 8 s) (rw length-drop (omega arith)))
