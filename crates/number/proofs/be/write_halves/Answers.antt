-- `write_halves` leaves the digits of both halves.
use mathlib.Core.Path.{◌∙◌, ◌≡◌, sym}
use Prim.Native.Nat.{◌+◌, ◌-◌}
use Rattle.number.proofs.Turns.{put_halves}
use Rattle.number.specs.BeLaws.{bytes_of_low}
use native.Mathlib.Omega.{arith}
use lib.ListN.{length}
use lib.Seq.{length-take-le}
use borrow.Author.Rules.{rules}
use Rattle.number.proofs.be.write_halves.Goals as goal

pub returns-then-part-le8 : goal.returns-then-part-le8
returns-then-part-le8 c =
    let a = c.args in
    let w = length a.part.now in
    let e : w + (8 - w) ≡ 8 = omega arith in
    c.write_be.ensures ∙ sym (rw e at (bytes_of_low w (8 - w) a.n.high a.n.low))

pub slice_bounds-write_be-end-2 : goal.slice_bounds-write_be-end-2
slice_bounds-write_be-end-2 c =
    let s = c.args.part.now in
    sym (length-take-le (length s - 8) s (omega arith))

pub returns : goal.returns
returns c =
    let a = c.args in
    put_halves a.part.now _ _ a.n.high a.n.low
    c.if-part-le8.false
    (search rules)
    c.write_be-2.ensures
    c.write_be-3.ensures
