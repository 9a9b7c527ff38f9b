-- `be_at` reads eight bytes and drops those behind the number.
use native.Mathlib.Omega.{arith}
use Rattle.number.specs.BeLaws.{bytes_of_law}
use Rattle.object.specs.EightLaws.{shifted}
use Rattle.object.proofs.content.be_at.Goals as goal

pub returns : goal.returns
returns c =
    let a = c.args in
    let p = c.requires in
    let b = bytes_of_law a.file.now (λ i. omega (arith, c.type_inv.file i)) in
    rw c.read_eight-eight.ensures (shifted a.file.now a.at a.width b p.1 p.2)
