-- `wide_at` accepts 16 bytes whose high half is zero.
use mathlib.Core.Path.{◌≡◌, sym, ◌∙◌}
use Prim.Native.Nat.{◌+◌}
use native.Mathlib.Omega.{arith}
use Rattle.number.specs.Be.{be}
use Rattle.number.specs.Part.{part}
use Rattle.object.specs.Found.{found_of}
use Rattle.object.proofs.Wide.{wide_high, wide_low}
use Rattle.object.proofs.read.wide_at.Goals as goal

pub returns-then-be_at-ne0 : goal.returns-then-be_at-ne0
unfolding found_of
returns-then-be_at-ne0 c =
    let a = c.args in
    sym (wide_high a.file.now (a.offset + 1) (omega arith) (λ z. c.if-be_at-ne0.true (c.be_at.ensures ∙ z)))

pub returns : goal.returns
returns c =
    let a = c.args in
    let q : a.offset + 1 + 8 ≡ a.offset + 9 = omega arith in
    let low : c.be_at-2.result ≡ be (part a.file.now (a.offset + 1 + 8) 8) = rw q c.be_at-2.ensures in
    let high : be (part a.file.now (a.offset + 1) 8) ≡ 0 = sym c.be_at.ensures ∙ c.if-be_at-ne0.false in
    rw (c.integer.ensures, low) (sym (wide_low a.file.now (a.offset + 1) (omega arith) high (omega arith)))
