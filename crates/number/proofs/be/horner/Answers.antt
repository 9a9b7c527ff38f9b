-- `horner` reads the number: what is summed is the number of the bytes so far, and fits.
use Rattle.std.proofs.Common.{◌+◌, ◌*◌, ◌^◌, ◌<◌, ◌≤◌, suc, refl, add-one, get_or, length, lit<, lt_of_lt_of_le, arith}
use Rattle.std.proofs.Math.Nat.{pow-le-pow_right}
use Rattle.std.proofs.Math.Seq.{take-suc}
use Rattle.number.specs.Be.{be, onto}
use Rattle.number.specs.BeLaws.{be_snoc, digit_lt}
use Rattle.number.proofs.be.horner.Goals as goal

pub loop-byte-init : goal.loop-byte-init
unfolding be onto
loop-byte-init c = (refl, omega arith)

pub overflow_mul-sum : goal.overflow_mul-sum
overflow_mul-sum c =
    let l = c.loop-byte in
    let le : suc l.byte-index ≤ 8 = omega arith in
    let zero : 0 < 256 = lit< tt in
    let more : l.sum * 256 + 0 < 256 ^ suc l.byte-index = digit_lt l.byte-index l.invariant.1 zero in
    omega (arith, lt_of_lt_of_le more (pow-le-pow_right {n = 256} (lit< tt) le))

pub loop-byte-preserved : goal.loop-byte-preserved
loop-byte-preserved c =
    let l = c.loop-byte in
    let s = c.args.part.now in
    let h : l.byte-index < length s = c.loop-byte-test.true in
    let b : get_or s l.byte-index 0 < 256 = omega (arith, c.type_inv.part l.byte-index) in (
      rw (add-one, take-suc s l.byte-index 0 h, be_snoc, ← l.invariant.0, c.from.ensures),
      rw (add-one, c.from.ensures) (digit_lt l.byte-index l.invariant.1 b),
    )
