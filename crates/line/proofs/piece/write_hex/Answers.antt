-- `write_hex` stores two digits for each byte: those stored, with those left behind them, are the whole.
use Rattle.std.proofs.Common.{◌∙◌, arith}
use Rattle.std.proofs.Math.ListN.{length-set, drop_of_length-le}
use Rattle.line.specs.Line.{hex}
use Rattle.line.specs.LineLaws.{length_hex}
use Rattle.line.proofs.Turns.{next_hex}
use Rattle.line.proofs.piece.write_hex.Goals as goal

pub bounds-out-to : goal.bounds-out-to
bounds-out-to c = omega (arith, length_hex c.args.s.now)

pub overflow_add-out : goal.overflow_add-out
overflow_add-out c = omega (arith, length_hex c.args.s.now)

pub bounds-out-to-in-loop-byte : goal.bounds-out-to-in-loop-byte
bounds-out-to-in-loop-byte c = simp length-set (omega (arith, length_hex c.args.s.now))

pub overflow_add-to : goal.overflow_add-to
overflow_add-to c = omega (arith, length_hex c.args.s.now)

pub loop-byte-preserved : goal.loop-byte-preserved
loop-byte-preserved c =
    let l = c.loop-byte in
    let e = next_hex l.out c.args.s.now l.to l.byte-index c.loop-byte-test.true in
    (omega arith, rw (c.hex_digit.ensures, c.hex_digit-in-loop-byte.ensures) (e ∙ l.invariant.1))

pub returns : goal.returns
unfolding hex
returns c =
    let l = c.loop-byte in
    let s = c.args.s.now in
    record { place = omega (arith, length_hex s); memory = rw (drop_of_length-le s {i = l.byte-index} c.loop-byte-test.false) at l.invariant.1 }
