-- `write_be` leaves the digits of the number: those not yet written, then what is written, are the whole.
use Rattle.std.proofs.Common.{◌≡◌, ◌∙◌, append-nil, arith}
use Rattle.std.proofs.Math.Seq.{drop-length}
use Rattle.number.specs.Be.{bytes_of}
use Rattle.number.proofs.Turns.{turn}
use Rattle.number.proofs.be.write_be.Goals as goal

pub loop-k-init : goal.loop-k-init
loop-k-init c = rw (drop-length c.args.part.now, append-nil)

pub loop-k-preserved : goal.loop-k-preserved
loop-k-preserved c =
    let l = c.loop-k in
    turn l.part l.k l.left c.loop-k-test.true (omega arith) ∙ l.invariant

pub returns : goal.returns
unfolding bytes_of
returns c =
    let l = c.loop-k in
    let e : l.k ≡ 0 = omega arith in
    rw (e, bytes_of) at l.invariant
