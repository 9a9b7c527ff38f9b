-- `next_value`: the first byte tells how many there are.
use Rattle.std.proofs.Common.{arith}
use Rattle.utf.specs.ToUtf16Walk.{no_value, next_whole, next_cut}
use Rattle.utf.proofs.to_utf16.next_value.Goals as goal

pub returns-in_default : goal.returns-in_default
returns-in_default c = no_value c.args.s.now (omega arith)

pub returns-in_err-sequence : goal.returns-in_err-sequence
returns-in_err-sequence c =
    rw c.from_residual.ensures (next_cut c.args.s.now (omega arith) c.size_from.result c.size_from.ensures.0 c.in_err-sequence.ensures.cases)

pub returns : goal.returns
returns c =
    let p = c.in_ok-sequence.ensures.cases in
    let v = c.value_of.ensures in
    rw p.2 (next_whole c.args.s.now (omega arith) c.size_from.result c.size_from.ensures.0 p.0 c.value_of.result (rw p.1 at v.0) v.1)
