-- Each return is a case of the definition.
use Rattle.std.proofs.Common.{arith, le-ltb, lt-ltb}
use Rattle.writer.specs.Index.{side_of}
use Rattle.writer.proofs.find.side_of.Goals as goal

pub returns-then-steps-lt32 : goal.returns-then-steps-lt32
unfolding side_of
returns-then-steps-lt32 c = rw (lt-ltb _ _ c.if-steps-lt32.true) c.bit.ensures

pub returns-then-i-bytes : goal.returns-then-i-bytes
unfolding side_of
returns-then-i-bytes c = rw (le-ltb _ _ c.if-steps-lt32.false, lt-ltb _ _ c.if-i-bytes.true, ← c.from.ensures) c.bit-then-i-bytes.ensures

pub returns : goal.returns
unfolding side_of
returns c = (rw (le-ltb _ _ c.if-steps-lt32.false, le-ltb _ _ c.if-i-bytes.false), omega arith)
