-- `put_text`: simple text stands as it is.
use Rattle.std.proofs.Common.{true, false}
use Rattle.xml.specs.PutLaws.{puts, worded_simple}
use Rattle.xml.proofs.put.put_text.Goals as goal

pub returns-then-key : goal.returns-then-key
returns-then-key c = rw c.if-key.true (worded_simple _ _ true _ _ _ (c.is_simple.ensures c.if-not-is_simple.false) (puts c.put_simple.ensures))

pub returns-else-key : goal.returns-else-key
returns-else-key c = rw c.if-key.false (worded_simple _ _ false _ _ _ (c.is_simple.ensures c.if-not-is_simple.false) (puts c.put_simple-else-key.ensures))
