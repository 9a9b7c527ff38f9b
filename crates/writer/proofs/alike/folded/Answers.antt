-- Both halves of the product are added.
use Rattle.std.proofs.Common.{arith}
use Rattle.writer.specs.Alike.{folded_of}
use Rattle.writer.proofs.alike.folded.Goals as goal

pub returns : goal.returns
unfolding folded_of
returns c = (rw c.product-p.ensures, omega arith)
