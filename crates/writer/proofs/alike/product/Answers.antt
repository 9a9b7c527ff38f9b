-- Both halves are moved first.
use Rattle.writer.specs.Alike.{product_of}
use Rattle.writer.proofs.alike.product.Goals as goal

pub returns : goal.returns
unfolding product_of
returns c = cc
