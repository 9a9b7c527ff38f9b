-- The product fits, and its high part is below the number of buckets.
use Rattle.std.proofs.Common.{◌+◌, refl, arith}
use Rattle.writer.specs.AlikeLaws.{bucket_lt}
use Rattle.writer.specs.Index.{bucket_of}
use Rattle.writer.proofs.find.bucket_of.Goals as goal

pub returns : goal.returns
unfolding bucket_of
returns c = (refl, bucket_lt c.args.hash (c.args.n + c.args.n) c.requires.0 (omega arith))
