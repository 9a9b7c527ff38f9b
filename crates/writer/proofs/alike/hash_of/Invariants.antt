-- Block by block.
use Rattle.std.proofs.Common.{◌≡◌}
use Rattle.writer.specs.Alike.{blocks_of}
use Rattle.writer.proofs.alike.hash_of.Given as goal

abbrev pub invariant-loop-block : goal.invariant-loop-block
invariant-loop-block l = l.h ≡ blocks_of l.bytes l.block-index
