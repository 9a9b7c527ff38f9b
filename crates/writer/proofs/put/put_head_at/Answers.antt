-- The head stands at its place.
use Rattle.std.proofs.Common.{arith}
use Rattle.writer.proofs.Lent.{lent_put, put_all, lent}
use Rattle.writer.proofs.put.put_head_at.Goals as goal

pub behind-requires : goal.behind-requires
behind-requires c = put_all (lent_put _ _ _ c.requires c.put_head.ensures) (omega arith)

pub returns : goal.returns
returns c = lent (lent_put _ _ _ c.requires c.put_head.ensures) c.behind.ensures
