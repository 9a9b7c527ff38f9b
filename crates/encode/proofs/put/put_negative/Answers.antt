-- `put_negative` puts the bits of -1 - n.
use Rattle.encode.specs.Put.{numbered, negative}
use Rattle.encode.proofs.Putting.{nothing}
use Rattle.encode.proofs.put.put_negative.Goals as goal

pub returns-in_default : goal.returns-in_default
unfolding numbered
returns-in_default c = rw c.in_default.is (nothing _)

pub returns : goal.returns
unfolding numbered negative
returns c = rw c.in-Some.is c.put_marked.ensures
