-- `deeper`: an end leaves the container that is open, if any is.
use Rattle.std.proofs.Common.{arith}
use Rattle.std.proofs.lemmas.Bool.Decides.{nat_tests}
use Rattle.lookup.specs.Rest.{deeper_by}
use Rattle.lookup.proofs.seek.deeper.Goals as goal

pub returns-in-0-to-9 : goal.returns-in-0-to-9
unfolding deeper_by
returns-in-0-to-9 c = grind (arith, nat_tests)

pub returns-in-10-to-13 : goal.returns-in-10-to-13
unfolding deeper_by
returns-in-10-to-13 c = grind (arith, nat_tests)

pub returns-in_default : goal.returns-in_default
unfolding deeper_by
returns-in_default c = grind (arith, nat_tests)
