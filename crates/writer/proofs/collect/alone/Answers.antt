-- Each return is a case of the definition.
use Rattle.std.proofs.Common.{le-ltb, lt-ltb, eq-eqb, ne_eqb}
use Rattle.writer.specs.Collect.{alone_by}
use Rattle.writer.proofs.collect.alone.Goals as goal

pub returns-then-kind-lt10 : goal.returns-then-kind-lt10
unfolding alone_by
returns-then-kind-lt10 c = search lt-ltb

pub returns-then-kind-eq14 : goal.returns-then-kind-eq14
unfolding alone_by
returns-then-kind-eq14 c = search (le-ltb, eq-eqb)

pub returns : goal.returns
unfolding alone_by
returns c = search (le-ltb, ne_eqb)
