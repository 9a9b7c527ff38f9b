-- No event that the search met has the bytes; where it ends, event e is the first that has them.
use Rattle.std.proofs.Common.{◌-◌}
use Rattle.writer.specs.Find.{Search}
use Rattle.writer.proofs.find.find.Given as goal

abbrev pub invariant-loop-met : goal.invariant-loop-met
invariant-loop-met l = Search l.events.tape.now l.work l.events.n l.e l.bytes l.slot l.met l.steps

abbrev pub decreases-loop-met : goal.decreases-loop-met
decreases-loop-met l = l.e - l.steps
