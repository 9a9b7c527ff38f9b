-- The sums grow from the last event back; they are far below what a word holds.
use Rattle.writer.specs.Measure.{Summed}
use Rattle.writer.proofs.measure.measure.Given as goal

abbrev pub invariant-loop-e : goal.invariant-loop-e
invariant-loop-e l = Summed l.events.tape.now l.work l.events.n l.e l.bytes l.members
