-- The root's number, then event by event.
use Rattle.writer.specs.Columns.{Indexed}
use Rattle.writer.specs.Marks.{Numbered}
use Rattle.writer.proofs.assign.assign.Given as goal

abbrev pub invariant-loop-e : goal.invariant-loop-e
invariant-loop-e l = Indexed l.events.tape.now l.work l.events.n × Numbered l.events.tape.now l.work l.events.n l.e l.k
