-- Event by event.
use Rattle.writer.proofs.Events.{Passed}
use Rattle.writer.proofs.put.put_objects.Given as goal

abbrev pub invariant-loop-e : goal.invariant-loop-e
invariant-loop-e l = Passed l.events.tape.now l.events.n l.initial.out l.work l.out l.pos l.e
