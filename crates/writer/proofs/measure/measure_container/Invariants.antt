-- The walk passes all members up to the end; then the event behind it and their number are set.
use Rattle.std.proofs.Common.{◌-◌, ◌<◌}
use Rattle.writer.specs.Measure.{Passed}
use Rattle.writer.proofs.measure.measure_container.Given as goal

abbrev pub invariant-loop-events : goal.invariant-loop-events
invariant-loop-events l = Passed l.events.tape.now l.e l.i l.members × (l.i < l.events.n) × (l.members < l.events.n)

abbrev pub decreases-loop-events : goal.decreases-loop-events
decreases-loop-events l = l.events.n - l.i
