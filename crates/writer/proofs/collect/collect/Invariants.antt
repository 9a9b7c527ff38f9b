-- The events before e are collected, and event e begins at `at`.
use Rattle.std.proofs.Common.{◌≡◌}
use Rattle.tape.specs.Events.{start_at}
use Rattle.writer.specs.Columns.{Collected}
use Rattle.writer.specs.Index.{Index}
use Rattle.writer.proofs.collect.collect.Given as goal

abbrev pub invariant-loop-e : goal.invariant-loop-e
invariant-loop-e l = (l.at ≡ start_at l.events.tape.now l.e) × Collected l.events.tape.now l.work l.events.n l.e × Index l.events.tape.now l.work l.events.n l.e
