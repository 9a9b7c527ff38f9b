-- `number_at` reads the number: the groups read, in front of those that follow, are the whole.
use mathlib.Core.Path.{◌≡◌}
use lib.ListN.{drop}
use Rattle.tape.specs.Value.{number_from}
use Rattle.tape.specs.ValueLoop.{Units, above}
use Rattle.tape.proofs.value.number_at.Given as goal

abbrev pub invariant-loop-i : goal.invariant-loop-i
invariant-loop-i l = Units l.value l.unit × (number_from l.at (drop l.at l.tape) ≡ above l.value l.unit (number_from l.i (drop l.i l.tape)))
