-- `check_tape` is what is left of the check: every turn takes one event of it.
use Prim.Native.Nat.{◌-◌}
use lib.ListN.{length}
use Rattle.grammar.proofs.Checking.{Stands}
use Rattle.grammar.proofs.check.check_tape.Given as goal

abbrev pub invariant-loop-at : goal.invariant-loop-at
invariant-loop-at l = Stands l.tape l.around l.due l.events l.at

abbrev pub decreases-loop-at : goal.decreases-loop-at
decreases-loop-at l = length l.tape - l.at
