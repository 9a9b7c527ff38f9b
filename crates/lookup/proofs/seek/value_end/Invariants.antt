-- `value_end`: every turn takes one event of the value.
use Prim.Native.Nat.{◌-◌}
use lib.ListN.{length}
use Rattle.lookup.proofs.Walking.{Walk}
use Rattle.lookup.proofs.seek.value_end.Given as goal

abbrev pub invariant-loop-at : goal.invariant-loop-at
invariant-loop-at l = Walk l.tape l.from l.at l.depth

abbrev pub decreases-loop-at : goal.decreases-loop-at
decreases-loop-at l = length l.tape - l.at
