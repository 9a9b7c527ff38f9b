-- `put_lines` puts what is left of the lines: every turn takes one event of it.
use Prim.Native.Nat.{◌-◌}
use lib.ListN.{length}
use Rattle.xml.proofs.Laying.{Stands}
use Rattle.xml.proofs.lines.put_lines.Given as goal

abbrev pub invariant-loop-at : goal.invariant-loop-at
invariant-loop-at l = Stands l.tape l.initial.out l.from l.around l.depth l.due l.at l.to l.out

abbrev pub decreases-loop-at : goal.decreases-loop-at
decreases-loop-at l = length l.tape - l.at
