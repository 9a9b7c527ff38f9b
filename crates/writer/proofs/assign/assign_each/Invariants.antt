-- Member by member; what is marked from the start is marked by what is left.
use Rattle.std.proofs.Common.{◌-◌}
use Rattle.writer.specs.Members.{last_of, named_of}
use Rattle.writer.specs.PathLaws.{Walk}
use Rattle.writer.proofs.assign.assign_each.Given as goal

abbrev pub invariant-loop-i : goal.invariant-loop-i
invariant-loop-i l = Walk l.initial.work l.events.n l.first l.stop (last_of l.members) (named_of l.members) l.next l.work l.i l.k

abbrev pub decreases-loop-i : goal.decreases-loop-i
decreases-loop-i l = l.stop - l.i
