-- Reference by reference.
use Rattle.std.proofs.Common.{ℕ, ◌-◌, List}
use Rattle.writer.specs.Members.{last_of, named_of}
use Rattle.writer.specs.Speak.{Each}
use Rattle.writer.proofs.Numbers.{Going}
use Rattle.writer.proofs.put.put_each.Given as goal

abbrev pub invariant-loop-i : goal.invariant-loop-i
invariant-loop-i l =
    (ks : List ℕ) → Each l.work l.initial.out l.events.n l.first l.stop (last_of l.members) (named_of l.members) l.width l.from ks → Going l.work l.events.n l.stop (last_of l.members) (named_of l.members) l.initial.out l.from l.width ks l.out l.i l.pos

abbrev pub decreases-loop-i : goal.decreases-loop-i
decreases-loop-i l = l.stop - l.i
