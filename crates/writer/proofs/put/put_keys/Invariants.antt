-- Key by key.
use Rattle.std.proofs.Common.{◌-◌, List}
use Rattle.written.specs.Graph.{Name}
use Rattle.writer.specs.Speak.{Keys}
use Rattle.writer.proofs.Saying.{Saying}
use Rattle.writer.proofs.put.put_keys.Given as goal

abbrev pub invariant-loop-i : goal.invariant-loop-i
invariant-loop-i l =
    (kept ks vs : List Name) → Keys l.events.tape.now l.initial.work l.initial.out l.events.n l.first l.stop l.from kept ks vs → Saying l.events.tape.now l.events.n l.stop kept ks l.initial.out l.from l.work l.out l.i l.pos

abbrev pub decreases-loop-i : goal.decreases-loop-i
decreases-loop-i l = l.stop - l.i
