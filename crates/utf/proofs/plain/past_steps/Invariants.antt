-- `past_steps`: what is left stands behind a part of the run.
use Rattle.std.proofs.Common.{length}
use Rattle.utf.specs.Plain.{BehindRun}
use Rattle.utf.proofs.plain.past_steps.Given as goal

abbrev pub invariant-loop-part : goal.invariant-loop-part
invariant-loop-part l = BehindRun l.s l.rest

abbrev pub decreases-loop-part : goal.decreases-loop-part
decreases-loop-part l = length l.rest
