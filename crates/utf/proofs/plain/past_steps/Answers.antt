-- `past_steps`: what is left stands behind a part of the run.
use Rattle.std.proofs.Common.{sym, ◌∙◌}
use Rattle.utf.specs.PlainLaws.{run_plain}
use Rattle.utf.proofs.Runs.{behind_more}
use Rattle.utf.proofs.plain.past_steps.Goals as goal

pub loop-part-preserved : goal.loop-part-preserved
loop-part-preserved c =
    let p = c.in-Some.ensures.cases in
    let rest = c.loop-part.rest.now in
    rw p.2 (behind_more c.args.s.now rest c.args.step c.loop-part.invariant (run_plain c.args.step rest p.0 (rw p.1 at (sym c.are_plain.ensures ∙ c.if-not-are_plain.false))))
