-- `has_barred`: what is left decides.
use Rattle.std.proofs.Common.{sym, ◌∙◌, arith}
use Rattle.xml.specs.TextLaws.{barred_here, barred_next, barred_end}
use Rattle.xml.proofs.text.has_barred.Goals as goal

pub returns-then-barred_at : goal.returns-then-barred_at
returns-then-barred_at c =
    let l = c.loop-i in
    sym (l.invariant ∙ barred_here c.args.s.now l.i c.loop-i-test.true (sym c.barred_at.ensures ∙ c.if-barred_at.true))

pub loop-i-preserved : goal.loop-i-preserved
loop-i-preserved c =
    let l = c.loop-i in
    l.invariant ∙ barred_next c.args.s.now l.i c.loop-i-test.true (sym c.barred_at.ensures ∙ c.if-barred_at.false)

pub returns : goal.returns
returns c =
    let l = c.loop-i in
    sym (l.invariant ∙ barred_end c.args.s.now l.i (omega arith))
