-- `put_scalar` looks at the budget, then appends.
use mathlib.Core.Path.{◌∙◌}
use Rattle.plainly.specs.One.{scalar_means}
use Rattle.plainly.proofs.Counting.{over_one, counted_one}
use Rattle.plainly.proofs.put.put_scalar.Goals as goal

pub returns-then-far-eq0 : goal.returns-then-far-eq0
returns-then-far-eq0 c =
    let a = c.args in
    c.over_budget.ensures a.tape.now ∙ over_one a.far.left a.far.held a.tape.now (scalar_means a.file.now a.event a.span) a.offset c.if-far-eq0.true

pub returns : goal.returns
returns c =
    let e = c.append_scalar in
    let a = c.args in
    c.counted.ensures e.new.tape ∙ counted_one a.far.left a.far.held a.tape.now (scalar_means a.file.now a.event a.span) a.offset _ e.new.tape c.if-far-eq0.false c.append_scalar.ensures.result_value c.append_scalar.ensures.tape_after
