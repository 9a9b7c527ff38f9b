-- `put_event` looks at the budget, then appends.
use mathlib.Core.List.{[]}
use mathlib.Core.Path.{◌∙◌}
use Rattle.event.specs.Meaning.{meaning_of}
use Rattle.plainly.proofs.Counting.{over_one, counted_one}
use Rattle.plainly.proofs.put.put_event.Goals as goal

pub returns-then-far-eq0 : goal.returns-then-far-eq0
returns-then-far-eq0 c =
    let a = c.args in
    c.over_budget.ensures a.tape.now ∙ over_one a.far.left a.far.held a.tape.now (meaning_of a.event []) a.place c.if-far-eq0.true

pub returns : goal.returns
returns c =
    let e = c.append in
    let a = c.args in
    c.counted.ensures e.new.tape ∙ counted_one a.far.left a.far.held a.tape.now (meaning_of a.event []) a.place _ e.new.tape c.if-far-eq0.false c.append.ensures.result_value c.append.ensures.tape_after
