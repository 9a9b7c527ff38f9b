-- `judge`: 23, then 20, and else the event's way.
use mathlib.Core.List.{[]}
use mathlib.Core.Path.{◌≡◌, sym, ◌∙◌}
use borrow.Author.Tests.{not-true, not-false}
use Rattle.event.specs.Meaning.{meaning_of}
use Rattle.grammar.specs.Turn.{is_nothing, turn_of}
use Rattle.grammar.specs.TurnLaws.{turn_any}
use Rattle.grammar.specs.Way.{way_of}
use Rattle.tape.specs.Code.{allowed}
use Rattle.builder.specs.Build.{judge_of}
use Rattle.builder.specs.SaneLaws.{due_none, due_some}
use Rattle.builder.specs.State.{due_of}
use Rattle.builder.proofs.build.judge.Goals as goal

pub returns-then-due-gt3 : goal.returns-then-due-gt3
unfolding judge_of is_nothing
returns-then-due-gt3 c = rw (due_none c.args.due c.if-due-gt3.true)

pub returns-then-is_bad : goal.returns-then-is_bad
unfolding judge_of
returns-then-is_bad c =
    let a = c.args in
    rw (due_some a.due c.if-due-gt3.false, not-true (allowed (meaning_of a.event a.bytes.now)) (sym c.is_bad.ensures ∙ c.if-is_bad.true))

pub returns : goal.returns
unfolding judge_of way_of
returns c =
    let a = c.args in
    let d = c.due_of.ensures in
    let t : turn_of (due_of a.due) (meaning_of a.event a.bytes.now) ≡ turn_of (due_of a.due) (meaning_of a.event []) = turn_any (due_of a.due) a.event a.bytes.now in
    rw (due_some a.due c.if-due-gt3.false, not-false (allowed (meaning_of a.event a.bytes.now)) (sym c.is_bad.ensures ∙ c.if-is_bad.false), t)
    (rw d at c.way_of.ensures)
