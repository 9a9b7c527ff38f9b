-- `quick_step`: the kinds with an arm are read as `step` reads them, the others by `step`.
use mathlib.Core.Path.{ap, sym, ◌∙◌}
use Rattle.tape.specs.Item.{numbered, text_in, of_kind}
use Rattle.tape.specs.Kinds.{event_of}
use Rattle.tape.specs.KindsLaws.{item_of, item_past}
use Rattle.tape.specs.SaidLaws.{item_said}
use Rattle.tape.proofs.step.quick_step.Goals as goal

pub returns-then-tape-at : goal.returns-then-tape-at
returns-then-tape-at c = item_said _ _ (sym (item_past _ _ c.if-tape-at.true))

pub returns-in-9 : goal.returns-in-9
unfolding of_kind
returns-in-9 c =
    let a = c.args in
    item_said _ _ (c.text_at.ensures ∙ ap (text_in a.tape.now) c.length_at.ensures ∙ sym (item_of _ _ _ c.if-tape-at.false c.in-9.is))

pub returns-in-10 : goal.returns-in-10
unfolding of_kind
returns-in-10 c = item_said _ _ (c.no_bytes.ensures ∙ sym (item_of _ _ _ c.if-tape-at.false c.in-10.is))

pub returns-in-11 : goal.returns-in-11
unfolding of_kind event_of
returns-in-11 c = item_said _ _ (c.numbered.ensures ∙ ap (numbered (event_of 0x0B)) c.number_at.ensures ∙ sym (item_of _ _ _ c.if-tape-at.false c.in-11.is))

pub returns-in-12 : goal.returns-in-12
unfolding of_kind
returns-in-12 c = item_said _ _ (c.no_bytes-in-12.ensures ∙ sym (item_of _ _ _ c.if-tape-at.false c.in-12.is))

pub returns-in-13 : goal.returns-in-13
unfolding of_kind event_of
returns-in-13 c = item_said _ _ (c.numbered-in-13.ensures ∙ ap (numbered (event_of 0x0D)) c.number_at-in-13.ensures ∙ sym (item_of _ _ _ c.if-tape-at.false c.in-13.is))

pub returns-in-14 : goal.returns-in-14
unfolding of_kind
returns-in-14 c = item_said _ _ (c.no_bytes-in-14.ensures ∙ sym (item_of _ _ _ c.if-tape-at.false c.in-14.is))
