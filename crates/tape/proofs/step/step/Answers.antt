-- `step`: the kind decides, and each class of kinds is read by its own function.
use mathlib.Core.Path.{refl, ap, sym, ◌∙◌}
use Rattle.tape.specs.Item.{numbered, negative, date_in, data_in, text_in, of_kind}
use Rattle.tape.specs.Kinds.{event_of}
use Rattle.tape.specs.KindsLaws.{item_of, item_past, of_none}
use Rattle.tape.specs.SaidLaws.{item_said}
use Rattle.tape.proofs.step.step.Goals as goal

pub returns-then-tape-at : goal.returns-then-tape-at
returns-then-tape-at c = item_said _ _ (sym (item_past _ _ c.if-tape-at.true))

pub returns-in-1 : goal.returns-in-1
unfolding of_kind
returns-in-1 c = item_said _ _ (c.no_bytes.ensures ∙ sym (item_of _ _ _ c.if-tape-at.false c.in-1.is))

pub returns-in-2 : goal.returns-in-2
unfolding of_kind
returns-in-2 c = item_said _ _ (c.no_bytes-in-2.ensures ∙ sym (item_of _ _ _ c.if-tape-at.false c.in-2.is))

pub returns-in-3 : goal.returns-in-3
unfolding of_kind event_of
returns-in-3 c = item_said _ _ (c.numbered.ensures ∙ ap (numbered (event_of 0x03)) c.number_at.ensures ∙ sym (item_of _ _ _ c.if-tape-at.false c.in-3.is))

pub returns-in-4 : goal.returns-in-4
unfolding of_kind
returns-in-4 c = item_said _ _ (c.negative.ensures ∙ ap negative c.number_at-in-4.ensures ∙ sym (item_of _ _ _ c.if-tape-at.false c.in-4.is))

pub returns-in-5 : goal.returns-in-5
unfolding of_kind event_of
returns-in-5 c = item_said _ _ (c.numbered-in-5.ensures ∙ ap (numbered (event_of 0x05)) c.eight_at.ensures ∙ sym (item_of _ _ _ c.if-tape-at.false c.in-5.is))

pub returns-in-6 : goal.returns-in-6
unfolding of_kind
returns-in-6 c = item_said _ _ (c.dated.ensures ∙ ap date_in c.eight_at-in-6.ensures ∙ sym (item_of _ _ _ c.if-tape-at.false c.in-6.is))

pub returns-in-7 : goal.returns-in-7
unfolding of_kind event_of
returns-in-7 c = item_said _ _ (c.numbered-in-7.ensures ∙ ap (numbered (event_of 0x07)) c.number_at-in-7.ensures ∙ sym (item_of _ _ _ c.if-tape-at.false c.in-7.is))

pub returns-in-8 : goal.returns-in-8
unfolding of_kind
returns-in-8 c =
    let a = c.args in
    item_said _ _ (c.data_at.ensures ∙ ap (data_in a.tape.now) c.number_at-in-8.ensures ∙ sym (item_of _ _ _ c.if-tape-at.false c.in-8.is))

pub returns-in-9 : goal.returns-in-9
unfolding of_kind
returns-in-9 c =
    let a = c.args in
    item_said _ _ (c.text_at.ensures ∙ ap (text_in a.tape.now) c.number_at-in-9.ensures ∙ sym (item_of _ _ _ c.if-tape-at.false c.in-9.is))

pub returns-in-10 : goal.returns-in-10
unfolding of_kind
returns-in-10 c = item_said _ _ (c.no_bytes-in-10.ensures ∙ sym (item_of _ _ _ c.if-tape-at.false c.in-10.is))

pub returns-in-11 : goal.returns-in-11
unfolding of_kind event_of
returns-in-11 c = item_said _ _ (c.numbered-in-11.ensures ∙ ap (numbered (event_of 0x0B)) c.number_at-in-11.ensures ∙ sym (item_of _ _ _ c.if-tape-at.false c.in-11.is))

pub returns-in-12 : goal.returns-in-12
unfolding of_kind
returns-in-12 c = item_said _ _ (c.no_bytes-in-12.ensures ∙ sym (item_of _ _ _ c.if-tape-at.false c.in-12.is))

pub returns-in-13 : goal.returns-in-13
unfolding of_kind event_of
returns-in-13 c = item_said _ _ (c.numbered-in-13.ensures ∙ ap (numbered (event_of 0x0D)) c.number_at-in-13.ensures ∙ sym (item_of _ _ _ c.if-tape-at.false c.in-13.is))

pub returns-in-14 : goal.returns-in-14
unfolding of_kind
returns-in-14 c = item_said _ _ (c.no_bytes-in-14.ensures ∙ sym (item_of _ _ _ c.if-tape-at.false c.in-14.is))

pub returns-in_default : goal.returns-in_default
returns-in_default c = item_said _ _ (sym (item_of _ _ _ c.if-tape-at.false refl ∙ of_none _ _ _ c.in_default.in_default-own.rest))
