-- `size_of`: the kind decides, and each class of kinds has a function of its own.
use mathlib.Core.Logic.{inl, inr}
use mathlib.Core.Path.{refl, ap, sym, ◌∙◌}
use native.Mathlib.Omega.{arith}
use lib.ListN.{length}
use Rattle.encode.specs.Said.{size_said}
use Rattle.encode.specs.Size.{integer_size, uid_size, data_size, size_behind}
use Rattle.encode.specs.SizeLaws.{size_of, size_past, behind_one, behind_nine, behind_none}
use Rattle.encode.proofs.unchecked.size_of.Goals as goal

pub returns-then-tape-at : goal.returns-then-tape-at
returns-then-tape-at c = ap (size_said _) (sym (size_past _ _ c.if-tape-at.true))

pub returns-in-3 : goal.returns-in-3
unfolding size_behind
returns-in-3 c = ap (size_said _) (c.integer_size.ensures ∙ ap integer_size c.number_at.ensures ∙ sym (size_of _ _ _ c.if-tape-at.false c.in-3.is))

pub returns-in-7 : goal.returns-in-7
unfolding size_behind
returns-in-7 c = ap (size_said _) (c.uid_size.ensures ∙ ap uid_size c.number_at-in-7.ensures ∙ sym (size_of _ _ _ c.if-tape-at.false c.in-7.is))

pub returns-in-8 : goal.returns-in-8
unfolding size_behind
returns-in-8 c =
    let a = c.args in
    ap (size_said _) (c.data_size.ensures ∙ ap (data_size (length a.tape.now)) c.number_at-in-8.ensures ∙ sym (size_of _ _ _ c.if-tape-at.false c.in-8.is))

pub returns-in-9 : goal.returns-in-9
unfolding size_behind
returns-in-9 c = ap (size_said _) (c.text_size.ensures ∙ sym (size_of _ _ _ c.if-tape-at.false c.in-9.is))

pub returns-in-1 : goal.returns-in-1
returns-in-1 c = ap (size_said _) (c.bytes_alone.ensures ∙ sym (size_of _ _ _ c.if-tape-at.false refl ∙ behind_one _ _ _ (omega arith) (omega arith)))

pub returns-in-4 : goal.returns-in-4
returns-in-4 c =
    ap (size_said _) (c.bytes_alone-in-4.ensures ∙ sym (size_of _ _ _ c.if-tape-at.false refl ∙ behind_nine _ _ _ (omega arith) (omega arith)))

pub returns-in_default : goal.returns-in_default
returns-in_default c =
    ap (size_said _) (sym (size_of _ _ _ c.if-tape-at.false refl ∙ behind_none _ _ _ (inl (omega arith)) (omega arith) (omega arith) (omega arith)))

pub returns-in_default-2 : goal.returns-in_default-2
returns-in_default-2 c =
    ap (size_said _) (sym (size_of _ _ _ c.if-tape-at.false refl ∙ behind_none _ _ _ (inr (omega arith)) (omega arith) (omega arith) (omega arith)))
