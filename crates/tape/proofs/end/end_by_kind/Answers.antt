-- `end_by_kind`: the kind decides, and each class of kinds has a function of its own.
use mathlib.Core.Logic.{inl, inr, ⊎_elim}
use mathlib.Core.Path.{◌≡◌, refl, ap, sym, ◌∙◌}
use native.Mathlib.Omega.{arith}
use lib.ListN.{length, get_or}
use Rattle.tape.specs.End.{after_number, after_negative, after_bytes, end_behind}
use Rattle.tape.proofs.EndLaws.{end_of_law, end_past, behind_none}
use Rattle.tape.proofs.Tests.{one_of_two}
use Rattle.tape.proofs.end.end_by_kind.Goals as goal

pub returns-then-tape-at : goal.returns-then-tape-at
returns-then-tape-at c = sym (end_past _ _ c.if-tape-at.true)

pub returns-in-3 : goal.returns-in-3
unfolding end_behind
returns-in-3 c =
    let a = c.args in
    let h = c.if-tape-at.false in
    let e = end_of_law a.tape.now a.at in
    c.after_number.ensures ∙ ap after_number c.number_at.ensures ∙ sym
    (⊎_elim (λ k. e 0x03 h k)
    (⊎_elim (λ k. e 0x07 h k)
    (⊎_elim (λ k. e 0x0B h k) (λ k. e 0x0D h k))) c.in-3.is)

pub returns-in-4 : goal.returns-in-4
unfolding end_behind
returns-in-4 c = c.after_negative.ensures ∙ ap after_negative c.number_at-in-4.ensures ∙ sym (end_of_law _ _ _ c.if-tape-at.false c.in-4.is)

pub returns-in-5 : goal.returns-in-5
unfolding end_behind
returns-in-5 c =
    let a = c.args in
    let h = c.if-tape-at.false in
    let e = end_of_law a.tape.now a.at in
    let k = get_or a.tape.now a.at 0 in
    let three : k ≡ 0x03 → ⊥ = λ z. c.in-5.in_default-own.rest.0.1 (inl z) in
    let four : k ≡ 0x04 → ⊥ = c.in-5.in_default-own.rest.1 in
    c.after_size.ensures ∙ sym (⊎_elim (λ z. e 0x05 h z) (λ z. e 0x06 h z) (one_of_two k 0x05 (omega arith) c.in-5.if-this-lt7-own.true))

pub returns-in-8 : goal.returns-in-8
unfolding end_behind
returns-in-8 c =
    let a = c.args in
    let h = c.if-tape-at.false in
    let e = end_of_law a.tape.now a.at in
    let k = get_or a.tape.now a.at 0 in
    let seven : k ≡ 0x07 → ⊥ = λ z. c.in-8.in_default-own.rest.0.1 (inr (inl z)) in
    c.after_bytes.ensures ∙ ap (after_bytes (length a.tape.now)) c.number_at-in-8.ensures ∙ sym (⊎_elim (λ z. e 0x08 h z) (λ z. e 0x09 h z) (one_of_two k 0x08 (omega arith) c.in-8.if-this-lt10-own.true))

pub returns-in_default : goal.returns-in_default
unfolding end_behind
returns-in_default c = sym (end_of_law _ _ 0 c.if-tape-at.false (omega arith))

pub returns-in_default-2 : goal.returns-in_default-2
returns-in_default-2 c =
    let a = c.args in
    let r = c.in_default.in_default-own.rest in
    sym (end_of_law a.tape.now a.at _ c.if-tape-at.false refl ∙ behind_none a.tape.now _ _ c.in_default.if-this-lt10-own.false r.0.0.1 r.0.1)

pub returns-in-1 : goal.returns-in-1
unfolding end_behind
returns-in-1 c =
    let a = c.args in
    let h = c.if-tape-at.false in
    let e = end_of_law a.tape.now a.at in
    sym (⊎_elim (λ k. e 0x0A h k) (⊎_elim (λ k. e 0x0C h k) (λ k. e 0x0E h k)) c.in-1.is)

pub returns-in-1-2 : goal.returns-in-1-2
unfolding end_behind
returns-in-1-2 c =
    let a = c.args in
    let h = c.if-tape-at.false in
    let e = end_of_law a.tape.now a.at in
    sym (⊎_elim (λ k. e 0x01 h k) (λ k. e 0x02 h k) (one_of_two (get_or a.tape.now a.at 0) 0x01 c.in-1.if-this-lt1-own.false c.in-1.if-this-lt3-own.true))
