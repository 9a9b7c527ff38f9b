-- `put_scalar`: the kind decides, and each class of kinds is put by its own function.
use mathlib.Core.List.{[]}
use mathlib.Core.Path.{◌≡◌, refl, ap, sym, ◌∙◌}
use Prim.Native.Nat.{◌+◌}
use native.Mathlib.Omega.{arith}
use Rattle.std.proofs.lemmas.Bool.Decides.{nat_tests}
use lib.ListN.{get_or}
use Rattle.encode.specs.Put.{base_of, numbered, positive, negative, uid_bytes, run_in, headed, text_in, of_kind}
use Rattle.encode.specs.ScalarLaws.{bytes_of_law, bytes_past}
use Rattle.encode.proofs.Putting.{nothing, renamed, said}
use Rattle.encode.proofs.unchecked.put_scalar.Goals as goal

pub returns-then-tape-at : goal.returns-then-tape-at
returns-then-tape-at c = said _ (renamed _ (bytes_past _ _ _ c.if-tape-at.true) (nothing _))

pub returns-in-1 : goal.returns-in-1
unfolding of_kind
returns-in-1 c =
    let a = c.args in
    said _ (renamed _ (bytes_of_law a.tape.now a.at a.units 0x01 c.if-tape-at.false c.in-1.is) c.put_token.ensures)

pub returns-in-2 : goal.returns-in-2
unfolding of_kind
returns-in-2 c =
    let a = c.args in
    said _ (renamed _ (bytes_of_law a.tape.now a.at a.units 0x02 c.if-tape-at.false c.in-2.is) c.put_token-in-2.ensures)

pub returns-in-3 : goal.returns-in-3
unfolding of_kind
returns-in-3 c =
    let a = c.args in
    said _ (renamed _ (ap (numbered positive) c.number_at.ensures ∙ bytes_of_law a.tape.now a.at a.units 0x03 c.if-tape-at.false c.in-3.is) c.put_positive.ensures)

pub returns-in-4 : goal.returns-in-4
unfolding of_kind
returns-in-4 c =
    let a = c.args in
    said _ (renamed _ (ap (numbered negative) c.number_at-in-4.ensures ∙ bytes_of_law a.tape.now a.at a.units 0x04 c.if-tape-at.false c.in-4.is) c.put_negative.ensures)

pub returns-in-5 : goal.returns-in-5
unfolding of_kind
returns-in-5 c =
    let a = c.args in
    said _ (renamed _ (bytes_of_law a.tape.now a.at a.units 0x05 c.if-tape-at.false c.in-5.is) c.put_eight.ensures)

pub returns-in-6 : goal.returns-in-6
unfolding of_kind
returns-in-6 c =
    let a = c.args in
    said _ (renamed _ (bytes_of_law a.tape.now a.at a.units 0x06 c.if-tape-at.false c.in-6.is) c.put_eight-in-6.ensures)

pub returns-in-7 : goal.returns-in-7
unfolding of_kind
returns-in-7 c =
    let a = c.args in
    said _ (renamed _ (ap (numbered uid_bytes) c.number_at-in-7.ensures ∙ bytes_of_law a.tape.now a.at a.units 0x07 c.if-tape-at.false c.in-7.is) c.put_uid.ensures)

pub returns-in-8 : goal.returns-in-8
unfolding of_kind base_of
returns-in-8 c =
    let a = c.args in
    said _ (renamed _ (ap (run_in a.tape.now (headed 0x40)) c.number_at-in-8.ensures ∙ bytes_of_law a.tape.now a.at a.units 0x08 c.if-tape-at.false c.in-8.is) c.put_run.ensures)

pub returns-in-9 : goal.returns-in-9
unfolding of_kind
returns-in-9 c =
    let a = c.args in
    said _ (renamed _ (ap (text_in a.tape.now a.units) c.number_at-in-9.ensures ∙ bytes_of_law a.tape.now a.at a.units 0x09 c.if-tape-at.false c.in-9.is) c.put_text.ensures)

pub returns-in_default : goal.returns-in_default
unfolding of_kind
returns-in_default c =
    let a = c.args in
    let k = get_or a.tape.now a.at 0 in
    let e : of_kind a.tape.now k (a.at + 1) a.units ≡ [] = grind (arith, nat_tests) in
    said _ (renamed _ (sym e ∙ bytes_of_law a.tape.now a.at a.units k c.if-tape-at.false refl) (nothing _))
