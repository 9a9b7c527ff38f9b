-- `by_kind`: what each kind says.
use mathlib.Core.Path.{sym, ◌∙◌}
use Prim.Native.Nat.{◌+◌, ◌^◌, ◌<◌}
use native.Mathlib.Omega.{arith}
use mir.Facts.{to_z-of_z}
use mir.Syntax.{w64}
use mir.Val.{SFits}
use borrow.Author.Rules.{rules}
use borrow.Author.Tests.{ltb-true, ltb-false}
use Rattle.number.specs.BeLaws.{Bytes, bytes_of_law}
use Rattle.number.specs.PartLaws.{part_lt}
use Rattle.object.specs.Found.{found_of}
use Rattle.object.specs.Object.{unsigned_in, signed_in, wide_in, short_real_in, real_in, date_in, uid_in, by_kind}
use Rattle.object.specs.ObjectLaws.{fixed_inside, fixed_crossing}
use Rattle.object.proofs.read.by_kind.Goals as goal
use Rattle.object.proofs.read.by_kind.Lts as lts
use Rattle.object.proofs.read.by_kind.Reads as reads
use Rattle.object.proofs.read.by_kind.Tie as tie

bytes : (c : lts.After-shared_slice_known tie.the-claims reads.Pre reads.Post) → Bytes c.args.file.now
bytes c = bytes_of_law c.args.file.now (λ i. omega (arith, c.shared_slice_known-1.given i))

pub returns-then-crosses : goal.returns-then-crosses
unfolding by_kind found_of
returns-then-crosses c =
    let a = c.args in
    rw (c.in-Unsigned.is, fixed_crossing a.file.now a.offset c.in-Unsigned.width unsigned_in (ltb-true _ _ (sym c.crosses.ensures ∙ c.if-crosses.true)))

pub be_at-requires : goal.be_at-requires
be_at-requires c =
    let w = rw c.in-Unsigned.is at c.requires in
    (w.1, w.2, omega arith)

pub returns-then-crosses-2 : goal.returns-then-crosses-2
unfolding by_kind found_of
returns-then-crosses-2 c =
    let a = c.args in
    rw (c.in-Signed.is, fixed_crossing a.file.now a.offset 8 signed_in (ltb-true _ _ (sym c.crosses-in-Signed.ensures ∙ c.if-crosses-2.true)))

pub returns-then-crosses-3 : goal.returns-then-crosses-3
unfolding by_kind found_of
returns-then-crosses-3 c =
    let a = c.args in
    rw (c.in-Wide.is, fixed_crossing a.file.now a.offset 16 wide_in (ltb-true _ _ (sym c.crosses-in-Wide.ensures ∙ c.if-crosses-3.true)))

pub returns-then-crosses-4 : goal.returns-then-crosses-4
unfolding by_kind found_of
returns-then-crosses-4 c =
    let a = c.args in
    rw (c.in-ShortReal.is, fixed_crossing a.file.now a.offset 4 short_real_in (ltb-true _ _ (sym c.crosses-in-ShortReal.ensures ∙ c.if-crosses-4.true)))

pub overflow_cast-be_at : goal.overflow_cast-be_at
overflow_cast-be_at c =
    let a = c.args in
    let h : c.be_at-in-ShortReal.result < 256 ^ 4 = rw c.be_at-in-ShortReal.ensures (part_lt a.file.now (a.offset + 1) 4 (omega arith) (bytes c.before.before.before.before.before)) in
    omega arith

pub returns-then-crosses-5 : goal.returns-then-crosses-5
unfolding by_kind found_of
returns-then-crosses-5 c =
    let a = c.args in
    rw (c.in-Real.is, fixed_crossing a.file.now a.offset 8 real_in (ltb-true _ _ (sym c.crosses-in-Real.ensures ∙ c.if-crosses-5.true)))

pub returns-then-crosses-6 : goal.returns-then-crosses-6
unfolding by_kind found_of
returns-then-crosses-6 c =
    let a = c.args in
    rw (c.in-Date.is, fixed_crossing a.file.now a.offset 8 date_in (ltb-true _ _ (sym c.crosses-in-Date.ensures ∙ c.if-crosses-6.true)))

pub returns-then-crosses-7 : goal.returns-then-crosses-7
unfolding by_kind found_of
returns-then-crosses-7 c =
    let a = c.args in
    rw (c.in-Uid.is, fixed_crossing a.file.now a.offset c.in-Uid.width uid_in (ltb-true _ _ (sym c.crosses-in-Uid.ensures ∙ c.if-crosses-7.true)))

pub be_at-requires-in-Uid : goal.be_at-requires-in-Uid
be_at-requires-in-Uid c =
    let w = rw c.in-Uid.is at c.requires in
    (w.1, w.2, omega arith)

pub returns-in-Null : goal.returns-in-Null
unfolding by_kind found_of
returns-in-Null c = rw c.in-Null.is

pub returns-in-False : goal.returns-in-False
unfolding by_kind found_of
returns-in-False c = rw c.in-False.is

pub returns-in-True : goal.returns-in-True
unfolding by_kind found_of
returns-in-True c = rw c.in-True.is

pub returns-in-Fill : goal.returns-in-Fill
unfolding by_kind found_of
returns-in-Fill c = rw c.in-Fill.is

pub returns-else-crosses : goal.returns-else-crosses
unfolding by_kind
returns-else-crosses c =
    let a = c.args in
    rw (c.in-Unsigned.is, fixed_inside a.file.now a.offset c.in-Unsigned.width unsigned_in (ltb-false _ _ (sym c.crosses.ensures ∙ c.if-crosses.false)), c.integer.ensures, c.be_at.ensures)

pub returns-else-crosses-2 : goal.returns-else-crosses-2
unfolding by_kind
returns-else-crosses-2 c =
    let a = c.args in
    let f : SFits w64 c.signed_of.result = search rules in
    rw (c.in-Signed.is, fixed_inside a.file.now a.offset 8 signed_in (ltb-false _ _ (sym c.crosses-in-Signed.ensures ∙ c.if-crosses-2.false)), c.integer-in-Signed.ensures, to_z-of_z f, c.signed_of.ensures, c.be_at-in-Signed.ensures)

pub returns-else-crosses-3 : goal.returns-else-crosses-3
unfolding by_kind
returns-else-crosses-3 c =
    let a = c.args in
    rw (c.in-Wide.is, fixed_inside a.file.now a.offset 16 wide_in (ltb-false _ _ (sym c.crosses-in-Wide.ensures ∙ c.if-crosses-3.false)), c.wide_at.ensures)

pub returns-else-crosses-4 : goal.returns-else-crosses-4
unfolding by_kind found_of
returns-else-crosses-4 c =
    let a = c.args in
    rw (c.in-ShortReal.is, fixed_inside a.file.now a.offset 4 short_real_in (ltb-false _ _ (sym c.crosses-in-ShortReal.ensures ∙ c.if-crosses-4.false)), c.short_real_of.ensures, c.be_at-in-ShortReal.ensures)

pub returns-else-crosses-5 : goal.returns-else-crosses-5
unfolding by_kind found_of
returns-else-crosses-5 c =
    let a = c.args in
    rw (c.in-Real.is, fixed_inside a.file.now a.offset 8 real_in (ltb-false _ _ (sym c.crosses-in-Real.ensures ∙ c.if-crosses-5.false)), c.real_of.ensures, c.be_at-in-Real.ensures)

pub returns-else-crosses-6 : goal.returns-else-crosses-6
unfolding by_kind
returns-else-crosses-6 c =
    let a = c.args in
    rw (c.in-Date.is, fixed_inside a.file.now a.offset 8 date_in (ltb-false _ _ (sym c.crosses-in-Date.ensures ∙ c.if-crosses-6.false)), c.date.ensures, c.be_at-in-Date.ensures)

pub returns-in-Data : goal.returns-in-Data
unfolding by_kind
returns-in-Data c = rw (c.in-Data.is, c.data_at.ensures)

pub returns-in-Utf8 : goal.returns-in-Utf8
unfolding by_kind
returns-in-Utf8 c = rw (c.in-Utf8.is, c.utf8_at.ensures)

pub returns-in-Utf16 : goal.returns-in-Utf16
unfolding by_kind
returns-in-Utf16 c = rw (c.in-Utf16.is, c.utf16_at.ensures)

pub returns-else-crosses-7 : goal.returns-else-crosses-7
unfolding by_kind found_of
returns-else-crosses-7 c =
    let a = c.args in
    rw (c.in-Uid.is, fixed_inside a.file.now a.offset c.in-Uid.width uid_in (ltb-false _ _ (sym c.crosses-in-Uid.ensures ∙ c.if-crosses-7.false)), c.be_at-in-Uid.ensures)

pub returns-in-Array : goal.returns-in-Array
unfolding by_kind
returns-in-Array c = rw (c.in-Array.is, c.array_at.ensures)

pub returns-in-Dictionary : goal.returns-in-Dictionary
unfolding by_kind
returns-in-Dictionary c = rw (c.in-Dictionary.is, c.dictionary_at.ensures)

pub returns-in-Unknown : goal.returns-in-Unknown
unfolding by_kind found_of
returns-in-Unknown c = rw c.in-Unknown.is
