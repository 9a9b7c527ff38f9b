-- `text_part` hands out the file's bytes, or the scratch's first ones for a 6x.
use Prim.Native.Nat.{◌+◌, ◌-◌}
use mathlib.Core.Path.{◌≡◌, sym, ap, ◌∙◌}
use native.Mathlib.Omega.{arith}
use lib.Seq.{length-take-le}
use Rattle.reader.specs.Request.{part_said}
use Rattle.reader.specs.Said.{asked_said}
use Rattle.reader.proofs.Inside.{asked_in}
use Rattle.reader.proofs.Utf16.{is_measured, part_none, part_some}
use Rattle.reader.proofs.request.text_part.Goals as goal

pub overflow_add-end : goal.overflow_add-end
unfolding asked_said
overflow_add-end c =
    let a = c.args in
    let h = rw (sym c.asked_for.ensures ∙ ap asked_said c.in-InFile.is) at (asked_in a.file.now a.handed) in
    omega (arith, h)

pub slice_bounds-result-end : goal.slice_bounds-result-end
unfolding asked_said
slice_bounds-result-end c =
    let a = c.args in
    rw (sym c.asked_for.ensures ∙ ap asked_said c.in-InFile.is) at (asked_in a.file.now a.handed)

pub overflow_add-end-in-InUtf16 : goal.overflow_add-end-in-InUtf16
unfolding asked_said
overflow_add-end-in-InUtf16 c =
    let a = c.args in
    let h = rw (sym c.asked_for.ensures ∙ ap asked_said c.in-InUtf16.is) at (asked_in a.file.now a.handed) in
    omega (arith, h.0)

pub slice_bounds-utf8_length-end : goal.slice_bounds-utf8_length-end
unfolding asked_said
slice_bounds-utf8_length-end c =
    let a = c.args in
    let h = rw (sym c.asked_for.ensures ∙ ap asked_said c.in-InUtf16.is) at (asked_in a.file.now a.handed) in
    h.0

pub returns-in_default : goal.returns-in_default
unfolding asked_said
returns-in_default c =
    let a = c.args in
    let p = c.in-InUtf16.part in
    let e = sym c.asked_for.ensures ∙ ap asked_said c.in-InUtf16.is in
    let h = rw e at (asked_in a.file.now a.handed) in
    let u = c.utf8_length in
    absurd (is_measured a.file.now a.scratch.now p.start p.length h.1 u.result u.ensures c.in_default.is)

pub returns-then-scratch-bytes : goal.returns-then-scratch-bytes
unfolding asked_said
returns-then-scratch-bytes c =
    let a = c.args in
    let p = c.in-InUtf16.part in
    let e = sym c.asked_for.ensures ∙ ap asked_said c.in-InUtf16.is in
    let h = rw e at (asked_in a.file.now a.handed) in
    let u = c.utf8_length in
    rw e (sym (part_none a.file.now a.scratch.now p.start p.length h.1 u.result u.ensures _ c.in-Some.is c.if-scratch-bytes.true))

pub slice_bounds-result-end-in-InUtf16 : goal.slice_bounds-result-end-in-InUtf16
slice_bounds-result-end-in-InUtf16 c =
    let a = c.args in
    sym (length-take-le c.in-Some.bytes a.scratch.now (omega arith))

pub returns-in-InFile : goal.returns-in-InFile
unfolding asked_said part_said
returns-in-InFile c =
    let p = c.in-InFile.part in
    let d : p.start + p.length - p.start ≡ p.length = omega arith in
    rw (sym c.asked_for.ensures ∙ ap asked_said c.in-InFile.is, d)

pub returns-else-scratch-bytes : goal.returns-else-scratch-bytes
unfolding asked_said
returns-else-scratch-bytes c =
    let a = c.args in
    let p = c.in-InUtf16.part in
    let e = sym c.asked_for.ensures ∙ ap asked_said c.in-InUtf16.is in
    let h = rw e at (asked_in a.file.now a.handed) in
    let u = c.utf8_length in
    rw e (sym (part_some a.file.now a.scratch.now p.start p.length h.1 u.result u.ensures _ c.in-Some.is c.if-scratch-bytes.false))

pub returns-in-NoBytes : goal.returns-in-NoBytes
unfolding asked_said part_said
returns-in-NoBytes c = rw (sym c.asked_for.ensures ∙ ap asked_said c.in-NoBytes.is)

pub returns-in-Denied : goal.returns-in-Denied
unfolding asked_said part_said
returns-in-Denied c = rw (sym c.asked_for.ensures ∙ ap asked_said c.in-Denied.is)
