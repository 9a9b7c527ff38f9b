-- `text_length` answers the length, and fills the scratch with the text of a 6x alone.
use mathlib.Core.Path.{sym, ap, ◌∙◌}
use native.Mathlib.Omega.{arith}
use Rattle.reader.specs.Request.{length_said, scratch_after}
use Rattle.reader.specs.Said.{number_of, values_of, text_said, asked_said}
use Rattle.reader.proofs.Inside.{asked_in}
use Rattle.reader.proofs.Utf16.{is_written, no_room, is_text_law, filled}
use Rattle.reader.proofs.request.text_length.Goals as goal

pub overflow_add-start : goal.overflow_add-start
unfolding asked_said
overflow_add-start c =
    let a = c.args in
    let h = rw (sym c.asked_for.ensures ∙ ap asked_said c.in-InUtf16.is) at (asked_in a.file.now a.handed) in
    omega (arith, h.0)

pub slice_bounds-utf16_to_utf8-end : goal.slice_bounds-utf16_to_utf8-end
unfolding asked_said
slice_bounds-utf16_to_utf8-end c =
    let a = c.args in
    let h = rw (sym c.asked_for.ensures ∙ ap asked_said c.in-InUtf16.is) at (asked_in a.file.now a.handed) in
    h.0

pub returns-in-InFile : goal.returns-in-InFile
unfolding length_said scratch_after asked_said text_said
returns-in-InFile c =
    let e = sym c.asked_for.ensures ∙ ap asked_said c.in-InFile.is in
    (record { result_value = rw e; scratch_after = rw e })

pub returns-in-Written : goal.returns-in-Written
unfolding asked_said text_said
returns-in-Written c =
    let a = c.args in
    let p = c.in-InUtf16.part in
    let e = sym c.asked_for.ensures ∙ ap asked_said c.in-InUtf16.is in
    let h = rw e at (asked_in a.file.now a.handed) in
    let u = c.utf16_to_utf8 in (record { result_value = rw e (sym (is_written a.file.now a.scratch.now p.start p.length h.1 a.handed.offset u.result c.utf16_to_utf8.ensures.value _ c.in-Written.is)); scratch_after = rw e (c.utf16_to_utf8.ensures.out_after ∙ filled a.file.now a.scratch.now p.start p.length h.1) })

pub returns-in-NoRoom : goal.returns-in-NoRoom
unfolding asked_said text_said number_of values_of
returns-in-NoRoom c =
    let a = c.args in
    let p = c.in-InUtf16.part in
    let e = sym c.asked_for.ensures ∙ ap asked_said c.in-InUtf16.is in
    let h = rw e at (asked_in a.file.now a.handed) in
    let u = c.utf16_to_utf8 in (record { result_value = rw e (sym (no_room a.file.now a.scratch.now p.start p.length h.1 a.handed.offset u.result c.utf16_to_utf8.ensures.value c.in-NoRoom.is)); scratch_after = rw e (c.utf16_to_utf8.ensures.out_after ∙ filled a.file.now a.scratch.now p.start p.length h.1) })

pub returns-in-NotText : goal.returns-in-NotText
unfolding asked_said
returns-in-NotText c =
    let a = c.args in
    let p = c.in-InUtf16.part in
    let e = sym c.asked_for.ensures ∙ ap asked_said c.in-InUtf16.is in
    let h = rw e at (asked_in a.file.now a.handed) in
    let u = c.utf16_to_utf8 in
    absurd (is_text_law a.file.now a.scratch.now p.start p.length h.1 a.handed.offset u.result c.utf16_to_utf8.ensures.value c.in-NotText.is)

pub returns-in-NoBytes : goal.returns-in-NoBytes
unfolding length_said scratch_after asked_said text_said
returns-in-NoBytes c =
    let e = sym c.asked_for.ensures ∙ ap asked_said c.in-NoBytes.is in
    (record { result_value = rw e; scratch_after = rw e })

pub returns-in-Denied : goal.returns-in-Denied
unfolding length_said scratch_after asked_said text_said
returns-in-Denied c =
    let e = sym c.asked_for.ensures ∙ ap asked_said c.in-Denied.is in
    (record { result_value = rw e; scratch_after = rw e })
