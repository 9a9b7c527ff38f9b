-- `note` puts an event with its bytes from where they stand: the file, or the scratch after a change from UTF-16.
use mathlib.Core.Path.{sym, ap, ◌∙◌}
use native.Mathlib.Omega.{arith}
use lib.Seq.{length-take-le}
use Rattle.number.specs.BeLaws.{bytes_of_law}
use Rattle.reader.specs.Said.{number_of, values_of}
use Rattle.transcribe.specs.Note.{from_tape}
use Rattle.transcribe.specs.Said.{note_said, fail_said}
use Rattle.transcribe.proofs.Noting.{put_unchecked, is_bare, plain_noted, file_end, file_has, file_noted, utf16_end, utf16_has, never_bad, long_noted, text_fits, utf16_noted}
use Rattle.transcribe.proofs.note.note.Goals as goal

pub note_plain-requires : goal.note_plain-requires
note_plain-requires c = is_bare c.requires c.in-NoBytes.is

pub overflow_add-end : goal.overflow_add-end
overflow_add-end c = omega (arith, file_end c.requires c.in-InFile.is)

pub bytes_kind-kind-requires : goal.bytes_kind-kind-requires
bytes_kind-kind-requires c = file_has c.requires c.in-InFile.is

pub slice_bounds-put_bytes-end : goal.slice_bounds-put_bytes-end
slice_bounds-put_bytes-end c = file_end c.requires c.in-InFile.is

pub noted-requires : goal.noted-requires
noted-requires c = rw c.put_bytes.ensures.result_value (put_unchecked _ _ _)

pub overflow_add-end-in-InUtf16 : goal.overflow_add-end-in-InUtf16
overflow_add-end-in-InUtf16 c = omega (arith, utf16_end c.requires c.in-InUtf16.is)

pub slice_bounds-utf16_to_utf8-end : goal.slice_bounds-utf16_to_utf8-end
slice_bounds-utf16_to_utf8-end c = utf16_end c.requires c.in-InUtf16.is

pub bytes_kind-kind-requires-in-Written : goal.bytes_kind-kind-requires-in-Written
bytes_kind-kind-requires-in-Written c =
    utf16_has c.requires c.in-InUtf16.is

pub slice_bounds-put_bytes-end-in-Written : goal.slice_bounds-put_bytes-end-in-Written
slice_bounds-put_bytes-end-in-Written c =
    let u = c.utf16_to_utf8 in
    text_fits c.requires c.in-InUtf16.is c.args.scratch.now u.result c.utf16_to_utf8.ensures.value _ c.utf16_to_utf8.ensures.out_after c.in-Written.is

pub slice_bounds-put_bytes-end-in-Written-2 : goal.slice_bounds-put_bytes-end-in-Written-2
slice_bounds-put_bytes-end-in-Written-2 c =
    let u = c.utf16_to_utf8 in
    sym (length-take-le _ _ (text_fits c.requires c.in-InUtf16.is c.args.scratch.now u.result c.utf16_to_utf8.ensures.value _ c.utf16_to_utf8.ensures.out_after c.in-Written.is))

pub noted-requires-in-Written : goal.noted-requires-in-Written
noted-requires-in-Written c = rw c.put_bytes-in-Written.ensures.result_value (put_unchecked _ _ _)

pub returns-in-NoBytes : goal.returns-in-NoBytes
returns-in-NoBytes c =
    let a = c.args in
    plain_noted c.requires c.in-NoBytes.is a.scratch.now a.tape.now a.held _ _ c.note_plain.ensures.result_value c.note_plain.ensures.tape_after

pub returns-in-InFile : goal.returns-in-InFile
returns-in-InFile c =
    let a = c.args in
    file_noted c.requires c.in-InFile.is a.scratch.now a.tape.now a.held _ _ c.bytes_kind-kind.ensures (c.noted.ensures ∙ ap from_tape c.put_bytes.ensures.result_value) c.put_bytes.ensures.tape_after

pub returns-in-Written : goal.returns-in-Written
returns-in-Written c =
    let u = c.utf16_to_utf8 in
    let a = c.args in
    utf16_noted c.requires c.in-InUtf16.is a.scratch.now u.result c.utf16_to_utf8.ensures.value _ c.utf16_to_utf8.ensures.out_after c.in-Written.is
    (bytes_of_law a.file.now (λ i. omega (arith, c.type_inv.file i)))
    a.tape.now a.held _ _ c.bytes_kind-kind-in-Written.ensures (c.noted-in-Written.ensures ∙ ap from_tape c.put_bytes-in-Written.ensures.result_value) c.put_bytes-in-Written.ensures.tape_after

pub returns-in-NoRoom : goal.returns-in-NoRoom
unfolding note_said fail_said number_of values_of
returns-in-NoRoom c =
    let u = c.utf16_to_utf8 in
    let a = c.args in
    long_noted c.requires c.in-InUtf16.is a.scratch.now u.result c.utf16_to_utf8.ensures.value _ c.utf16_to_utf8.ensures.out_after c.in-NoRoom.is a.tape.now a.held

pub returns-in-NotText : goal.returns-in-NotText
returns-in-NotText c =
    let u = c.utf16_to_utf8 in
    absurd (never_bad c.requires c.in-InUtf16.is c.args.scratch.now u.result c.utf16_to_utf8.ensures.value c.in-NotText.is)
