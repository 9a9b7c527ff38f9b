-- `append_scalar` appends the event with its bytes, wherever they stand.
use mathlib.Core.Path.{ap, ◌∙◌}
use native.Mathlib.Omega.{arith}
use Rattle.event.specs.Meaning.{Meaning}
use Rattle.tape.specs.Append.{put_of, put_to}
use Rattle.tape.specs.Code.{bytes_for}
use Rattle.plainly.proofs.Scalars.{none_means, file_end, file_means, utf16_end, utf16_put}
use Rattle.plainly.proofs.put.append_scalar.Goals as goal

pub overflow_add-end : goal.overflow_add-end
overflow_add-end c = omega (arith, file_end c.requires c.in-InFile.is)

pub slice_bounds-append-end-in-InFile : goal.slice_bounds-append-end-in-InFile
slice_bounds-append-end-in-InFile c = file_end c.requires c.in-InFile.is

pub overflow_add-end-in-InUtf16 : goal.overflow_add-end-in-InUtf16
overflow_add-end-in-InUtf16 c = omega (arith, utf16_end c.requires c.in-InUtf16.is)

pub slice_bounds-append_utf16-end : goal.slice_bounds-append_utf16-end
slice_bounds-append_utf16-end c = utf16_end c.requires c.in-InUtf16.is

pub returns-in-NoBytes : goal.returns-in-NoBytes
returns-in-NoBytes c =
    let a = c.args in
    let m = none_means c.requires c.in-NoBytes.is in
    (record { result_value = c.append.ensures.result_value ∙ ap (λ (x : Meaning). put_of a.tape.now a.held (bytes_for x)) m; tape_after = c.append.ensures.tape_after ∙ ap (λ (x : Meaning). put_to a.tape.now a.held (bytes_for x)) m })

pub returns-in-InFile : goal.returns-in-InFile
returns-in-InFile c =
    let a = c.args in
    let m = file_means c.requires c.in-InFile.is in
    (record { result_value = c.append-in-InFile.ensures.result_value ∙ ap (λ (x : Meaning). put_of a.tape.now a.held (bytes_for x)) m; tape_after = c.append-in-InFile.ensures.tape_after ∙ ap (λ (x : Meaning). put_to a.tape.now a.held (bytes_for x)) m })

pub returns-in-InUtf16 : goal.returns-in-InUtf16
returns-in-InUtf16 c =
    let a = c.args in
    let m = utf16_put c.requires c.in-InUtf16.is a.tape.now a.held in
    (record { result_value = c.append_utf16.ensures.result_value ∙ m.0; tape_after = c.append_utf16.ensures.tape_after ∙ m.1 })
