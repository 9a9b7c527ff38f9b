-- `note_start` puts a container's kind and its length.
use mathlib.Core.Path.{ap, ◌∙◌}
use Rattle.layout.specs.Said.{shape_said}
use Rattle.layout.specs.Looked.{array, dictionary}
use Rattle.transcribe.proofs.Noting.{put_unchecked, start_put}
use Rattle.transcribe.specs.Note.{from_tape}
use Rattle.transcribe.proofs.note.note_start.Goals as goal

pub noted-requires : goal.noted-requires
noted-requires c = rw c.put_number.ensures.result_value (put_unchecked _ _ _)

pub noted-requires-in-Dictionary : goal.noted-requires-in-Dictionary
noted-requires-in-Dictionary c = rw c.put_number-in-Dictionary.ensures.result_value (put_unchecked _ _ _)

pub returns-in-Array : goal.returns-in-Array
unfolding shape_said
returns-in-Array c =
    let a = c.args in
    let p = c.put_number in
    let t = start_put a.tape.now a.held array a.length (p.ensures.result_value, p.ensures.tape_after) in
    rw c.in-Array.is (record { result_value = c.noted.ensures ∙ ap from_tape t.0; tape_after = t.1 })

pub returns-in-Dictionary : goal.returns-in-Dictionary
unfolding shape_said
returns-in-Dictionary c =
    let a = c.args in
    let p = c.put_number-in-Dictionary in
    let t = start_put a.tape.now a.held dictionary a.length (p.ensures.result_value, p.ensures.tape_after) in
    rw c.in-Dictionary.is (record { result_value = c.noted-in-Dictionary.ensures ∙ ap from_tape t.0; tape_after = t.1 })
