-- `note_end` puts a container's end, which is its kind alone.
use mathlib.Core.Path.{ap, ◌∙◌}
use Rattle.transcribe.proofs.Noting.{put_unchecked, end_put}
use Rattle.transcribe.specs.Note.{from_tape}
use Rattle.transcribe.proofs.note.note_end.Goals as goal

pub noted-requires : goal.noted-requires
noted-requires c = rw c.put_kind.ensures.result_value (put_unchecked _ _ _)

pub returns : goal.returns
returns c =
    let a = c.args in
    let p = c.put_kind in
    let t = end_put a.tape.now a.held (p.ensures.result_value, p.ensures.tape_after) in
    (record { result_value = c.noted.ensures ∙ ap from_tape t.0; tape_after = t.1 })
