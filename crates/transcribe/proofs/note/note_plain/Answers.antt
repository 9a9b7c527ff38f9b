-- `note_plain` puts an event without bytes, which the tape always takes.
use mathlib.Core.List.{[]}
use mathlib.Core.Path.{refl, ap, ◌∙◌}
use Rattle.event.specs.Meaning.{meaning_of}
use Rattle.transcribe.specs.HandedLaws.{bare_allowed}
use Rattle.transcribe.specs.Note.{from_tape}
use Rattle.tape.proofs.AppendLaws.{put_event}
use Rattle.transcribe.proofs.Noting.{put_unchecked}
use Rattle.transcribe.proofs.note.note_plain.Goals as goal

pub noted-requires : goal.noted-requires
noted-requires c = rw c.put_plain.ensures.result_value (put_unchecked _ _ _)

pub returns : goal.returns
returns c =
    let a = c.args in
    let t = put_event a.tape.now a.held (meaning_of a.event []) (bare_allowed a.event c.requires) (refl, refl) in (record { result_value = c.noted.ensures ∙ ap from_tape (c.put_plain.ensures.result_value ∙ t.0); tape_after = c.put_plain.ensures.tape_after ∙ t.1 })
