-- `zm_transcribe` hands on the transcript: its ending as numbers, the memory as it is.
use mathlib.Core.Path.{ap, ◌∙◌}
use Rattle.transcribe.specs.Run.{Run}
use Rattle.exports.specs.Transcript.{end_code, end_place, end_marker}
use Rattle.exports.proofs.transcript.zm_transcribe.Goals as goal

pub returns : goal.returns
returns c =
    let e = c.transcribe-transcript.ensures.scratch_after in
    let code = c.end_of-end.ensures.code ∙ ap (λ (z : Run). end_code z.ending) e in
    let place = c.end_of-end.ensures.place ∙ ap (λ (z : Run). end_place z.ending) e in
    let marker = c.end_of-end.ensures.marker ∙ ap (λ (z : Run). end_marker z.ending) e in
    (record { value = code; held_after = ap (λ (z : Run). z.held) e; place_after = place; marker_after = marker; tape_after = ap (λ (z : Run). z.tape) e; scratch_after = ap (λ (z : Run). z.scratch) e; bytes = c.transcribe-transcript.ensures.bytes })
