-- `zm_read_plainly` hands on the reading: its ending as numbers, the tape as it is.
use mathlib.Core.Path.{ap, ◌∙◌}
use Rattle.plainly.specs.Plain.{Plainly}
use Rattle.exports_plain.specs.Plain.{end_code, end_place, end_marker}
use Rattle.exports_plain.proofs.zm_read_plainly.Goals as goal

pub returns : goal.returns
returns c =
    let e = c.read_plainly-reading.ensures in
    let code = c.end_of-end.ensures.code ∙ ap (λ (z : Plainly). end_code z.ending) e in
    let place = c.end_of-end.ensures.place ∙ ap (λ (z : Plainly). end_place z.ending) e in
    let marker = c.end_of-end.ensures.marker ∙ ap (λ (z : Plainly). end_marker z.ending) e in
    (record { value = code; held_after = ap (λ (z : Plainly). z.held) e; place_after = place; marker_after = marker; tape_after = ap (λ (z : Plainly). z.tape) e })
