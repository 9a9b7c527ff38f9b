-- `read_plainly` judges the trailer, and reads the root where there is one.
use mathlib.Core.Path.{sym, ap, ◌∙◌}
use Rattle.layout.specs.Said.{trailer_said}
use Rattle.layout.proofs.Short.{laid_short}
use Rattle.reader.specs.Said.{number_of, values_of}
use Rattle.plainly.specs.Says.{trailer_says}
use Rattle.plainly.proofs.Roots.{file_refused, trailer_refused, file_lays}
use Rattle.plainly.proofs.read_plainly.Goals as goal

pub read_root-requires : goal.read_root-requires
unfolding trailer_said
read_root-requires c = laid_short _ _ _ (sym c.trailer_of.ensures ∙ ap trailer_said c.in-Lays.is)

pub returns-in-Keeps : goal.returns-in-Keeps
unfolding trailer_says trailer_said number_of values_of
returns-in-Keeps c =
    let a = c.args in
    let r = c.trailer_of in
    file_refused a.budget a.file.now a.tape.now c.refused.result _ _ _ (trailer_refused a.budget a.file.now a.tape.now r.result r.ensures _ (ap trailer_said c.in-Keeps.is))
    c.refused.ensures.ending_value c.refused.ensures.held_value

pub returns-in-Ends : goal.returns-in-Ends
unfolding trailer_says trailer_said number_of values_of
returns-in-Ends c =
    let a = c.args in
    let r = c.trailer_of in
    file_refused a.budget a.file.now a.tape.now c.refused-in-Ends.result _ _ _ (trailer_refused a.budget a.file.now a.tape.now r.result r.ensures _ (ap trailer_said c.in-Ends.is))
    c.refused-in-Ends.ensures.ending_value c.refused-in-Ends.ensures.held_value

pub returns-in-Lays : goal.returns-in-Lays
returns-in-Lays c =
    let a = c.args in
    let r = c.trailer_of in
    c.read_root.ensures ∙ file_lays a.budget a.file.now a.tape.now r.result r.ensures _ _ c.in-Lays.is
