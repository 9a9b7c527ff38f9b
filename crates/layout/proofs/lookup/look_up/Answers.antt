-- `look_up`: where the bytes of what is found stand.
use mathlib.Core.Path.{◌≡◌, sym, ap, ◌∙◌}
use Rattle.object.specs.Found.{found_of}
use Rattle.object.specs.Object.{Found}
use Rattle.layout.specs.Bytes.{looked_bytes}
use Rattle.layout.specs.FoundLaws.{found_bytes}
use Rattle.layout.specs.Layout.{look_of}
use Rattle.layout.specs.Said.{look_bytes, span_said}
use Rattle.layout.proofs.Looks.{looks}
use Rattle.layout.proofs.lookup.look_up.Goals as goal
use Rattle.layout.proofs.lookup.look_up.Goals.{After-object_at}

says : (c : goal.After-object_at) (x : Found) → found_of c.object_at.result ≡ x → found_bytes x ≡ looked_bytes c.args.file.now (look_of c.args.file.now c.args.layout c.args.object)
says c x e =
    let a = c.args in
    (looks a.file.now a.layout a.object c.in-Some.offset c.if-layout-object.false (sym c.entry_at.ensures ∙ c.in-Some.is) x (sym c.object_at.ensures ∙ e) a.place).1

pub returns-in-Scalar-clause-result_value_2 : goal.returns-in-Scalar-clause-result_value_2
unfolding found_bytes look_bytes span_said found_of
returns-in-Scalar-clause-result_value_2 c = says (goal.at.returns-in-Scalar-clause-result_value_2 c).After-object_at _ (ap found_of c.in-Scalar.is)

pub returns-in-Data-clause-result_value_2 : goal.returns-in-Data-clause-result_value_2
unfolding found_bytes look_bytes span_said found_of
returns-in-Data-clause-result_value_2 c = says (goal.at.returns-in-Data-clause-result_value_2 c).After-object_at _ (ap found_of c.in-Data.is)

pub returns-in-Utf8-clause-result_value_2 : goal.returns-in-Utf8-clause-result_value_2
unfolding found_bytes look_bytes span_said found_of
returns-in-Utf8-clause-result_value_2 c = says (goal.at.returns-in-Utf8-clause-result_value_2 c).After-object_at _ (ap found_of c.in-Utf8.is)

pub returns-in-Utf16-clause-result_value_2 : goal.returns-in-Utf16-clause-result_value_2
unfolding found_bytes look_bytes span_said found_of
returns-in-Utf16-clause-result_value_2 c = says (goal.at.returns-in-Utf16-clause-result_value_2 c).After-object_at _ (ap found_of c.in-Utf16.is)
