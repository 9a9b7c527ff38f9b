-- `at_root` looks the root up: nothing is open yet.
use mathlib.Core.Path.{◌≡◌, sym, ap, ◌∙◌}
use native.Mathlib.Omega.{arith}
use Rattle.layout.specs.Layout.{look_of}
use Rattle.layout.specs.ListedLaws.{scalar_seen}
use Rattle.layout.specs.LookLaws.{look_right, placed_scalar, placed_container}
use Rattle.layout.specs.Looked.{container}
use Rattle.layout.specs.Said.{look_said, shape_said}
use Rattle.layout.specs.SaidLaws.{number_listed}
use Rattle.layout.proofs.Counts.{numbered, measured, stands_before}
use Rattle.reader.specs.Machine.{enter, arrive}
use Rattle.reader.specs.Next.{laid_out}
use Rattle.reader.specs.NextLaws.{arrive_refused, arrive_missing}
use Rattle.reader.specs.Said.{number_of, values_of, step_said}
use Rattle.reader.specs.State.{open_of, member_of, advanced, passed, entered}
use Rattle.reader.proofs.step.at_root.Goals as goal
use Rattle.reader.proofs.step.at_root.Goals.{In-Container}

-- the root is a container
found-container : (c : goal.In-Container) → look_of c.args.file.now c.args.layout c.args.root ≡ container (shape_said c.in-Container.shape) c.in-Container.length c.in-Container.offset
unfolding look_said
found-container c = placed_container _ _ _ _ _ (sym c.look_up.ensures.result_value ∙ ap look_said c.in-Container.is)

pub overflow_cast-root : goal.overflow_cast-root
unfolding look_said
overflow_cast-root c =
    let a = c.args in
    omega (arith, (scalar_seen a.file.now a.layout a.root _ _ (placed_scalar _ _ _ _ (sym c.look_up.ensures.result_value ∙ ap look_said c.in-Scalar.is))).numbered)

pub overflow_cast-reader : goal.overflow_cast-reader
overflow_cast-reader c =
    let a = c.args in
    omega (arith, numbered a.file.now a.layout a.root _ _ _ (found-container (goal.at.overflow_cast-reader c).In-Container))

pub overflow_cast-reader-in-Container : goal.overflow_cast-reader-in-Container
overflow_cast-reader-in-Container c =
    let a = c.args in
    omega (arith, measured a.file.now a.layout a.root _ _ _ (found-container (goal.at.overflow_cast-reader-in-Container c).In-Container))

pub overflow_cast-reader-in-Container-2 : goal.overflow_cast-reader-in-Container-2
overflow_cast-reader-in-Container-2 c =
    let a = c.args in
    omega (arith, stands_before a.file.now a.layout a.root _ _ _ (found-container (goal.at.overflow_cast-reader-in-Container-2 c).In-Container))

pub overflow_cast-root-in-Container : goal.overflow_cast-root-in-Container
overflow_cast-root-in-Container c =
    let a = c.args in
    omega (arith, numbered a.file.now a.layout a.root _ _ _ (found-container (goal.at.overflow_cast-root-in-Container c).In-Container))

pub returns-in-Missing : goal.returns-in-Missing
unfolding look_said laid_out number_of values_of
returns-in-Missing c =
    let a = c.args in
    rw c.laid_out.ensures at c.kept.ensures ∙
    sym (arrive_missing a.file.now a.layout (laid_out a.file.now a.layout) a.root _ (look_right a.file.now a.layout a.root) (sym c.look_up.ensures.result_value ∙ ap look_said c.in-Missing.is))

pub returns-in-Refused : goal.returns-in-Refused
unfolding look_said laid_out number_of values_of
returns-in-Refused c =
    let a = c.args in
    c.ended.ensures ∙
    sym (arrive_refused a.file.now a.layout (laid_out a.file.now a.layout) a.root _ _ _ (number_listed c.in-Refused.refusal) _ (sym c.look_up.ensures.result_value ∙ ap look_said c.in-Refused.is))

pub returns-in-Scalar : goal.returns-in-Scalar
unfolding arrive look_said step_said laid_out passed
returns-in-Scalar c = rw (placed_scalar _ _ _ _ (sym c.look_up.ensures.result_value ∙ ap look_said c.in-Scalar.is), c.handed.ensures)

pub returns-in-Container : goal.returns-in-Container
unfolding arrive step_said laid_out enter open_of member_of advanced entered
returns-in-Container c = rw (found-container (goal.at.returns-in-Container c).In-Container, c.laid_out-reader.ensures, c.handed-in-Container.ensures, c.start_of.ensures)
