-- `next` goes by the order of R21 (docs/FORMAT.md); what is due in the innermost container, and what it names, decide the rest.
use mathlib.Core.Path.{◌≡◌, refl, sym, ap, ◌∙◌}
use native.Mathlib.Omega.{arith}
use Rattle.number.specs.Width.{width_of}
use Rattle.layout.specs.Frame.{next_in}
use Rattle.layout.specs.Looked.{container}
use Rattle.layout.specs.Said.{shape_said, look_said, number_of as file_number, values_of as file_values}
use Rattle.layout.specs.SaidLaws.{number_listed, due_said_one}
use Rattle.layout.specs.declared.layout.Due.TheVariants.{Close, Member}
use Rattle.reader.specs.Next.{go_on, with_refs, next_of}
use Rattle.reader.specs.NextLaws.{next_ended, next_begin, next_long, next_other, next_many, next_on, next_due}
use Rattle.reader.specs.Said.{number_of, values_of, said, step_said}
use Rattle.reader.specs.State.{open_of, innermost}
use Rattle.reader.proofs.Steps.{Going, due, looked, is_wrong, is_last, closes, Named, is_missing, is_refused, passes, counts, Holding, is_again, is_deep, enters, short_number, short_count, scalar_number, short_offset}
use Rattle.reader.proofs.state.Reader.next.Goals as goal
use Rattle.reader.proofs.state.Reader.next.Goals.{Else-depth-gt-MAX_OPEN, In-Some-width_of, In-Close, In-Container, In-Member}

-- where nothing has been refused yet
sizes : (c : goal.Else-depth-gt-MAX_OPEN) → next_of c.args.file.now c.args.self ≡ go_on c.args.file.now c.args.self (width_of c.args.self.offsets) (width_of c.args.self.refs)
sizes c = next_on c.args.file.now c.args.self c.if-self.false c.if-depth-eq0.false c.if-file-gt-MAX_LENGTH.false c.if-self-file.false c.if-depth-gt-MAX_OPEN.false

-- the call, once its sizes are known
abbrev going : goal.In-Some-width_of → Going
going c =
    let f = c.args.file.now in
    let r = c.args.self in
    record {
      file = f;
      reader = r;
      layout = record { offsets = c.in-Some.offsets; refs = c.in-Some-width_of.refs; count = r.count; table = r.table };
      short = c.if-file-gt-MAX_LENGTH.false;
      few = omega arith;
      some = c.if-depth-eq0.false;
      on = next_due f r c.if-self.false c.if-depth-eq0.false c.if-file-gt-MAX_LENGTH.false c.if-self-file.false c.if-depth-gt-MAX_OPEN.false _ (sym c.width_of.ensures ∙ c.in-Some.is) (sym c.width_of-2.ensures ∙ c.in-Some-width_of.is) refl refl;
    }

-- what is due: the innermost container's end, or an object
due_close : (c : goal.In-Close) → due (going (goal.at.In-Close c).In-Some-width_of) ≡ Close c.in-Close.offset
unfolding innermost
due_close c = sym (due_said_one _ _ c.due_at.ensures) ∙ c.in-Close.is

due_member : (c : goal.In-Member) → due (going (goal.at.In-Member c).In-Some-width_of) ≡ Member c.in-Member.object
unfolding innermost
due_member c = sym (due_said_one _ _ c.due_at.ensures) ∙ c.in-Member.is

abbrev named : goal.In-Member → Named
named c = record { going = going (goal.at.In-Member c).In-Some-width_of; object = c.in-Member.object; is = due_member c }

-- which is a container
found-container : (c : goal.In-Container) → looked (named (goal.at.In-Container c).In-Member) ≡ container (shape_said c.in-Container.shape) c.in-Container.length c.in-Container.offset
unfolding look_said
found-container c = sym c.look_up.ensures.result_value ∙ ap look_said c.in-Container.is

abbrev holding : goal.In-Container → Holding
holding c = record { named = named (goal.at.In-Container c).In-Member; shape = shape_said c.in-Container.shape; count = c.in-Container.length; offset = c.in-Container.offset; is = found-container c }

pub returns-then-self : goal.returns-then-self
returns-then-self c = c.begin.ensures ∙ sym (next_begin c.args.file.now c.args.self c.if-self.true)

pub returns-then-depth-eq0 : goal.returns-then-depth-eq0
unfolding step_said said
returns-then-depth-eq0 c = sym (next_ended c.args.file.now c.args.self c.if-self.false c.if-depth-eq0.true)

pub returns-then-file-gt-MAX_LENGTH : goal.returns-then-file-gt-MAX_LENGTH
unfolding number_of values_of file_number file_values
returns-then-file-gt-MAX_LENGTH c = c.kept.ensures ∙ sym (next_long c.args.file.now c.args.self c.if-self.false c.if-depth-eq0.false c.if-file-gt-MAX_LENGTH.true)

pub returns-then-self-file : goal.returns-then-self-file
unfolding number_of values_of
returns-then-self-file c = c.kept-then-self-file.ensures ∙ sym (next_other c.args.file.now c.args.self c.if-self.false c.if-depth-eq0.false c.if-file-gt-MAX_LENGTH.false c.if-self-file.true)

pub returns-then-depth-gt-MAX_OPEN : goal.returns-then-depth-gt-MAX_OPEN
unfolding number_of values_of
returns-then-depth-gt-MAX_OPEN c = c.kept-then-depth-gt-MAX_OPEN.ensures ∙ sym (next_many c.args.file.now c.args.self c.if-self.false c.if-depth-eq0.false c.if-file-gt-MAX_LENGTH.false c.if-self-file.false c.if-depth-gt-MAX_OPEN.true)

pub returns-in_default : goal.returns-in_default
unfolding go_on number_of values_of
returns-in_default c = c.kept-in_default.ensures ∙ sym (sizes (goal.at.returns-in_default c).Else-depth-gt-MAX_OPEN ∙ rw (sym c.width_of.ensures ∙ c.in_default.is))

pub returns-in_default-width_of : goal.returns-in_default-width_of
unfolding go_on with_refs number_of values_of
returns-in_default-width_of c =
    c.kept-in_default-width_of.ensures ∙
    sym (sizes (goal.at.returns-in_default-width_of c).Else-depth-gt-MAX_OPEN ∙ rw (sym c.width_of.ensures ∙ c.in-Some.is, sym c.width_of-2.ensures ∙ c.in_default-width_of.is))

pub returns-in-Wrong : goal.returns-in-Wrong
unfolding innermost number_of values_of
returns-in-Wrong c = c.kept-in-Wrong.ensures ∙ is_wrong (going (goal.at.returns-in-Wrong c).In-Some-width_of) (sym (due_said_one _ _ c.due_at.ensures) ∙ c.in-Wrong.is)

pub returns-then-top-eq0 : goal.returns-then-top-eq0
unfolding step_said innermost
returns-then-top-eq0 c = rw c.handed.ensures (is_last (going (goal.at.returns-then-top-eq0 c).In-Some-width_of) _ (due_close (goal.at.returns-then-top-eq0 c).In-Close) c.if-top-eq0.true)

pub returns-in-Close : goal.returns-in-Close
unfolding step_said innermost
returns-in-Close c = rw c.handed-in-Close.ensures (closes (going (goal.at.returns-in-Close c).In-Some-width_of) _ (due_close (goal.at.returns-in-Close c).In-Close) c.if-top-eq0.false)

pub returns-in-Missing : goal.returns-in-Missing
unfolding number_of values_of look_said
returns-in-Missing c = c.kept-in-Missing.ensures ∙ is_missing (named (goal.at.returns-in-Missing c).In-Member) (sym c.look_up.ensures.result_value ∙ ap look_said c.in-Missing.is)

pub returns-in-Refused : goal.returns-in-Refused
unfolding number_of values_of look_said
returns-in-Refused c =
    let e = sym c.look_up.ensures.result_value ∙ ap look_said c.in-Refused.is in
    c.ended.ensures ∙ is_refused (named (goal.at.returns-in-Refused c).In-Member) _ _ _ (number_listed c.in-Refused.refusal) e

pub overflow_add-self : goal.overflow_add-self
unfolding innermost
overflow_add-self c = omega (arith, counts (named (goal.at.overflow_add-self c).In-Member))

pub overflow_cast-object : goal.overflow_cast-object
unfolding look_said
overflow_cast-object c = omega (arith, scalar_number (named (goal.at.overflow_cast-object c).In-Member) _ _ (sym c.look_up.ensures.result_value ∙ ap look_said c.in-Scalar.is))

pub returns-in-Scalar : goal.returns-in-Scalar
unfolding innermost next_in step_said look_said
returns-in-Scalar c = rw c.handed-in-Scalar.ensures (passes (named (goal.at.returns-in-Scalar c).In-Member) _ _ (sym c.look_up.ensures.result_value ∙ ap look_said c.in-Scalar.is))

pub overflow_cast-number : goal.overflow_cast-number
overflow_cast-number c = omega (arith, short_number (holding (goal.at.overflow_cast-number c).In-Container))

pub returns-then-is_open : goal.returns-then-is_open
unfolding open_of number_of values_of
returns-then-is_open c = c.ended-then-is_open.ensures ∙ is_again (holding (goal.at.returns-then-is_open c).In-Container) (sym c.is_open.ensures ∙ c.if-is_open.true)

pub returns-then-depth-ge-MAX_OPEN : goal.returns-then-depth-ge-MAX_OPEN
unfolding open_of number_of values_of
returns-then-depth-ge-MAX_OPEN c = c.ended-then-depth-ge-MAX_OPEN.ensures ∙ is_deep (holding (goal.at.returns-then-depth-ge-MAX_OPEN c).In-Container) (sym c.is_open.ensures ∙ c.if-is_open.false) c.if-depth-ge-MAX_OPEN.true

pub overflow_add-self-in-Container : goal.overflow_add-self-in-Container
unfolding innermost
overflow_add-self-in-Container c = omega (arith, counts (named (goal.at.overflow_add-self-in-Container c).In-Member))

pub overflow_cast-self-in-Container : goal.overflow_cast-self-in-Container
overflow_cast-self-in-Container c = omega (arith, short_count (holding (goal.at.overflow_cast-self-in-Container c).In-Container))

pub overflow_cast-self-in-Container-2 : goal.overflow_cast-self-in-Container-2
overflow_cast-self-in-Container-2 c = omega (arith, short_offset (holding (goal.at.overflow_cast-self-in-Container-2 c).In-Container))

pub returns-in-Container : goal.returns-in-Container
unfolding innermost next_in open_of step_said
returns-in-Container c =
    rw (c.handed-in-Container.ensures, c.start_of.ensures)
    (enters (holding (goal.at.returns-in-Container c).In-Container) (sym c.is_open.ensures ∙ c.if-is_open.false) c.if-depth-ge-MAX_OPEN.false)
