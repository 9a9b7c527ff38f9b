-- `read_object` and `read_elements`, which call each other: an object is put as it says (S3 to S6), and the elements of a container that was
-- entered as each of its references says in turn, and then its end.
use mathlib.Core.List.{List, [], ◌∷◌}
use mathlib.Core.Path.{◌≡◌, refl, sym, ap, ◌∙◌}
use Prim.Native.Nat.{ℕ, suc, ◌+◌, ◌-◌, ◌^◌, ◌<◌}
use native.Mathlib.Omega.{arith}
use borrow.Author.Rules.{rules}
use lib.ListN.{length, take, drop, length-set}
use Rattle.std.proofs.lemmas.Result.{err_from_is_err_and}
use Rattle.event.specs.Format.{max_open}
use Rattle.event.specs.Meaning.{meaning_of}
use Rattle.event.specs.declared.Event.{Event}
use Rattle.layout.specs.Looked.{start_of}
use Rattle.layout.specs.References.{references_of}
use Rattle.layout.specs.Said.{look_said, shape_said}
use Rattle.reader.specs.Said.{number_of, values_of}
use Rattle.plainly.specs.Elements.{elements_say}
use Rattle.plainly.specs.ElementsLaws.{due, due_said_law, due_more, due_done, due_counted, never_wrong, early}
use Rattle.plainly.specs.One.{one_put}
use Rattle.plainly.specs.Plain.{say_onto}
use Rattle.plainly.specs.Said.{went_said}
use Rattle.plainly.specs.Says.{object_says}
use Rattle.plainly.proofs.Objects.{over_refused, deeper_opened, outer_opened, object_refused, object_scalar, scalar_stands, is_entered, is_numbered, is_short, object_again, object_deep, object_over, object_on}
use Rattle.plainly.proofs.Turns.{from_on, from_over, from_close}
use Rattle.plainly.proofs.+read_elements_read_object.Goals as goal
use Rattle.plainly.proofs.+read_elements_read_object.Goals.{read_elements-After-due_in, read_elements-After-read_object, read_object-After-put_event}

pub read_elements-loop-tape-init : goal.read_elements-loop-tape-init
read_elements-loop-tape-init t c = (omega arith, refl, refl)

-- what is due
due_here : (t : ℕ) (c : goal.read_elements-After-due_in t) → let a = c.args in due a.file.now a.layout a.frame.object a.frame.length a.frame.offset c.requires.3 c.loop-tape.position ≡ c.due_in.result
due_here t c =
    let a = c.args in
    due_said_law a.file.now a.layout a.frame.object a.frame.length a.frame.offset c.requires.3 c.loop-tape.position c.container_at.result c.due_in.result c.container_at.ensures c.due_in.ensures

pub read_elements-returns-in-Wrong : goal.read_elements-returns-in-Wrong
read_elements-returns-in-Wrong t c =
    let a = c.args in
    let i = c.loop-tape in
    absurd (never_wrong a.file.now a.layout a.frame.object a.frame.length a.frame.offset c.requires.3 i.position i.invariant.0 (due_here t (goal.at.read_elements-returns-in-Wrong t c).After-due_in ∙ c.in-Wrong.is))

pub read_elements-returns-in-Close : goal.read_elements-returns-in-Close
unfolding meaning_of
read_elements-returns-in-Close t c =
    let a = c.args in
    let i = c.loop-tape in
    let d = due_done a.file.now a.layout a.frame.object a.frame.length a.frame.offset c.requires.3 i.position _ (due_here t (goal.at.read_elements-returns-in-Close t c).After-due_in ∙ c.in-Close.is) in
    record {
      tape_after =
          c.put_event.ensures
          ∙ sym (from_close a.file.now a.layout (max_open - a.depth) (take a.depth a.opened.now) a.frame.object a.frame.offset i.position i.far.left i.far.held i.tape i.far.place d)
          ∙ i.invariant.2;
      opened_unchanged = i.invariant.1;
    }

-- the element that is due, and what was put of it
next_due : (t : ℕ) (c : goal.read_elements-After-read_object t) →
    let refs = references_of c.args.file.now c.args.layout c.args.frame.object in
    let p = c.loop-tape.position in
    (drop p refs ≡ c.in-Member.member ∷ drop (p + 1) refs) × (p < length refs)
next_due t c =
    let a = c.args in
    due_more a.file.now a.layout a.frame.object a.frame.length a.frame.offset c.requires.3 c.loop-tape.position _ (due_here t (goal.at.read_elements-After-read_object t c).After-due_in ∙ c.in-Member.is)

element-put : (t : ℕ) (c : goal.read_elements-After-read_object t) →
    let a = c.args in
    let i = c.loop-tape in
    went_said c.read_object.result c.read_object.new.tape
    ≡ say_onto i.far.left i.far.held i.tape (object_says a.file.now a.layout (max_open - a.depth) (take a.depth a.opened.now) i.far.place c.in-Member.member)
element-put t c =
    let a = c.args in
    let i = c.loop-tape in
    c.read_object.ensures.tape_after ∙ ap (λ (o : List ℕ). say_onto i.far.left i.far.held i.tape (object_says a.file.now a.layout (max_open - a.depth) o i.far.place c.in-Member.member)) i.invariant.1

pub read_elements-returns-in_err-far-in-Member : goal.read_elements-returns-in_err-far-in-Member
read_elements-returns-in_err-far-in-Member t c =
    let a = c.args in
    let i = c.loop-tape in
    let r = (goal.at.read_elements-returns-in_err-far-in-Member t c).After-read_object in
    let e = err_from_is_err_and c.from_residual.result c.from_residual.ensures.1 in
    record {
      tape_after =
          rw (e.1, e.2)
          (from_over a.file.now a.layout (max_open - a.depth) (take a.depth a.opened.now) a.frame.object a.frame.offset i.position i.far.left i.far.held i.tape i.far.place _ (next_due t r).0 c.read_object.result
          c.read_object.new.tape (element-put t r) _ c.in_err-far-in-Member.was)
          ∙ i.invariant.2;
      opened_unchanged = c.read_object.ensures.opened_unchanged ∙ i.invariant.1;
    }

pub read_elements-overflow_add-position : goal.read_elements-overflow_add-position
read_elements-overflow_add-position t c =
    let a = c.args in
    let d = due_here t (goal.at.read_elements-overflow_add-position t c).After-due_in ∙ c.in-Member.is in
    omega (arith, due_counted a.file.now a.layout a.frame.object a.frame.length a.frame.offset c.requires.3 c.requires.0 c.loop-tape.position _ d)

pub read_elements-loop-tape-smaller : goal.read_elements-loop-tape-smaller
read_elements-loop-tape-smaller t c = omega (arith, (next_due t (goal.at.read_elements-loop-tape-smaller t c).After-read_object).1)

pub read_elements-loop-tape-preserved : goal.read_elements-loop-tape-preserved
read_elements-loop-tape-preserved t c =
    let a = c.args in
    let i = c.loop-tape in
    let r = (goal.at.read_elements-loop-tape-preserved t c).After-read_object in (
      omega (arith, (next_due t r).1),
      c.read_object.ensures.opened_unchanged ∙ i.invariant.1,
      sym (from_on a.file.now a.layout (max_open - a.depth) (take a.depth a.opened.now) a.frame.object a.frame.offset i.position i.far.left i.far.held i.tape i.far.place _ (next_due t r).0 c.read_object.result
          c.read_object.new.tape (element-put t r) _ c.in_ok-far-in-Member.was)
          ∙ i.invariant.2,
    )

pub read_elements-read_object-requires : goal.read_elements-read_object-requires
read_elements-read_object-requires t c = (omega (arith, c.decreases), (c.requires.0, c.loop-tape.auto.opened ∙ c.requires.1, c.requires.2))

pub read_object-put_scalar-requires : goal.read_object-put_scalar-requires
read_object-put_scalar-requires t c =
    let a = c.args in
    let u = c.look_up in
    scalar_stands a.file.now a.layout (take a.depth a.opened.now) a.far.place a.object u.result u.ensures.result_value _ _ _ c.in-Scalar.is u.ensures.result_value_2

pub read_object-overflow_cast-number : goal.read_object-overflow_cast-number
read_object-overflow_cast-number t c =
    let a = c.args in
    let u = c.look_up in
    let k : a.layout.count < 2 ^ 32 = search rules in
    omega (arith, is_numbered a.file.now a.layout (take a.depth a.opened.now) a.far.place a.object u.result u.ensures.result_value _ _ _ c.in-Container.is, k)

pub read_object-returns-then-is_among-clause-tape_after : goal.read_object-returns-then-is_among-clause-tape_after
unfolding number_of values_of
read_object-returns-then-is_among-clause-tape_after t c =
    let a = c.args in
    let u = c.look_up in
    over_refused c.refused-then-is_among.result _ _ _ _ a.tape.now c.refused-then-is_among.ensures.ending_value c.refused-then-is_among.ensures.held_value
    ∙ object_again a.file.now a.layout (take a.depth a.opened.now) a.far.place a.object u.result u.ensures.result_value _ _ _ c.in-Container.is a.far.left a.far.held a.tape.now (max_open - a.depth)
    (sym c.is_among.ensures ∙ c.if-is_among.true)

pub read_object-returns-then-depth-ge-MAX_OPEN-clause-tape_after : goal.read_object-returns-then-depth-ge-MAX_OPEN-clause-tape_after
unfolding number_of values_of
read_object-returns-then-depth-ge-MAX_OPEN-clause-tape_after t c =
    let a = c.args in
    let u = c.look_up in
    let r = c.refused-then-depth-ge-MAX_OPEN in
    over_refused r.result _ _ _ _ a.tape.now r.ensures.ending_value r.ensures.held_value
    ∙ object_deep a.file.now a.layout (take a.depth a.opened.now) a.far.place a.object u.result u.ensures.result_value _ _ _ c.in-Container.is a.far.left a.far.held a.tape.now (max_open - a.depth)
    (omega (arith, c.if-depth-ge-MAX_OPEN.true)) (sym c.is_among.ensures ∙ c.if-is_among.false)

-- one container more may be opened than inside it
one_more : (depth : ℕ) → depth < max_open → max_open - depth ≡ suc (max_open - (depth + 1))
one_more depth h = omega arith

-- the start of a container was put
start_put : (t : ℕ) (c : goal.read_object-After-put_event t) →
    let a = c.args in
    let g = c.in-Container in
    went_said c.put_event.result c.put_event.new.tape ≡ one_put a.far.left a.far.held a.tape.now (meaning_of (start_of (shape_said g.shape) g.length) []) g.offset
start_put t c =
    let a = c.args in
    c.put_event.ensures ∙ ap (λ (v : Event). one_put a.far.left a.far.held a.tape.now (meaning_of v []) c.in-Container.offset) c.start_of.ensures

pub read_object-overflow_cast-count : goal.read_object-overflow_cast-count
read_object-overflow_cast-count t c =
    let a = c.args in
    let u = c.look_up in
    omega (arith, is_short a.file.now a.layout (take a.depth a.opened.now) a.far.place a.object u.result u.ensures.result_value _ _ _ c.in-Container.is, c.requires.0)

pub read_object-overflow_cast-at : goal.read_object-overflow_cast-at
read_object-overflow_cast-at t c =
    let a = c.args in
    let u = c.look_up in
    omega (arith, early a.file.now a.layout a.object _ _ (is_entered a.file.now a.layout (take a.depth a.opened.now) a.far.place a.object u.result u.ensures.result_value _ _ _ c.in-Container.is) c.requires.0)

pub read_object-read_elements-requires : goal.read_object-read_elements-requires
read_object-read_elements-requires t c =
    let a = c.args in
    let u = c.look_up in
    let k : a.depth < max_open = c.if-depth-ge-MAX_OPEN.false in (
      omega (arith, c.decreases),
      (
        c.requires.0,
        length-set a.opened.now a.depth a.object ∙ c.requires.1,
        omega arith,
        is_entered a.file.now a.layout (take a.depth a.opened.now) a.far.place a.object u.result u.ensures.result_value _ _ _ c.in-Container.is,
      ),
    )

pub read_object-returns-in-Missing-clause-tape_after : goal.read_object-returns-in-Missing-clause-tape_after
unfolding number_of values_of look_said
read_object-returns-in-Missing-clause-tape_after t c =
    let a = c.args in
    let u = c.look_up in
    over_refused c.refused.result _ _ _ _ a.tape.now c.refused.ensures.ending_value c.refused.ensures.held_value
    ∙ object_refused a.file.now a.layout (take a.depth a.opened.now) a.far.place a.object u.result u.ensures.result_value (max_open - a.depth) a.far.left a.far.held a.tape.now _ _ _ (ap look_said c.in-Missing.is)

pub read_object-returns-in-Refused-clause-tape_after : goal.read_object-returns-in-Refused-clause-tape_after
unfolding number_of values_of look_said
read_object-returns-in-Refused-clause-tape_after t c =
    let a = c.args in
    let u = c.look_up in
    let r = c.refused-in-Refused in
    over_refused r.result _ _ _ _ a.tape.now r.ensures.ending_value r.ensures.held_value
    ∙ object_refused a.file.now a.layout (take a.depth a.opened.now) a.far.place a.object u.result u.ensures.result_value (max_open - a.depth) a.far.left a.far.held a.tape.now _ _ _ (ap look_said c.in-Refused.is)

pub read_object-returns-in-Scalar-clause-tape_after : goal.read_object-returns-in-Scalar-clause-tape_after
read_object-returns-in-Scalar-clause-tape_after t c =
    let a = c.args in
    let u = c.look_up in
    c.put_scalar.ensures
    ∙ object_scalar a.file.now a.layout (take a.depth a.opened.now) a.far.place a.object u.result u.ensures.result_value _ _ _ c.in-Scalar.is u.ensures.result_value_2 (max_open - a.depth) a.far.left a.far.held a.tape.now

pub read_object-returns-in_err-inside-in-Container-clause-tape_after : goal.read_object-returns-in_err-inside-in-Container-clause-tape_after
read_object-returns-in_err-inside-in-Container-clause-tape_after t c =
    let a = c.args in
    let u = c.look_up in
    let e = err_from_is_err_and c.from_residual.result c.from_residual.ensures.1 in
    rw (e.1, e.2)
    (object_over a.file.now a.layout (take a.depth a.opened.now) a.far.place a.object u.result u.ensures.result_value _ _ _ c.in-Container.is a.far.left a.far.held a.tape.now (max_open - a.depth) (max_open - (a.depth + 1))
    (one_more a.depth c.if-depth-ge-MAX_OPEN.false) (sym c.is_among.ensures ∙ c.if-is_among.false) c.put_event.result c.put_event.new.tape
    (start_put t (goal.at.read_object-returns-in_err-inside-in-Container-clause-tape_after t c).After-put_event) _ c.in_err-inside-in-Container.was)

pub read_object-returns-in_ok-inside-in-Container : goal.read_object-returns-in_ok-inside-in-Container
read_object-returns-in_ok-inside-in-Container t c =
    let a = c.args in
    let u = c.look_up in
    let r = c.read_elements in
    let far = c.in_ok-inside-in-Container.inside in
    let k : a.depth < max_open = c.if-depth-ge-MAX_OPEN.false in
    let d : a.depth < length a.opened.now = omega (arith, c.requires.1) in
    record {
      tape_after =
          r.ensures.tape_after
          ∙ ap (λ (o : List ℕ). say_onto far.left far.held c.put_event.new.tape (elements_say a.file.now a.layout (max_open - (a.depth + 1)) o a.object c.in-Container.offset far.place)) (deeper_opened a.opened.now a.depth a.object d)
          ∙ object_on a.file.now a.layout (take a.depth a.opened.now) a.far.place a.object u.result u.ensures.result_value _ _ _ c.in-Container.is a.far.left a.far.held a.tape.now (max_open - a.depth) (max_open - (a.depth + 1))
          (one_more a.depth k) (sym c.is_among.ensures ∙ c.if-is_among.false) c.put_event.result c.put_event.new.tape (start_put t (goal.at.read_object-returns-in_ok-inside-in-Container t c).After-put_event) far c.in_ok-inside-in-Container.was;
      opened_unchanged = outer_opened a.opened.now _ a.depth a.object r.ensures.opened_unchanged;
    }
