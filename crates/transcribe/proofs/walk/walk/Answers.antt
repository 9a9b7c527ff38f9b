-- `walk` is what is left of the run from its first call: every turn takes one event of it.
use mathlib.Core.Bool.{Bool}
use mathlib.Core.Path.{◌≡◌, refl, sym, ap, ◌∙◌}
use native.Mathlib.Omega.{arith}
use borrow.Author.Rules.{rules}
use lib.ListN.{length-set, take}
use lib.Seq.{length-take-le}
use lib.Dec.{lit≤}
use Rattle.std.proofs.lemmas.Result.{err_from_is_err_and}
use Rattle.number.specs.Among.{among}
use Rattle.layout.specs.LookLaws.{placed_scalar, placed_container}
use Rattle.layout.specs.Looked.{scalar, container}
use Rattle.layout.specs.Said.{shape_said, look_said, look_bytes}
use Rattle.layout.specs.SaidLaws.{number_listed}
use Rattle.layout.specs.Frame.{next_in}
use Rattle.layout.specs.declared.layout.Due.TheVariants.{Close, Member}
use Rattle.layout.specs.Layout.{look_of}
use Rattle.reader.specs.Machine.{arrive}
use Rattle.reader.specs.State.{member_of}
use Rattle.reader.specs.Next.{laid_out}
use Rattle.reader.specs.Said.{number_of, values_of}
use Rattle.transcribe.specs.Said.{note_said, walked_said}
use Rattle.transcribe.specs.SaidLaws.{walked_failed}
use Rattle.transcribe.specs.Run.{onward}
use Rattle.transcribe.proofs.Listed.{close_below, enter_below}
use Rattle.transcribe.proofs.Walking.{due, looked, short_number, short_length, short_offset, Turn, call_root, is_wrong, close_fails, close_finishes, close_goes, is_missing, is_refused, notable, counts, scalar_fails, scalar_finishes, scalar_goes, scalar_stands, is_open_now, is_deep, enter_fails, enter_goes, enter_stands, still_long, sought, close_lists, scalar_lists, enter_lists}
use Rattle.transcribe.proofs.walk.walk.Goals as goal
use Rattle.transcribe.proofs.walk.walk.Goals.{After-due_now, In-Close, In-Member, In-Scalar, In-Container, After-is_known}

-- the turn, as it stands once what is due is known
abbrev turn : (c : After-due_now) → Turn
turn c =
    let a = c.args in
    let l = c.loop-left in
    record {
      file = a.file.now;
      layout = a.layout;
      root = a.root;
      left = l.left;
      scratch = l.scratch;
      tape = l.tape;
      held = l.held;
      place = l.place;
      depth = l.depth;
      frames = l.frames;
      numbers = l.numbers;
      above = l.above;
      top = c.saturating_sub-top.result;
      standing = l.standing;
      whole = onward a.budget a.file.now a.scratch.now a.tape.now a.held.now (arrive (laid_out a.file.now a.layout) a.root (look_of a.file.now a.layout a.root));
      short = c.requires;
      few = omega arith;
      some = c.loop-left-test.true;
      fits = l.invariant.fits;
      first = l.invariant.first;
      is = l.invariant.is;
      long = l.invariant.long;
      at = c.saturating_sub-top.ensures;
      stands = l.invariant.stands;
      many = l.invariant.many;
      listed = l.invariant.listed;
      below = l.invariant.below;
    }

-- what is due: the innermost container's end, or a member
due_close : (c : In-Close) → due (turn (goal.at.In-Close c).After-due_now) ≡ Close c.in-Close.field-0
due_close c = sym c.due_now.ensures ∙ c.in-Close.is

due_member : (c : In-Member) → due (turn (goal.at.In-Member c).After-due_now) ≡ Member c.in-Member.object
due_member c = sym c.due_now.ensures ∙ c.in-Member.is

-- what a member is found to be: a scalar, or a container
found-scalar : (c : In-Scalar) → looked (turn (goal.at.In-Scalar c).After-due_now) c.in-Member.object ≡ scalar c.in-Scalar.event c.in-Scalar.offset
unfolding look_said
found-scalar c = placed_scalar _ _ _ _ (sym c.look_up.ensures.result_value ∙ ap look_said c.in-Scalar.is)

found-container : (c : In-Container) → looked (turn (goal.at.In-Container c).After-due_now) c.in-Member.object ≡ container (shape_said c.in-Container.shape) c.in-Container.length c.in-Container.offset
unfolding look_said
found-container c = placed_container _ _ _ _ _ (sym c.look_up.ensures.result_value ∙ ap look_said c.in-Container.is)

-- whether the container is among the open ones is what the search says
met-sought : (k : After-is_known) (b : Bool) → k.is_known.result ≡ b → let x = turn (goal.at.After-is_known k).After-due_now in member_of (take x.depth x.frames) k.in-Member.object ≡ b
met-sought k b e = sought (turn (goal.at.After-is_known k).After-due_now) _ ∙ sym k.is_known.ensures ∙ e

pub loop-left-init : goal.loop-left-init
unfolding among
loop-left-init c =
    let a = c.args in
    record {
      fits = lit≤ tt;
      first = λ e. refl;
      is = ap (onward a.budget a.file.now a.scratch.now a.tape.now a.held.now) (call_root a.file.now a.layout a.root);
      long = refl;
      stands = λ e. absurd (e refl);
      many = refl;
      listed = refl;
      below = λ n h. refl;
    }

pub returns-in-Wrong : goal.returns-in-Wrong
unfolding walked_said number_of values_of
returns-in-Wrong c = is_wrong (turn (goal.at.returns-in-Wrong c).After-due_now) (sym c.due_now.ensures ∙ c.in-Wrong.is)

pub returns-in_err-held-in-Close : goal.returns-in_err-held-in-Close
unfolding note_said
returns-in_err-held-in-Close c =
    let p = goal.at.returns-in_err-held-in-Close c in
    let e = err_from_is_err_and c.from_residual.result c.from_residual.ensures.1 in
    rw (e.1, e.2, walked_failed)
    (close_fails (turn p.After-due_now) _ (due_close p.In-Close) _ _ c.in_err-held-in-Close.ensures.result_value c.note_end.ensures.tape_after _ refl)

pub returns-then-top-eq0 : goal.returns-then-top-eq0
unfolding note_said
returns-then-top-eq0 c =
    let p = goal.at.returns-then-top-eq0 c in
    rw c.finished.ensures
    (close_finishes (turn p.After-due_now) _ (due_close p.In-Close) _ _ c.in_ok-held-in-Close.ensures.result_value c.note_end.ensures.tape_after c.if-top-eq0.true _ refl)

pub loop-left-preserved-in-Close : goal.loop-left-preserved-in-Close
unfolding note_said
loop-left-preserved-in-Close c =
    let p = goal.at.loop-left-preserved-in-Close c in
    let x = turn p.After-due_now in
    record {
      fits = omega (arith, x.at, x.fits);
      first = λ e. absurd (c.if-top-eq0.false e);
      is = close_goes x _ (due_close p.In-Close) _ _ c.in_ok-held-in-Close.ensures.result_value c.note_end.ensures.tape_after c.if-top-eq0.false _ refl;
      long = search rules;
      stands = λ e. c.stands_in-standing.ensures;
      many = x.many;
      listed = close_lists x;
      below = close_below x.depth x.top _ x.numbers (omega (arith, x.at)) x.below;
    }

pub returns-in-Missing : goal.returns-in-Missing
unfolding look_said walked_said number_of values_of
returns-in-Missing c =
    let p = goal.at.returns-in-Missing c in
    is_missing (turn p.After-due_now) _ (due_member p.In-Member) (sym c.look_up.ensures.result_value ∙ ap look_said c.in-Missing.is)

pub returns-in-Refused : goal.returns-in-Refused
unfolding look_said walked_said number_of values_of
returns-in-Refused c =
    let p = goal.at.returns-in-Refused c in
    is_refused (turn p.After-due_now) _ (due_member p.In-Member) _ _ _ (number_listed c.in-Refused.refusal) (sym c.look_up.ensures.result_value ∙ ap look_said c.in-Refused.is)

pub note-requires : goal.note-requires
unfolding look_bytes
note-requires c =
    let p = goal.at.note-requires c in
    notable (turn p.After-due_now) _ _ _ _ (found-scalar p.In-Scalar) (sym (ap look_bytes c.in-Scalar.is) ∙ c.look_up.ensures.result_value_2)

pub returns-in_err-held-in-Scalar : goal.returns-in_err-held-in-Scalar
unfolding note_said
returns-in_err-held-in-Scalar c =
    let p = goal.at.returns-in_err-held-in-Scalar c in
    let e = err_from_is_err_and c.from_residual-in_err-held-in-Scalar.result c.from_residual-in_err-held-in-Scalar.ensures.1 in
    rw (e.1, e.2, walked_failed)
    (scalar_fails (turn p.After-due_now) _ (due_member p.In-Member) _ _ (found-scalar p.In-Scalar) _ _ _ c.in_err-held-in-Scalar.ensures _ refl)

pub returns-then-depth-eq0 : goal.returns-then-depth-eq0
unfolding note_said
returns-then-depth-eq0 c =
    let p = goal.at.returns-then-depth-eq0 c in
    rw c.finished-then-depth-eq0.ensures
    (scalar_finishes (turn p.After-due_now) _ (due_member p.In-Member) _ _ (found-scalar p.In-Scalar) _ _ _ c.in_ok-held-in-Scalar.ensures c.if-depth-eq0.true _ refl)

pub overflow_add-frames : goal.overflow_add-frames
overflow_add-frames c =
    let p = goal.at.overflow_add-frames c in
    omega (arith, counts (turn p.After-due_now) _ (due_member p.In-Member))

pub loop-left-preserved-in-Scalar : goal.loop-left-preserved-in-Scalar
unfolding note_said next_in
loop-left-preserved-in-Scalar c =
    let p = goal.at.loop-left-preserved-in-Scalar c in
    let x = turn p.After-due_now in
    let d = due_member p.In-Member in
    let f = found-scalar p.In-Scalar in
    let n = c.in_ok-held-in-Scalar.ensures in
    record {
      fits = x.fits;
      first = λ e. absurd (c.if-depth-eq0.false e);
      is = scalar_goes x _ d _ _ f _ _ _ n c.if-depth-eq0.false _ refl;
      long = search rules;
      stands = scalar_stands x _ d _ _ f _ _ _ n;
      many = x.many;
      listed = scalar_lists x;
      below = x.below;
    }

pub overflow_cast-number : goal.overflow_cast-number
unfolding look_said
overflow_cast-number c =
    let p = goal.at.overflow_cast-number c in
    omega (arith, short_number (turn p.After-due_now) _ _ _ _ (placed_container _ _ _ _ _ (sym c.look_up.ensures.result_value ∙ ap look_said c.in-Container.is)))

pub slice_bounds-is_known-end : goal.slice_bounds-is_known-end
slice_bounds-is_known-end c =
    let x = turn (goal.at.slice_bounds-is_known-end c).After-due_now in
    sym (length-take-le x.depth x.numbers (omega (arith, x.fits, x.many)))

pub is_known-requires : goal.is_known-requires
is_known-requires c = (turn (goal.at.is_known-requires c).After-due_now).below

pub returns-then-is_known : goal.returns-then-is_known
unfolding walked_said number_of values_of
returns-then-is_known c =
    let p = goal.at.returns-then-is_known c in
    is_open_now (turn p.After-due_now) _ (due_member p.In-Member) _ _ _ (found-container p.In-Container) (met-sought p.After-is_known _ c.if-is_known.true)

pub returns-then-depth-ge-MAX_OPEN : goal.returns-then-depth-ge-MAX_OPEN
unfolding walked_said number_of values_of
returns-then-depth-ge-MAX_OPEN c =
    let p = goal.at.returns-then-depth-ge-MAX_OPEN c in
    is_deep (turn p.After-due_now) _ (due_member p.In-Member) _ _ _ (found-container p.In-Container) (met-sought p.After-is_known _ c.if-is_known.false) c.if-depth-ge-MAX_OPEN.true

pub returns-in_err-held-in-Container : goal.returns-in_err-held-in-Container
unfolding note_said
returns-in_err-held-in-Container c =
    let p = goal.at.returns-in_err-held-in-Container c in
    let e = err_from_is_err_and c.from_residual-in_err-held-in-Container.result c.from_residual-in_err-held-in-Container.ensures.1 in
    rw (e.1, e.2, walked_failed)
    (enter_fails (turn p.After-due_now) _ (due_member p.In-Member) _ _ _ (found-container p.In-Container) (met-sought p.After-is_known _ c.if-is_known.false) c.if-depth-ge-MAX_OPEN.false _ refl _ _ c.in_err-held-in-Container.ensures.result_value c.note_start.ensures.tape_after _ refl)

pub overflow_add-frames-in-Container : goal.overflow_add-frames-in-Container
overflow_add-frames-in-Container c =
    let p = goal.at.overflow_add-frames-in-Container c in
    omega (arith, counts (turn p.After-due_now) _ (due_member p.In-Member))

pub overflow_cast-frames : goal.overflow_cast-frames
overflow_cast-frames c =
    let p = goal.at.overflow_cast-frames c in
    omega (arith, short_length (turn p.After-due_now) _ _ _ _ (found-container p.In-Container))

pub overflow_cast-frames-in-Container : goal.overflow_cast-frames-in-Container
overflow_cast-frames-in-Container c =
    let p = goal.at.overflow_cast-frames-in-Container c in
    omega (arith, short_offset (turn p.After-due_now) _ _ _ _ (found-container p.In-Container))

pub overflow_add-object : goal.overflow_add-object
overflow_add-object c =
    let p = goal.at.overflow_add-object c in
    omega (arith, short_number (turn p.After-due_now) _ _ _ _ (found-container p.In-Container))

pub loop-left-preserved : goal.loop-left-preserved
unfolding note_said next_in
loop-left-preserved c =
    let p = goal.at.loop-left-preserved c in
    let x = turn p.After-due_now in
    let d = due_member p.In-Member in
    let f = found-container p.In-Container in
    let h = c.if-depth-ge-MAX_OPEN.false in
    record {
      fits = omega arith;
      first = λ e. absurd (omega arith);
      is = enter_goes x _ d _ _ _ f (met-sought p.After-is_known _ c.if-is_known.false) h _ refl _ _ c.in_ok-held-in-Container.ensures.result_value c.note_start.ensures.tape_after _ refl;
      long = still_long x _ _;
      stands = enter_stands x _ d _ _ _ f h _ c.container_at.ensures;
      many = rw length-set x.many;
      listed = enter_lists x h _ _ _;
      below = enter_below x.depth _ _ _ x.numbers (omega (arith, h, x.many)) c.max-above.ensures x.below;
    }

pub returns : goal.returns
unfolding walked_said onward
returns c =
    let e : c.loop-left.left ≡ 0 = omega arith in
    rw (e, onward) at c.loop-left.invariant.is
