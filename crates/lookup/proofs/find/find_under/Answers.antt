-- `find_under`: every turn takes one key.
use Rattle.std.proofs.Common.{◌≡◌, ◌+◌, ◌-◌, sym, ◌∙◌, arith}
use Rattle.lookup.specs.Find.{part_said}
use Rattle.lookup.specs.PathLaws.{key_room}
use Rattle.lookup.proofs.FindLaws.{behind_later}
use Rattle.lookup.proofs.Finding.{left_first, left_key, left_end, left_none, left_again}
use Rattle.lookup.proofs.find.find_under.Goals as goal

pub loop-init : goal.loop-init
loop-init c = left_first _ _ _ _ c.requires.0 c.requires.1

pub returns-in_err-key : goal.returns-in_err-key
returns-in_err-key c = absurd (left_key c.loop.invariant (omega arith) (sym c.key_at.ensures ∙ c.in_err-key.was))

pub overflow_add-next : goal.overflow_add-next
overflow_add-next c = omega (arith, key_room c.args.path.now c.loop.next c.in_ok-key.key (sym c.key_at.ensures ∙ c.in_ok-key.was))

pub slice_bounds-value_under-end : goal.slice_bounds-value_under-end
slice_bounds-value_under-end c = key_room c.args.path.now c.loop.next c.in_ok-key.key (sym c.key_at.ensures ∙ c.in_ok-key.was)

pub value_under-requires : goal.value_under-requires
value_under-requires c = c.loop.invariant.rest

pub returns-in_err-at : goal.returns-in_err-at
unfolding part_said
returns-in_err-at c =
    rw c.from_residual-in_err-at.ensures (left_none c.loop.invariant (omega arith) (sym c.key_at.ensures ∙ c.in_ok-key.was) (rw c.in_err-at.was at c.value_under.ensures))

pub loop-preserved : goal.loop-preserved
loop-preserved c =
    let l = c.loop in
    let e : c.args.count - l.counter - 1 ≡ c.args.count - (l.counter + 1) = omega arith in
    rw (← e) (left_again l.invariant (omega arith) (sym c.key_at.ensures ∙ c.in_ok-key.was) (rw c.in_ok-at.was at c.value_under.ensures))

pub value_end-requires : goal.value_end-requires
value_end-requires c = c.loop.invariant.rest

pub overflow_sub-length : goal.overflow_sub-length
overflow_sub-length c = behind_later c.loop.invariant.rest c.value_end.ensures

pub returns : goal.returns
unfolding part_said
returns c = left_end c.loop.invariant (omega arith) c.value_end.ensures
