-- `check_tape` is what is left of the check: every turn takes one event of it.
use mathlib.Core.Path.{sym, ◌∙◌}
use Prim.Native.Nat.{ℕ}
use native.Mathlib.Omega.{arith}
use borrow.Author.Tests.{lt-ltb}
use Rattle.grammar.specs.Check.{check_of}
use Rattle.grammar.specs.Said.{checked_said}
use Rattle.grammar.proofs.Checking.{stands_first, is_whole, is_incomplete, meets, is_less, is_barred, is_past, is_room, is_into, is_open, is_out}
use Rattle.grammar.proofs.check.check_tape.Goals.{in-Past, in-Into, in-Out}
use Rattle.grammar.proofs.check.check_tape.Goals as goal

pub returns-then-tape-gt-MAX_LENGTH : goal.returns-then-tape-gt-MAX_LENGTH
unfolding checked_said check_of
returns-then-tape-gt-MAX_LENGTH c = rw (lt-ltb _ _ c.if-tape-gt-MAX_LENGTH.true)

pub loop-at-init : goal.loop-at-init
loop-at-init c = rw c.new-around.ensures (stands_first c.args.tape.now c.if-tape-gt-MAX_LENGTH.false)

pub push-requires : goal.push-requires
push-requires c =
    is_room (meets (λ (i : ℕ). omega (arith, c.type_inv.tape i)) c.loop-at.invariant c.loop-at-test.true c.depth.ensures c.way_at-gone.ensures) c.in-Into.is

pub pop-due-requires : goal.pop-due-requires
pop-due-requires c =
    is_open (meets (λ (i : ℕ). omega (arith, c.type_inv.tape i)) c.loop-at.invariant c.loop-at-test.true c.depth.ensures c.way_at-gone.ensures) c.in-Out.is

pub loop-at-preserved : goal.loop-at-preserved
loop-at-preserved c =
    let m = meets (λ (i : ℕ). omega (arith, c.type_inv.tape i)) c.loop-at.invariant c.loop-at-test.true c.depth.ensures c.way_at-gone.ensures in
    elim c.match-gone.branch [
      | in-Past w ↦ rw (w.around-is, w.due-is) (is_past m w.in-Past.is)
      | in-Into w ↦ rw (w.around-is, w.due-is, w.push.ensures) (is_into m w.in-Into.is)
      | in-Out w ↦ rw (w.around-is, w.due-is) (is_out m w.in-Out.is w.pop-due.ensures)
    ]

pub loop-at-smaller : goal.loop-at-smaller
loop-at-smaller c =
    let m = meets (λ (i : ℕ). omega (arith, c.type_inv.tape i)) c.loop-at.invariant c.loop-at-test.true c.depth.ensures c.way_at-gone.ensures in
    elim c.match-gone.branch [
      | in-Past w ↦ is_less m (rw w.in-Past.is tt)
      | in-Into w ↦ is_less m (rw w.in-Into.is tt)
      | in-Out w ↦ is_less m (rw w.in-Out.is tt)
    ]

pub returns-in-Barred : goal.returns-in-Barred
unfolding checked_said
returns-in-Barred c =
    is_barred (meets (λ (i : ℕ). omega (arith, c.type_inv.tape i)) c.loop-at.invariant c.loop-at-test.true c.depth.ensures c.way_at-gone.ensures) c.in-Barred.is

pub returns-then-is_nothing : goal.returns-then-is_nothing
unfolding checked_said
returns-then-is_nothing c = is_whole c.loop-at.invariant c.loop-at-test.false (sym c.is_nothing.ensures ∙ c.if-is_nothing.true)

pub returns : goal.returns
unfolding checked_said
returns c = is_incomplete c.loop-at.invariant c.loop-at-test.false (sym c.is_nothing.ensures ∙ c.if-is_nothing.false)
