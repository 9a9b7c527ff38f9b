-- `seek`: every turn takes one pair of what is left.
use Rattle.std.specs.Prelude.{Some}
use mathlib.Core.Path.{◌≡◌, sym, ◌∙◌}
use Prim.Native.Nat.{◌+◌}
use native.Mathlib.Omega.{arith}
use Rattle.tape.specs.Value.{number_at}
use Rattle.lookup.proofs.Seeking.{Text, seek_first, seek_over, seek_ends, seek_number, seek_text, letters, others, seek_found, seek_on, seek_again}
use Rattle.lookup.specs.RestLaws.{rest_same}
use Rattle.lookup.proofs.Same.{pointwise_same}
use Rattle.lookup.proofs.seek.seek.Goals as goal
use Rattle.lookup.proofs.seek.seek.Goals.{In_ok-n}

pub loop-at-init : goal.loop-at-init
loop-at-init c = seek_first c.requires

pub returns-then-tape-at-ne9 : goal.returns-then-tape-at-ne9
returns-then-tape-at-ne9 c = seek_ends c.loop-at.invariant c.loop-at-test.true c.if-tape-at-ne9.true

pub returns-in_err-n : goal.returns-in_err-n
returns-in_err-n c =
    absurd (seek_number c.loop-at.invariant c.loop-at-test.true c.if-tape-at-ne9.false (sym c.number_at.ensures ∙ c.in_err-n.was))

-- the key that stands there: its length is read
told : (x : In_ok-n) → number_at x.args.tape.now (x.loop-at.at + 1) ≡ Some (x.in_ok-n.n, x.in_ok-n.start)
told x = sym x.number_at.ensures ∙ x.in_ok-n.was

key-text : (x : In_ok-n) → let l = x.loop-at in Text x.args.tape.now l.at x.in_ok-n.start x.in_ok-n.n (letters l.invariant x.loop-at-test.true x.if-tape-at-ne9.false) (others l.invariant x.loop-at-test.true)
key-text x = seek_text x.loop-at.invariant x.loop-at-test.true x.if-tape-at-ne9.false (told x)

pub overflow_add-next : goal.overflow_add-next
overflow_add-next c = omega (arith, (key-text (goal.at.overflow_add-next c).In_ok-n).within)

pub slice_bounds-name-end : goal.slice_bounds-name-end
slice_bounds-name-end c = omega (arith, (key-text (goal.at.slice_bounds-name-end c).In_ok-n).within)

pub returns-then-eq : goal.returns-then-eq
returns-then-eq c =
    seek_found c.loop-at.invariant c.loop-at-test.true c.if-tape-at-ne9.false (told (goal.at.returns-then-eq c).In_ok-n) (sym (pointwise_same _ _) ∙ sym c.eq.ensures ∙ c.if-eq.true)

pub value_end-at-requires : goal.value_end-at-requires
value_end-at-requires c = rest_same (key-text (goal.at.value_end-at-requires c).In_ok-n).there

pub loop-at-smaller : goal.loop-at-smaller
loop-at-smaller c =
    let w = seek_on c.loop-at.invariant c.loop-at-test.true c.if-tape-at-ne9.false (told (goal.at.loop-at-smaller c).In_ok-n) c.value_end-at.ensures in
    omega (arith, w.0, w.1)

pub loop-at-preserved : goal.loop-at-preserved
loop-at-preserved c =
    seek_again c.loop-at.invariant c.loop-at-test.true c.if-tape-at-ne9.false (told (goal.at.loop-at-preserved c).In_ok-n) c.value_end-at.ensures (sym (pointwise_same _ _) ∙ sym c.eq.ensures ∙ c.if-eq.false)

pub returns : goal.returns
returns c = seek_over c.loop-at.invariant c.loop-at-test.false
