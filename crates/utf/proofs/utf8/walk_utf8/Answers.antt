-- `walk_utf8`: what is left decides at every turn, behind a part of a run of ASCII or a sequence.
use Rattle.std.proofs.Common.{◌≡◌, ◌∙◌, [], arith, drop_of_length-le}
use Rattle.utf.specs.PlainLaws.{run_first, run_le, run_text}
use Rattle.utf.specs.Unicode.{is_utf8, well_formed}
use Rattle.utf.proofs.Runs.{slice_from}
use Rattle.utf.proofs.utf8.walk_utf8.Goals as goal

pub past_plain-requires : goal.past_plain-requires
past_plain-requires c = run_first c.loop-rest.rest.now 0 (omega arith) c.if-first-lt128.true

pub slice_bounds-rest-count : goal.slice_bounds-rest-count
slice_bounds-rest-count c = omega (arith, run_le c.loop-rest.rest.now, c.past_plain.ensures.1)

pub slice_bounds-rest-start : goal.slice_bounds-rest-start
slice_bounds-rest-start c = omega (arith, run_le c.loop-rest.rest.now, c.past_plain.ensures.1)

pub loop-rest-preserved-then-first-lt128 : goal.loop-rest-preserved-then-first-lt128
loop-rest-preserved-then-first-lt128 c =
    let rest = c.loop-rest.rest.now in
    rw slice_from (run_text rest 0 c.past_plain.result (omega arith, omega (arith, c.past_plain.ensures.1)) ∙ c.loop-rest.invariant)

pub returns : goal.returns
unfolding is_utf8 well_formed
returns c =
    let e : c.loop-rest.rest.now ≡ [] = drop_of_length-le c.loop-rest.rest.now {i = 0} (omega arith) in
    rw e at c.loop-rest.invariant
