-- `is_utf8`: eight bytes and more go to the walk; among fewer what is left decides at every turn.
use Rattle.std.proofs.Common.{◌≡◌, sym, ap, ◌∙◌, [], arith, drop_of_length-le}
use Rattle.utf.specs.Left.{left_at}
use Rattle.utf.specs.Unicode.{is_utf8, well_formed}
use Rattle.utf.specs.Utf8Laws.{ascii_first}
use Rattle.utf.proofs.Runs.{slice_from}
use Rattle.utf.proofs.utf8.is_utf8.Goals as goal

pub loop-rest-preserved-then-first-lt128 : goal.loop-rest-preserved-then-first-lt128
loop-rest-preserved-then-first-lt128 c =
    let rest = c.loop-rest.rest.now in
    rw slice_from (sym (ap is_utf8 (left_at rest 0 (omega arith)) ∙ ascii_first _ _ c.if-first-lt128.true) ∙ c.loop-rest.invariant)

pub returns : goal.returns
unfolding is_utf8 well_formed
returns c =
    let e : c.loop-rest.rest.now ≡ [] = drop_of_length-le c.loop-rest.rest.now {i = 0} (omega arith) in
    rw e at c.loop-rest.invariant
