-- `write_labelled` stores the space and the label, and puts the number behind them.
use mathlib.Core.Path.{ap, ◌∙◌}
use native.Mathlib.Omega.{arith}
use lib.ListN.{length, length-set}
use Rattle.digits.specs.PutLaws.{length_put}
use Rattle.line.specs.Line.{labelled}
use Rattle.line.proofs.Spaced.{labelled_written}
use Rattle.line.proofs.piece.write_labelled.Goals as goal

pub bounds-out-at : goal.bounds-out-at
unfolding labelled
bounds-out-at c = omega (arith, c.requires)

pub bounds-out-at-2 : goal.bounds-out-at-2
unfolding labelled
bounds-out-at-2 c = simp length-set (omega (arith, c.requires))

pub shape_of-out : goal.shape_of-out
shape_of-out c = ap length c.put_decimal.ensures.out_after ∙ length_put _ _ _ ∙ simp length-set

pub returns : goal.returns
returns c = labelled_written _ _ _ _ _ _ c.requires c.put_decimal.ensures.out_after c.decimal_length.ensures.value
