-- `is_nothing`: what the derived equality says.
use mathlib.Core.Path.{◌∙◌}
use Rattle.grammar.proofs.Turning.{same_nothing}
use Rattle.grammar.proofs.turn.is_nothing.Goals as goal

pub returns : goal.returns
returns c = c.eq.ensures ∙ same_nothing c.args.due
