-- `depth` is the list's length.
use mathlib.Core.Path.{sym}
use Rattle.grammar.proofs.Stack.{length_stack}
use Rattle.grammar.proofs.around.Around.depth.Goals as goal

pub returns : goal.returns
returns c = let a = c.self.inside in rw c.self.view_is at (sym (length_stack a.depth a.due))
