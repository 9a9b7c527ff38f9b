-- `new`: no container is open.
use mathlib.Core.Path.{refl}
use Rattle.grammar.specs.Stack.{stack}
use Rattle.grammar.proofs.around.Around.new.Goals as goal

pub returns : goal.returns
unfolding stack
returns c = refl
