-- The open containers, as they stand in an array: the first so many, of which the last is the innermost.
use Rattle.std.specs.Prelude.{List, [], ◌∷◌, ℕ, zero, suc, get_or}
use Rattle.grammar.specs.declared.turn.Due.{Due}
use Rattle.grammar.specs.declared.turn.Due.TheVariants.{Root}

unfoldable pub stack : ℕ → List Due → List Due
stack zero l = []
stack (suc d) l = get_or l d Root ∷ stack d l
