-- The machine over meanings, wherever the events stand. docs/FORMAT.md, rules G3, G5 to G7.
use Rattle.std.specs.Prelude.{Bool, false, List, [], ◌∷◌}
use Rattle.event.specs.Meaning.{Meaning}
use Rattle.grammar.specs.Check.{onto, barred, move_of}
use Rattle.grammar.specs.Turn.{is_nothing, turn_of}
use Rattle.grammar.specs.declared.turn.Due.{Due}

-- whether events are what is left of one root, where something is due and containers are open around it, the innermost first
unfoldable pub fits_from : Due → List Due → List Meaning → Bool
fits_from due around [] = is_nothing due
fits_from due around (m ∷ ms) = elim (move_of (turn_of due m) due around) [ onto d ds ↦ fits_from d ds ms | barred r ↦ false ]
