-- `read` is the definition's run: the trailer first, then the walk from the root.
use mathlib.Core.Path.{sym, ap, ◌∙◌}
use Rattle.layout.specs.Said.{trailer_said}
use Rattle.reader.specs.Said.{number_of, values_of}
use Rattle.transcribe.specs.Said.{walked_said}
use Rattle.layout.proofs.Short.{laid_short}
use Rattle.transcribe.proofs.Calls.{begins_none, begins_keeps, begins_ends, begins_lays}
use Rattle.transcribe.proofs.read.Goals as goal

pub returns-then-budget-eq0 : goal.returns-then-budget-eq0
unfolding walked_said
returns-then-budget-eq0 c = rw c.requires (sym (begins_none _ _ _ _ c.if-budget-eq0.true))

pub walk-requires : goal.walk-requires
unfolding trailer_said
walk-requires c = laid_short _ _ _ (sym c.trailer_of.ensures ∙ ap trailer_said c.in-Lays.is)

pub returns-in-Keeps : goal.returns-in-Keeps
unfolding trailer_said walked_said number_of values_of
returns-in-Keeps c = rw c.requires (begins_keeps _ _ _ _ c.if-budget-eq0.false _ _ _ (sym (ap trailer_said c.in-Keeps.is) ∙ c.trailer_of.ensures))

pub returns-in-Ends : goal.returns-in-Ends
unfolding trailer_said walked_said number_of values_of
returns-in-Ends c = rw c.requires (begins_ends _ _ _ _ c.if-budget-eq0.false _ _ _ (sym (ap trailer_said c.in-Ends.is) ∙ c.trailer_of.ensures))

pub returns-in-Lays : goal.returns-in-Lays
unfolding trailer_said
returns-in-Lays c = (rw c.requires at c.walk.ensures) ∙ begins_lays _ _ _ _ _ _ (sym (ap trailer_said c.in-Lays.is) ∙ c.trailer_of.ensures)
