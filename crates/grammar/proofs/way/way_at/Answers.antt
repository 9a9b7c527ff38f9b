-- `way_at` is the way of what is read at the place.
use mathlib.Core.Path.{sym, ◌∙◌}
use Rattle.tape.specs.SaidLaws.{said_item}
use Rattle.grammar.proofs.Turning.{way_trails, way_item, way_bad}
use Rattle.grammar.proofs.way.way_at.Goals as goal

pub returns-then-is_nothing : goal.returns-then-is_nothing
returns-then-is_nothing c = c.barred.ensures ∙ sym (way_trails _ _ _ _ (sym c.is_nothing.ensures ∙ c.if-is_nothing.true))

pub returns-in_default : goal.returns-in_default
returns-in_default c =
    c.barred-in_default.ensures ∙ sym (way_bad _ _ _ _ (sym c.is_nothing.ensures ∙ c.if-is_nothing.false) (sym (said_item _ _ c.quick_step.ensures) ∙ c.in_default.is))

pub returns : goal.returns
returns c =
    rw c.way_of.ensures (sym (way_item _ _ _ _ (sym c.is_nothing.ensures ∙ c.if-is_nothing.false) _ (sym (said_item _ _ c.quick_step.ensures) ∙ c.in-Some.is)))
