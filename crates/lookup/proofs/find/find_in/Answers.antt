-- `find_in`: the path is judged, then gone along.
use mathlib.Core.Path.{sym, ◌∙◌}
use Rattle.lookup.specs.Find.{found_said}
use Rattle.lookup.proofs.FindLaws.{by_none, by_count, by_bad}
use Rattle.lookup.proofs.find.find_in.Goals as goal

pub returns-in_default : goal.returns-in_default
unfolding found_said
returns-in_default c = by_none _ _ _ (sym c.number_at.ensures ∙ c.in_default.is)

pub returns-then-not-has_keys : goal.returns-then-not-has_keys
unfolding found_said
returns-then-not-has_keys c =
    by_bad _ _ _ (sym c.has_keys.ensures ∙ c.if-not-has_keys.true) ∙ by_count _ _ _ c.in-Some.count c.in-Some.first (sym c.number_at.ensures ∙ c.in-Some.is)

pub find_under-requires : goal.find_under-requires
find_under-requires c = (c.requires, sym c.has_keys.ensures ∙ c.if-not-has_keys.false)

pub returns : goal.returns
unfolding found_said
returns c = c.find_under.ensures ∙ by_count _ _ _ c.in-Some.count c.in-Some.first (sym c.number_at.ensures ∙ c.in-Some.is)
