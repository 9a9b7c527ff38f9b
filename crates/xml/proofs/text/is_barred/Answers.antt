-- `is_barred`: clear text has nothing that is barred.
use mathlib.Core.Path.{sym, ◌∙◌}
use Rattle.xml.specs.TextLaws.{clear_passes}
use Rattle.xml.proofs.text.is_barred.Goals as goal

pub returns-then-are_clear : goal.returns-then-are_clear
returns-then-are_clear c = sym (clear_passes _ (sym c.are_clear.ensures ∙ c.if-are_clear.true))
