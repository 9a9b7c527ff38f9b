-- `is_utf16` says whether a length was measured.
use mathlib.Core.Path.{sym, ◌∙◌}
use Rattle.utf.specs.Utf16Laws.{measured, not_measured}
use Rattle.utf.proofs.utf16.is_utf16.Goals as goal

pub returns-in-Some : goal.returns-in-Some
returns-in-Some c = sym (measured _ _ (sym c.utf8_length.ensures ∙ c.in-Some.is)).0

pub returns-in-None : goal.returns-in-None
returns-in-None c = sym (not_measured _ (sym c.utf8_length.ensures ∙ c.in-None.is))
