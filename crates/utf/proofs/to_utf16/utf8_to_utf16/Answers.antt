-- `utf8_to_utf16` checks, and then hands on what the change answers.
use mathlib.Core.Path.{sym, ◌∙◌}
use Rattle.utf.specs.ChangedAnswers.{not_text}
use Rattle.utf.proofs.to_utf16.utf8_to_utf16.Goals as goal

pub returns-then-walk_utf8 : goal.returns-then-walk_utf8
returns-then-walk_utf8 c = rw (sym c.walk_utf8.ensures ∙ c.if-walk_utf8.true) c.utf8_to_utf16.ensures

pub returns : goal.returns
returns c =
    let a = not_text _ _ _ (sym c.walk_utf8.ensures ∙ c.if-walk_utf8.false) in
    (record { value = a.answer; out_after = a.memory })
