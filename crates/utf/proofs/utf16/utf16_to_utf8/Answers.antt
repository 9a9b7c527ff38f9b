-- `utf16_to_utf8` measures, and writes only where the text is one and fits.
use mathlib.Core.Path.{sym, ◌∙◌}
use Rattle.utf.specs.ChangedAnswers.{not_text, no_room, written}
use Rattle.utf.specs.Utf16Laws.{measured, not_measured}
use Rattle.utf.proofs.utf16.utf16_to_utf8.Goals as goal

pub returns-in_default : goal.returns-in_default
returns-in_default c =
    let a = not_text _ _ _ (not_measured _ (sym c.utf8_length.ensures ∙ c.in_default.is)) in
    (record { value = a.answer; out_after = a.memory })

pub returns-then-out-bytes : goal.returns-then-out-bytes
returns-then-out-bytes c =
    let m = measured _ _ (sym c.utf8_length.ensures ∙ c.in-Some.is) in
    let a = no_room _ _ _ _ m.0 m.1 c.if-out-bytes.true in
    (record { value = a.answer; out_after = a.memory })

pub write_utf8-requires : goal.write_utf8-requires
write_utf8-requires c =
    let m = measured _ _ (sym c.utf8_length.ensures ∙ c.in-Some.is) in
    (m.0, rw m.1 c.if-out-bytes.false)

pub returns : goal.returns
returns c =
    let m = measured _ _ (sym c.utf8_length.ensures ∙ c.in-Some.is) in
    let a = written _ _ _ _ m.0 m.1 c.if-out-bytes.false in
    (record { value = a.answer; out_after = c.write_utf8.ensures ∙ a.memory })
