-- `put_date` writes the day and time between their tags, where the calendar gives one.
use mathlib.Core.Path.{sym, ap, ◌∙◌}
use Prim.Native.Nat.{ℕ, ◌+◌}
use Rattle.calendar.specs.Date.{dated_said}
use Rattle.digits.specs.StampLaws.{length_stamp}
use Rattle.xml.specs.LineLaws.{dayed_there, dayed_none}
use Rattle.xml.specs.PutLaws.{placed, placed_put, placed_append, puts}
use Rattle.xml.specs.Xml.{start_tag, end_tag, line, element}
use Rattle.xml.proofs.put.put_date.Goals as goal

pub returns-in_default : goal.returns-in_default
unfolding dated_said
returns-in_default c = dayed_none _ _ _ _ (sym c.calendar_of.ensures ∙ ap dated_said c.in_default.is)

pub returns : goal.returns
unfolding dated_said element start_tag end_tag line
returns c =
    let calendar-of = c.calendar_of in
    let write-piece = c.write_piece-start in
    let t = c.in-Some.time in
    let day = placed_put c.put_stamp.ensures.out_after (ap (λ (n : ℕ). write-piece.result + n) (sym (length_stamp t))) in
    let all = placed_append (placed write-piece.ensures) (placed_append day (placed c.write_piece.ensures)) in
    dayed_there _ _ _ _ t _ (sym calendar-of.ensures ∙ ap dated_said c.in-Some.is) (puts all)
