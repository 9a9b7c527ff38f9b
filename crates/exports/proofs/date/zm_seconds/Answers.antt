-- `zm_seconds` hands on the seconds of the fields.
use mathlib.Core.Path.{ap, ◌∙◌}
use borrow.Author.Rules.{rules}
use mir.Facts.{to_z-of_z}
use mir.Syntax.{w64}
use mir.Val.{SFits}
use Rattle.exports.specs.Date.{said_number, seconds_for}
use Rattle.exports.proofs.date.zm_seconds.Goals as goal

pub returns : goal.returns
returns c =
    let e = c.seconds_of-answer.ensures in
    let f : SFits w64 c.seconds_for.result = search rules in
    (record { value = c.seconds_number.ensures ∙ ap said_number e; seconds_after = to_z-of_z f ∙ c.seconds_for.ensures ∙ ap seconds_for e })
