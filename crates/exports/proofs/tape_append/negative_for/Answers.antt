-- `negative_for` chooses -1 - n, where there is such an integer.
use mathlib.Core.Path.{sym, ◌∙◌}
use borrow.Author.Rules.{rules}
use mir.Facts.{to_z-of_z}
use mir.Syntax.{w64}
use mir.Val.{SFits}
use Rattle.event.specs.Meaning.{meaning_of, value_of}
use Rattle.exports.specs.TapeAppend.{negative_for, chosen_meaning}
use Rattle.exports.proofs.tape_append.negative_for.Goals as goal

pub returns-in_err-z : goal.returns-in_err-z
unfolding negative_for chosen_meaning
returns-in_err-z c =
    let e = sym c.negative_of.ensures ∙ c.in_err-z.was in
    λ s. rw (e, c.from_residual.ensures)

pub returns : goal.returns
unfolding negative_for chosen_meaning meaning_of value_of
returns c =
    let f : SFits w64 c.in_ok-z.z = search rules in
    let e = sym c.negative_of.ensures ∙ c.in_ok-z.was in
    λ s. rw (e, to_z-of_z f)
