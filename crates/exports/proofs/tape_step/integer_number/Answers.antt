-- `integer_number` is the number that stands on the tape.
use mathlib.Core.Path.{ap, ◌∙◌}
use mir.Facts.{to_z-of_z}
use mir.Syntax.{w64}
use mir.Val.{SFits}
use Rattle.number.specs.Signed.{magnitude_of}
use Rattle.exports.specs.TapeStep.{integer_number}
use borrow.Author.Rules.{rules}
use Rattle.exports.proofs.tape_step.integer_number.Goals as goal

pub returns-in-Signed : goal.returns-in-Signed
unfolding integer_number
returns-in-Signed c =
    let f : SFits w64 c.in-Signed.z = search rules in
    rw c.in-Signed.is (c.magnitude.ensures ∙ ap magnitude_of (to_z-of_z f))

pub returns-in-Unsigned : goal.returns-in-Unsigned
unfolding integer_number
returns-in-Unsigned c = rw c.in-Unsigned.is
