-- `seconds_for` is the seconds, or 0.
use borrow.Author.Rules.{rules}
use mir.Facts.{to_z-of_z}
use mir.Syntax.{w64}
use mir.Val.{SFits}
use Rattle.calendar.specs.Date.{seconds_said}
use Rattle.exports.specs.Date.{seconds_for}
use Rattle.exports.proofs.date.seconds_for.Goals as goal

pub returns-in-Some : goal.returns-in-Some
unfolding seconds_said seconds_for
returns-in-Some c =
    let f : SFits w64 c.in-Some.z = search rules in
    rw (c.in-Some.is, to_z-of_z f)

pub returns-in-None : goal.returns-in-None
unfolding seconds_said seconds_for
returns-in-None c = rw c.in-None.is
