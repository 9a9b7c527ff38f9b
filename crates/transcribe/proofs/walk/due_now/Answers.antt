-- `due_now` is the definition, by its test.
use borrow.Author.Tests.{eq-eqb, ne_eqb}
use Rattle.layout.specs.SaidLaws.{due_said_one}
use Rattle.transcribe.specs.Walk.{due_now}
use Rattle.transcribe.proofs.walk.due_now.Goals as goal

pub returns-then-depth-eq0 : goal.returns-then-depth-eq0
unfolding due_now
returns-then-depth-eq0 c = rw (eq-eqb _ _ c.if-depth-eq0.true)

pub returns : goal.returns
unfolding due_now
returns c = rw (ne_eqb _ _ c.if-depth-eq0.false) (due_said_one _ _ c.due_in.ensures)
