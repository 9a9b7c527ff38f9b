-- `read_be` reads the number of 1 to 8 bytes.
use borrow.Author.Tests.{eq-eqb, ne_eqb, lt-ltb, le-ltb}
use Rattle.number.specs.Read.{number_of}
use Rattle.number.proofs.be.read_be.Goals as goal

pub returns-then-part-eq0 : goal.returns-then-part-eq0
unfolding number_of
returns-then-part-eq0 c = rw (eq-eqb _ _ c.if-part-eq0.true)

pub returns-then-part-gt8 : goal.returns-then-part-gt8
unfolding number_of
returns-then-part-gt8 c = rw (ne_eqb _ _ c.if-part-eq0.false, lt-ltb _ _ c.if-part-gt8.true)

pub returns : goal.returns
unfolding number_of
returns c = rw (ne_eqb _ _ c.if-part-eq0.false, le-ltb _ _ c.if-part-gt8.false, c.horner.ensures)
