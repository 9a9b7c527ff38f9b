-- `dated`: the date of the bits, where they may be one's.
use mathlib.Core.Path.{sym, ◌∙◌}
use Rattle.tape.specs.Item.{date_in}
use Rattle.tape.proofs.step.dated.Goals as goal

pub returns-in_err-bits : goal.returns-in_err-bits
unfolding date_in
returns-in_err-bits c = rw c.in_err-bits.was c.from_residual.ensures

pub returns-then-is_date : goal.returns-then-is_date
unfolding date_in
returns-then-is_date c = rw (c.in_ok-bits.was, sym c.is_date.ensures ∙ c.if-is_date.true) c.no_bytes.ensures

pub returns : goal.returns
unfolding date_in
returns c = rw (c.in_ok-bits.was, sym c.is_date.ensures ∙ c.if-is_date.false)
