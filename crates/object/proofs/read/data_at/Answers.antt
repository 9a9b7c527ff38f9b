-- `data_at`: the content, where it has room.
use mathlib.Core.Path.{sym, ◌∙◌}
use Rattle.object.specs.Found.{found_of}
use Rattle.object.specs.Object.{data_in}
use Rattle.object.proofs.read.data_at.Goals as goal

pub returns-in-Refused : goal.returns-in-Refused
unfolding found_of data_in
returns-in-Refused c = rw (sym c.content_at.ensures ∙ c.in-Refused.is)

pub returns-in-Fits : goal.returns-in-Fits
unfolding found_of data_in
returns-in-Fits c = rw (sym c.content_at.ensures ∙ c.in-Fits.is)
