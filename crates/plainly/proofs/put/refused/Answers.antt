-- `refused` says the refusal, and keeps what is held.
use mathlib.Core.Path.{refl}
use Rattle.plainly.specs.Said.{ending_said}
use Rattle.plainly.proofs.put.refused.Goals as goal

pub returns : goal.returns
unfolding ending_said
returns c = (record { ending_value = refl; held_value = refl })
