-- `with_bytes` is the item that it says.
use mathlib.Core.Path.{refl}
use Rattle.tape.specs.Item.{bytes_at}
use Rattle.tape.proofs.step.with_bytes.Goals as goal

pub returns : goal.returns
unfolding bytes_at
returns c = refl
