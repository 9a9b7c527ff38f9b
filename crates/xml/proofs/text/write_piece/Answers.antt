-- `write_piece` copies, and tells the place behind.
use mathlib.Core.Path.{refl}
use Rattle.xml.proofs.text.write_piece.Goals as goal

pub returns : goal.returns
returns c = record { place = refl; memory = c.write_bytes.ensures }
