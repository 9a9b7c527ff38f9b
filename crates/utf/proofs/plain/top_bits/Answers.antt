-- `top_bits` keeps the top bits of the number of eight bytes.
use Rattle.std.proofs.Common.{◌∙◌, arith}
use Rattle.utf.specs.Plain.{tops_of}
use Rattle.utf.proofs.Runs.{little_eight}
use Rattle.utf.proofs.plain.top_bits.Goals as goal

pub returns : goal.returns
unfolding tops_of
returns c = rw (c.from_le_bytes.ensures ∙ little_eight c.args.eight (omega (arith, c.well_formed)))
