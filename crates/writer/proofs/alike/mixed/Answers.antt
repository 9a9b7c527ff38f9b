-- What the callees answer is put into the definition.
use Rattle.std.proofs.Common.{refl}
use Rattle.writer.specs.Alike.{mixed_of}
use Rattle.writer.specs.AlikeLaws.{turned_is, low_half, high_half}
use Rattle.writer.proofs.alike.mixed.Goals as goal

pub returns : goal.returns
unfolding mixed_of
returns c =
    let s = c.args.block.now in
    rw (c.rotate_left.ensures, turned_is c.args.h c.ranges.h.fits, c.product.ensures, c.from_le_bytes.ensures, low_half s c.fits-block, high_half s c.fits-block) refl
