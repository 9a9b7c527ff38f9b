-- Laws of widths.
use Rattle.std.specs.Prelude.{◌≤◌, ◌<◌, ◌≡◌, refl, Some}
use Rattle.std.proofs.Common.{lit<, lit≤}
use Rattle.number.specs.Width.{bytes_in, width_of}
use Rattle.number.specs.declared.width.Width.{Width}
use Rattle.number.specs.declared.width.Width.TheVariants.{One, Two, Three, Four, Eight}

-- a width has at least one byte and at most eight
pub bytes_in_pos : (w : Width) → 0 < bytes_in w
unfolding bytes_in
bytes_in_pos One = lit< tt
bytes_in_pos Two = lit< tt
bytes_in_pos Three = lit< tt
bytes_in_pos Four = lit< tt
bytes_in_pos Eight = lit< tt

pub bytes_in_le : (w : Width) → bytes_in w ≤ 8
unfolding bytes_in
bytes_in_le One = lit≤ tt
bytes_in_le Two = lit≤ tt
bytes_in_le Three = lit≤ tt
bytes_in_le Four = lit≤ tt
bytes_in_le Eight = lit≤ tt

-- the size of a width is an allowed one, and gives it back
pub allowed : (w : Width) → width_of (bytes_in w) ≡ Some w
unfolding width_of bytes_in
allowed One = refl
allowed Two = refl
allowed Three = refl
allowed Four = refl
allowed Eight = refl
