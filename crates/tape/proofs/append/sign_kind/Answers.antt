-- `sign_kind`: 04 for a negative integer, 03 for any other.
use mir.Facts.{to_z-of_z}
use Rattle.tape.specs.KindsLaws.{sign_below, sign_above}
use Rattle.tape.proofs.append.sign_kind.Goals as goal

pub returns-then-z-lt0 : goal.returns-then-z-lt0
returns-then-z-lt0 c = sign_below c.args.z (rw (to_z-of_z c.ranges.z) at c.if-z-lt0.true)

pub returns-else-z-lt0 : goal.returns-else-z-lt0
returns-else-z-lt0 c = sign_above c.args.z (rw (to_z-of_z c.ranges.z) at c.if-z-lt0.false)
