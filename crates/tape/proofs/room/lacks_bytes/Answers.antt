-- `lacks_bytes`: a head has eleven bytes at most, so that its sum fits.
use native.Mathlib.Omega.{arith}
use Rattle.tape.specs.SevenLaws.{seven_few}
use Rattle.tape.proofs.room.lacks_bytes.Goals as goal

pub overflow_add-head : goal.overflow_add-head
overflow_add-head c = omega (arith, c.groups_in-head.ensures, seven_few c.args.size)
