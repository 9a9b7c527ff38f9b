-- `fits` compares with what is left behind the place, which is the same as comparing the sum.
use Prim.Native.Nat.{◌+◌, ◌-◌}
use native.Mathlib.Omega.{arith}
use borrow.Author.Tests.{lt-leb}
use Rattle.digits.specs.PutLaws.{same_test}
use Rattle.digits.proofs.fits.Goals as goal

pub returns-else-at-room : goal.returns-else-at-room
returns-else-at-room c = let a = c.args in rw (lt-leb a.at a.room (omega arith), lt-leb (a.at + a.size) a.room (omega arith))

pub returns-then-at-room : goal.returns-then-at-room
returns-then-at-room c =
    let a = c.args in
    same_test a.size (a.room - a.at) (a.at + a.size) a.room (λ h. omega arith) (λ h. omega arith)
