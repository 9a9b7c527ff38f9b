-- `put_token` puts a byte, where there is room.
use mathlib.Core.Path.{refl}
use native.Mathlib.Omega.{arith}
use Rattle.encode.proofs.Putting.{refused, written}
use Rattle.encode.proofs.put.put_token.Goals as goal

pub returns-then-out-lt1 : goal.returns-then-out-lt1
returns-then-out-lt1 c = refused _ _ (omega arith)

pub returns : goal.returns
returns c = written _ _ (omega arith) (omega arith) refl refl
