-- `transcribe`: what is lent as a file is bytes.
use Prim.Native.Nat.{ℕ}
use native.Mathlib.Omega.{arith}
use Rattle.number.specs.BeLaws.{bytes_of_law}
use Rattle.transcribe.proofs.transcribe.Goals as goal

pub returns-clause-bytes : goal.returns-clause-bytes
returns-clause-bytes c = bytes_of_law c.args.file.now (λ (i : ℕ). omega (arith, c.type_inv.file i))
