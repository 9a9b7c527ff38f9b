-- `write_number` writes the groups: what is still to be written, from `i` on, is what was to be written.
use mathlib.Core.Path.{◌≡◌}
use Prim.Native.Nat.{◌+◌, ◌^◌, ◌<◌}
use lib.ListN.{length}
use lib.Seq.{sets}
use Rattle.tape.specs.Seven.{seven}
use Rattle.tape.proofs.seven.write_number.Given as goal

abbrev pub invariant-loop-left : goal.invariant-loop-left
invariant-loop-left l = (l.left < 2 ^ 64) × (length l.tape ≡ length l.initial.tape) × (l.i + length (seven l.left) ≡ l.at + length (seven l.n)) × (sets l.tape l.i (seven l.left) ≡ sets l.initial.tape l.at (seven l.n))

abbrev pub decreases-loop-left : goal.decreases-loop-left
decreases-loop-left l = l.left
