-- `utf8_length` counts what the definition counts: what is left of the bytes, with what is counted, decides.
use Prim.Native.Nat.{◌*◌, ◌-◌, ◌≤◌}
use mathlib.Core.Path.{◌≡◌}
use lib.ListN.{length, drop}
use Rattle.utf.specs.Utf16.{utf8_length_of}
use Rattle.utf.proofs.Count.{length_from}
use Rattle.utf.proofs.utf16.utf8_length.Given as goal

abbrev pub invariant-units : goal.invariant-units
invariant-units l = (l.i ≤ length l.s) × (l.bytes ≤ 2 * l.i) × (utf8_length_of l.s ≡ length_from l.bytes (drop l.i l.s))

abbrev pub decreases-units : goal.decreases-units
decreases-units l = length l.s - l.i
