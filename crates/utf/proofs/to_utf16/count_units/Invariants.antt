-- `count_units`: what is counted and what is left make the whole.
use Rattle.std.proofs.Common.{◌≡◌, ◌+◌, length}
use Rattle.utf.specs.Unicode.{utf16, scalars8}
use Rattle.utf.proofs.to_utf16.count_units.Given as goal

abbrev pub invariant-loop-value : goal.invariant-loop-value
invariant-loop-value l = l.count + length (utf16 (scalars8 l.rest)) ≡ length (utf16 (scalars8 l.s))

abbrev pub decreases-loop-value : goal.decreases-loop-value
decreases-loop-value l = length l.rest
