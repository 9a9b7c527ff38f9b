-- `units_in`: what is counted and what is left make the whole.
use Rattle.std.proofs.Common.{◌≡◌, ◌+◌, length}
use Rattle.utf.specs.ToUtf16.{units_in}
use Rattle.utf.proofs.unchecked.units_in.Given as goal

abbrev pub invariant-loop-part : goal.invariant-loop-part
invariant-loop-part l = l.count + units_in l.rest ≡ units_in l.s

abbrev pub decreases-loop-part : goal.decreases-loop-part
decreases-loop-part l = length l.rest
