-- `is_utf8`: eight bytes and more go to the walk; among fewer what is left decides at every turn.
use Rattle.std.proofs.Common.{◌≡◌, length}
use Rattle.utf.specs.Unicode.{is_utf8}
use Rattle.utf.proofs.utf8.is_utf8.Given as goal

abbrev pub invariant-loop-rest : goal.invariant-loop-rest
invariant-loop-rest l = is_utf8 l.rest ≡ is_utf8 l.s

abbrev pub decreases-loop-rest : goal.decreases-loop-rest
decreases-loop-rest l = length l.rest
