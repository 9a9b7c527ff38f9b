-- `write_letters` writes one group a turn: what stands, with what is left, is the whole.
use Rattle.std.proofs.Common.{◌≡◌, ◌+◌, length}
use Rattle.std.proofs.lemmas.List.Edits.{sets}
use Rattle.radix64.specs.Base64.{base64}
use Rattle.radix64.proofs.write_letters.Given as goal

abbrev pub invariant-loop-left : goal.invariant-loop-left
invariant-loop-left l = (l.to + length (base64 l.left) ≡ l.at + length (base64 l.s)) × (sets l.out l.to (base64 l.left) ≡ sets l.initial.out l.at (base64 l.s))

abbrev pub decreases-loop-left : goal.decreases-loop-left
decreases-loop-left l = length l.left
