-- `write_eights` copies eight bytes a turn, and at the end the last eight: what it has written are the first bytes.
use Rattle.std.proofs.Common.{◌≡◌, ◌*◌, take}
use Rattle.std.proofs.lemmas.List.Edits.{sets}
use Rattle.number.proofs.copy.write_eights.Given as goal

abbrev pub invariant-loop-k : goal.invariant-loop-k
invariant-loop-k l = l.out ≡ sets l.initial.out l.at (take (8 * l.k) l.bytes)
