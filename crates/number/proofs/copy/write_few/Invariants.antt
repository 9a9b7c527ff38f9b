-- `write_few` copies: what is still to be copied, from `i` on, is what was to be copied.
use Rattle.std.proofs.Common.{◌≡◌, ◌+◌, drop}
use Rattle.std.proofs.lemmas.List.Edits.{sets}
use Rattle.number.proofs.copy.write_few.Given as goal

abbrev pub invariant-loop-i : goal.invariant-loop-i
invariant-loop-i l = sets l.out (l.at + l.i) (drop l.i l.bytes) ≡ sets l.initial.out l.at l.bytes
