-- `store`: every turn stores one word of the bits.
use Rattle.std.proofs.Common.{◌≡◌}
use Rattle.std.proofs.lemmas.List.Edits.{sets}
use Rattle.builder.proofs.Storing.{words_to}
use Rattle.builder.proofs.words.store.Given as goal

abbrev pub invariant-loop-i : goal.invariant-loop-i
invariant-loop-i l = l.words ≡ sets l.fn.words 0 (words_to l.fn.builder l.i)
