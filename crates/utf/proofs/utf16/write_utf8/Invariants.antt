-- `write_utf8` writes the whole text: what is written, with what is left behind it, is the text at every turn.
use Rattle.std.proofs.Common.{length}
use Rattle.utf.specs.Unicode.{is_utf16, to_utf8}
use Rattle.utf.proofs.Writing.{Writing}
use Rattle.utf.proofs.utf16.write_utf8.Given as goal

abbrev pub invariant-loop-value : goal.invariant-loop-value
invariant-loop-value l = Writing is_utf16 to_utf8 l.s l.initial.out l.out l.rest l.at

abbrev pub decreases-loop-value : goal.decreases-loop-value
decreases-loop-value l = length l.rest
