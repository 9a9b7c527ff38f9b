-- `write_utf16` writes the whole text: what is written, with what is left behind it, is the text at every turn.
use Rattle.std.proofs.Common.{List, ℕ, true, length}
use Rattle.utf.specs.Unicode.{to_utf16}
use Rattle.utf.proofs.Writing.{Writing}
use Rattle.utf.proofs.to_utf16.write_utf16.Given as goal

-- any bytes are good
abbrev pub At : List ℕ → List ℕ → List ℕ → List ℕ → ℕ → Type 0
At = Writing (λ (s : List ℕ). true) to_utf16

abbrev pub invariant-loop-value : goal.invariant-loop-value
invariant-loop-value l = At l.s l.initial.out l.out l.rest l.at

abbrev pub decreases-loop-value : goal.decreases-loop-value
decreases-loop-value l = length l.rest
