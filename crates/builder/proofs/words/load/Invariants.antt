-- `load`: every turn reads one word of the bits.
use Rattle.std.proofs.Common.{◌≡◌, ℕ, ◌+◌, ◌*◌, ◌<◌, get_or}
use Rattle.builder.specs.Words.{pair_at}
use Rattle.builder.proofs.words.load.Given as goal

abbrev pub invariant-loop-i : goal.invariant-loop-i
invariant-loop-i l = (k : ℕ) → k < l.i → get_or l.word-items k 0 ≡ pair_at l.words (4 + 2 * k)
