-- `is_among` looks at all numbers: what was found before and what is left decide.
use Rattle.std.proofs.Common.{◌≡◌, ◌||◌, drop}
use Rattle.number.specs.Among.{among}
use Rattle.reader.proofs.opened.is_among.Given as goal

abbrev pub invariant-loop-other : goal.invariant-loop-other
invariant-loop-other l = (l.found || among (drop l.other-index l.numbers) l.number) ≡ among l.numbers l.number
