-- `escaped_size`: what is counted and what is left make the whole.
use Rattle.std.proofs.Common.{◌≡◌, ◌+◌, ◌*◌, drop}
use Rattle.xml.specs.Text.{more_in}
use Rattle.xml.proofs.text.escaped_size.Given as goal

abbrev pub invariant-loop-block : goal.invariant-loop-block
invariant-loop-block l = l.more + more_in (drop (l.block-index * 32) l.s) ≡ more_in l.s
