-- `are_plain`: what was seen, and what is left, decide.
use Rattle.std.proofs.Common.{◌≡◌, drop}
use mathlib.Core.Bool.{◌&&◌}
use Rattle.utf.specs.Unicode.{is_ascii}
use Rattle.utf.proofs.plain.are_plain.Given as goal

abbrev pub invariant-loop-byte : goal.invariant-loop-byte
invariant-loop-byte l = (l.plain && is_ascii (drop l.byte-index l.part)) ≡ is_ascii l.part
