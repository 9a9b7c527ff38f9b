-- `few_units` adds up what each byte tells: what is counted and what is left make the whole. Twice 64 fits a byte.
use Rattle.std.proofs.Common.{◌≡◌, ◌+◌, drop}
use Rattle.utf.specs.ToUtf16.{units_in}
use Rattle.utf.proofs.to_utf16.few_units.Given as goal

abbrev pub invariant-loop-byte : goal.invariant-loop-byte
invariant-loop-byte l = l.count + units_in (drop l.byte-index l.part) ≡ units_in l.part
