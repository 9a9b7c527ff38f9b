-- `write_characters`: what was written so far.
use Rattle.std.proofs.Common.{take}
use Rattle.digits.specs.Put.{Written}
use Rattle.xml.specs.Xml.{escape}
use Rattle.xml.proofs.text.write_characters.Given as goal

abbrev pub invariant-loop-b : goal.invariant-loop-b
invariant-loop-b l = Written l.initial.out l.initial.to (escape (take l.b-index l.s)) l.out l.to
