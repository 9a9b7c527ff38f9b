-- `write_escaped`: what was written so far.
use Rattle.std.proofs.Common.{take, ◌*◌}
use Rattle.digits.specs.Put.{Written}
use Rattle.xml.specs.Xml.{escape}
use Rattle.xml.proofs.text.write_escaped.Given as goal

abbrev pub invariant-loop-eight : goal.invariant-loop-eight
invariant-loop-eight l = Written l.initial.out l.initial.to (escape (take (l.eight-index * 8) l.fn.s)) l.out l.to
