-- `has_barred`: what is left decides.
use Rattle.std.proofs.Common.{◌≡◌, drop}
use Rattle.xml.specs.Text.{barred_in}
use Rattle.xml.proofs.text.has_barred.Given as goal

abbrev pub invariant-loop-i : goal.invariant-loop-i
invariant-loop-i l = barred_in l.s ≡ barred_in (drop l.i l.s)
