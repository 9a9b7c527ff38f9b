-- `few_more` adds up what each byte takes more: what is counted and what is left make the whole.
use Rattle.std.proofs.Common.{◌≡◌, ◌+◌, drop}
use Rattle.xml.specs.Text.{more_in}
use Rattle.xml.proofs.text.few_more.Given as goal

abbrev pub invariant-loop-b : goal.invariant-loop-b
invariant-loop-b l = l.more + more_in (drop l.b-index l.part) ≡ more_in l.part
