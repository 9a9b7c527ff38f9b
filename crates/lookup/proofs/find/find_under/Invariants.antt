-- `find_under`: every turn takes one key.
use Rattle.std.proofs.Common.{◌-◌}
use Rattle.lookup.proofs.Finding.{Left}
use Rattle.lookup.proofs.find.find_under.Given as goal

abbrev pub invariant-loop : goal.invariant-loop
invariant-loop l = Left l.tape l.path l.count l.first (l.count - l.counter) l.next l.at
