-- `has_keys`: what is left of the keys decides.
use Rattle.std.proofs.Common.{◌≡◌, ◌-◌}
use Rattle.lookup.specs.Path.{is_some, keys_from}
use Rattle.lookup.proofs.path.has_keys.Given as goal

abbrev pub invariant-loop : goal.invariant-loop
invariant-loop l = is_some (keys_from (l.count - l.counter) l.path l.at) ≡ is_some (keys_from l.count l.path l.first)
