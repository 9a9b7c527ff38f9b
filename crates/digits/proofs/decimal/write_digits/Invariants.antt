-- `write_digits` stores all digits: those not yet stored, with what is stored behind them, are the whole.
use Rattle.std.proofs.Common.{◌≡◌}
use Rattle.std.proofs.lemmas.List.Edits.{sets}
use Rattle.digits.specs.Digits.{digits_of}
use Rattle.digits.proofs.decimal.write_digits.Given as goal

abbrev pub invariant-loop-k : goal.invariant-loop-k
invariant-loop-k l = sets l.out l.at (digits_of l.k l.left) ≡ sets l.initial.out l.at (digits_of l.places l.n)
