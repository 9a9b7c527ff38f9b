-- `write_be` leaves the digits of the number: those not yet written, then what is written, are the whole.
use Rattle.std.proofs.Common.{◌≡◌, ◌++◌, length, drop}
use Rattle.number.specs.Be.{bytes_of}
use Rattle.number.proofs.be.write_be.Given as goal

abbrev pub invariant-loop-k : goal.invariant-loop-k
invariant-loop-k l = bytes_of l.k l.left ++ drop l.k l.part ≡ bytes_of (length l.initial.part) l.n
