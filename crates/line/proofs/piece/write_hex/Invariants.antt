-- `write_hex` stores two digits for each byte: those stored, with those left behind them, are the whole.
use Rattle.std.proofs.Common.{◌≡◌, ◌+◌, ◌*◌, drop}
use Rattle.std.proofs.lemmas.List.Edits.{sets}
use Rattle.line.specs.Line.{hex}
use Rattle.line.proofs.piece.write_hex.Given as goal

abbrev pub invariant-loop-byte : goal.invariant-loop-byte
invariant-loop-byte l = (l.to ≡ l.at + 2 * l.byte-index) × (sets l.out l.to (hex (drop l.byte-index l.s)) ≡ sets l.initial.out l.at (hex l.s))
