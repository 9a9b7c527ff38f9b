-- Word by word.
use Rattle.std.proofs.Common.{drop}
use Rattle.writer.proofs.Numbers.{Rest}
use Rattle.writer.proofs.put.put_table.Given as goal

abbrev pub invariant-loop-place : goal.invariant-loop-place
invariant-loop-place l = Rest l.initial.out l.table l.size l.places l.out l.pos (drop l.place-index l.places)
