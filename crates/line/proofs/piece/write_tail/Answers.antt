-- `write_tail` writes a space and the digits, or nothing.
use mathlib.Core.Path.{◌∙◌}
use Prim.Native.Nat.{◌+◌, ◌≤◌}
use native.Mathlib.Omega.{arith}
use lib.ListN.{length, length-set}
use Rattle.line.specs.Line.{hex}
use Rattle.line.specs.LineLaws.{tail_none, tail_some}
use Rattle.digits.specs.PutLaws.{written_nil, written_cons, written_length}
use Rattle.line.proofs.piece.write_tail.Goals as goal
use Rattle.line.proofs.piece.write_tail.Lts as lts
use Rattle.line.proofs.piece.write_tail.Reads as reads
use Rattle.line.proofs.piece.write_tail.Tie as tie

pub returns-then-s-eq0 : goal.returns-then-s-eq0
returns-then-s-eq0 c = rw (tail_none c.args.s.now c.if-s-eq0.true) (written_nil _ _)

-- the room of a space and the digits
room : (c : lts.Else1 tie.the-claims reads.Pre reads.Post) → c.args.at + 1 + length (hex c.args.s.now) ≤ length c.args.out.now
room c = omega (arith, rw (tail_some c.args.s.now c.if-s-eq0.false) at c.requires)

pub bounds-out-at : goal.bounds-out-at
bounds-out-at c = omega (arith, room c.before)

pub overflow_add-at : goal.overflow_add-at
overflow_add-at c = omega (arith, room c.before.before)

pub write_hex-requires : goal.write_hex-requires
write_hex-requires c = rw length-set (room c.before.before)

pub shape_of-out : goal.shape_of-out
shape_of-out c = written_length c.write_hex.ensures ∙ simp length-set

pub returns : goal.returns
returns c = rw (tail_some c.args.s.now c.if-s-eq0.false) (written_cons _ _ _ c.write_hex.ensures)
