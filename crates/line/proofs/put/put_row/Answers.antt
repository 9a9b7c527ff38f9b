-- `put_row` writes a line where it was measured to fit, and nothing where not.
use mathlib.Core.Path.{◌≡◌, sym, ◌∙◌}
use Prim.Native.Nat.{◌+◌}
use native.Mathlib.Omega.{arith}
use borrow.Author.Tests.{leb-true}
use lib.ListN.{length}
use Rattle.digits.specs.PutLaws.{put_fits, put_unfit, written_length}
use Rattle.line.specs.Line.{row, ended}
use Rattle.line.specs.LineLaws.{length_row, length_ended, length_tail}
use Rattle.line.specs.Piece.{numeral_of, mark_of, line_size}
use Rattle.line.proofs.put.put_row.Goals as goal
use Rattle.line.proofs.put.put_row.Lts as lts
use Rattle.line.proofs.put.put_row.Reads as reads
use Rattle.line.proofs.put.put_row.Tie as tie

-- what was measured is as long as the line
measured : (c : lts.After-has_room tie.the-claims reads.Pre reads.Post tie.handed_clauses) → let a = c.args in line_size (length a.word.now) (c.numeral_length.result + c.mark_length.result) (length a.bytes.now) ≡ length (ended (row a.word.now (numeral_of a.number) a.bytes.now) (mark_of a.mark))
measured c =
    let a = c.args in
    let r = row a.word.now (numeral_of a.number) a.bytes.now in
    omega (
      arith,
      length_ended r (mark_of a.mark),
      length_row a.word.now (numeral_of a.number) a.bytes.now,
      length_tail a.bytes.now,
      c.numeral_length.ensures.value,
      c.mark_length.ensures.value,
    )

pub write_row-requires : goal.write_row-requires
write_row-requires c =
    let r = c.before.before.before in
    rw (← measured r) (leb-true _ _ (sym c.has_room.ensures ∙ c.if-has_room.true))

pub shape_of-out-then-has_room : goal.shape_of-out-then-has_room
shape_of-out-then-has_room c = written_length c.write_row.ensures

pub returns-then-has_room : goal.returns-then-has_room
returns-then-has_room c =
    let both = put_fits _ (measured c.before.before.before.before.before.before) c.write_row.ensures (sym c.has_room.ensures ∙ c.if-has_room.true) in record { value = both.0; out_after = both.1 }

pub returns : goal.returns
returns c = let both = put_unfit _ _ _ _ (measured c.before.before) (sym c.has_room.ensures ∙ c.if-has_room.false) in record { value = both.0; out_after = both.1 }
