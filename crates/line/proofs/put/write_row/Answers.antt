-- `write_row` writes the five pieces one behind the other.
use mathlib.Core.Path.{refl}
use Prim.Native.Nat.{◌+◌, ◌≤◌}
use native.Mathlib.Omega.{arith}
use lib.ListN.{length, set}
use Rattle.digits.specs.Put.{Written}
use Rattle.digits.specs.PutLaws.{written_append, written_cons, written_nil, written_length}
use Rattle.line.specs.Line.{row, ended, tail}
use Rattle.line.specs.LineLaws.{length_row, length_ended}
use Rattle.line.specs.Piece.{numeral_of, mark_of}
use Rattle.line.proofs.put.write_row.Goals as goal
use Rattle.line.proofs.put.write_row.Lts as lts
use Rattle.line.proofs.put.write_row.Reads as reads
use Rattle.line.proofs.put.write_row.Tie as tie

-- the word is written
word : (c : lts.After-write_numeral-arg tie.the-claims reads.Pre reads.Post) → let a = c.args in Written a.out.now a.at a.word.now c.write_bytes.new.out (a.at + length a.word.now)
word c = record { place = refl; memory = c.write_bytes.ensures }

-- the room of all pieces
room : (c : lts.After-write_numeral-arg tie.the-claims reads.Pre reads.Post) → let a = c.args in a.at + (length a.word.now + (length (numeral_of a.number) + length (tail a.bytes.now)) + (length (mark_of a.mark) + 1)) ≤ length a.out.now
room c = rw (length_ended, length_row) at c.requires

pub write_numeral-bytes_at-requires : goal.write_numeral-bytes_at-requires
write_numeral-bytes_at-requires c = omega (arith, room c.before, written_length (word c.before))

pub write_tail-mark_at-requires : goal.write_tail-mark_at-requires
write_tail-mark_at-requires c =
    let n = c.write_numeral-bytes_at.ensures in
    omega (arith, room c.before.before.before.before.before, n.place, written_length (word c.before.before.before.before.before), written_length n)

pub write_mark-newline_at-requires : goal.write_mark-newline_at-requires
write_mark-newline_at-requires c =
    let n = c.write_numeral-bytes_at.ensures in
    let l = c.write_tail-mark_at.ensures in
    omega (arith, room c.before.before.before.before.before.before.before.before.before, n.place, l.place, written_length (word c.before.before.before.before.before.before.before.before.before), written_length n, written_length l)

abbrev worded : goal.After-slice_known-5-1 → lts.After-write_numeral-arg tie.the-claims reads.Pre reads.Post
worded c = c.before.before.before.before.before.before.before.before.before.before.before.before

pub bounds-out-newline_at : goal.bounds-out-newline_at
bounds-out-newline_at c =
    let n = c.write_numeral-bytes_at.ensures in
    let l = c.write_tail-mark_at.ensures in
    let m = c.write_mark-newline_at.ensures in
    omega (arith, room (worded c), n.place, l.place, m.place, written_length (word (worded c)), written_length n, written_length l, written_length m)

pub overflow_add-result : goal.overflow_add-result
overflow_add-result c = omega (arith, bounds-out-newline_at c)

-- all are written
whole : (c : goal.After-slice_known-5-1) → let a = c.args in let m = c.write_mark-newline_at in Written a.out.now a.at (ended (row a.word.now (numeral_of a.number) a.bytes.now) (mark_of a.mark)) (set m.new.out m.result 10) (m.result + 1)
unfolding row ended
whole c =
    written_append
    (written_append (word (worded c)) (written_append c.write_numeral-bytes_at.ensures c.write_tail-mark_at.ensures))
    (written_append c.write_mark-newline_at.ensures (written_cons _ _ 10 (written_nil _ _)))

pub shape_of-out : goal.shape_of-out
shape_of-out c = written_length (whole c)

pub returns : goal.returns
returns c = whole c
