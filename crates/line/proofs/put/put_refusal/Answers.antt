-- `put_refusal` writes the line where it was measured to fit, and nothing where not.
use mathlib.Core.List.{[]}
use mathlib.Core.Path.{◌≡◌, refl, sym, ◌∙◌}
use Prim.Native.Nat.{◌+◌, ◌≤◌}
use native.Mathlib.Omega.{arith}
use borrow.Author.Tests.{leb-true}
use lib.ListN.{length}
use Rattle.digits.specs.Ascii.{ascii}
use Rattle.digits.specs.Digits.{decimal}
use Rattle.digits.specs.Put.{Written}
use Rattle.digits.specs.PutLaws.{put_fits, put_unfit, written_append, written_length}
use Rattle.line.specs.Line.{refusal_line, row, spaced, tail}
use Rattle.line.specs.LineLaws.{length_row, length_ended, length_refusal}
use Rattle.line.specs.Piece.{numeral_of, mark_of, space_of, line_size}
use Rattle.line.proofs.put.put_refusal.Goals as goal
use Rattle.line.proofs.put.put_refusal.Lts as lts
use Rattle.line.proofs.put.put_refusal.Reads as reads
use Rattle.line.proofs.put.put_refusal.Tie as tie

-- what was measured is as long as the line
measured : (c : lts.After-has_room tie.the-claims reads.Pre reads.Post tie.handed_clauses) → let a = c.args in line_size 10 (c.numeral_length.result + c.numeral_length-2.result) 0 ≡ length (refusal_line a.number a.place)
unfolding numeral_of space_of
measured c =
    let a = c.args in
    omega (arith, length_refusal a.number a.place, c.numeral_length.ensures.value, c.numeral_length-2.ensures.value)

-- it fits
room : (c : lts.Then1 tie.the-claims reads.Pre reads.Post tie.handed_clauses) → let a = c.args in a.at + (length (spaced (decimal a.number)) + length (spaced (decimal a.place)) + 11) ≤ length a.out.now
room c =
    let a = c.args in
    rw (← length_refusal a.number a.place, ← measured c.before) (leb-true _ _ (sym c.has_room.ensures ∙ c.if-has_room.true))

-- where the word is written
abbrev fitting : lts.After-write_numeral-arg tie.the-claims reads.Pre reads.Post tie.handed_clauses → lts.Then1 tie.the-claims reads.Pre reads.Post tie.handed_clauses
fitting c = c.before.before.before.before.before.before.before

word : (c : lts.After-write_numeral-arg tie.the-claims reads.Pre reads.Post tie.handed_clauses) → let a = c.args in Written a.out.now a.at (ascii "refused") c.write_bytes.new.out (a.at + 7)
word c = record { place = refl; memory = c.write_bytes.ensures }

pub overflow_add-at : goal.overflow_add-at
overflow_add-at c = omega (arith, room (fitting c))

pub write_numeral-at_at-requires : goal.write_numeral-at_at-requires
unfolding numeral_of
write_numeral-at_at-requires c = omega (arith, room (fitting c), written_length (word c))

pub write_row-end-requires : goal.write_row-end-requires
unfolding numeral_of mark_of tail
write_row-end-requires c =
    let n = c.write_numeral-at_at.ensures in
    let place = spaced (decimal c.args.place) in
    omega (arith, room (fitting c.before.before.before.before.before.before.before.before), length_ended (row (ascii " at") place []) [], length_row (ascii " at") place [], n.place, written_length n, written_length (word c.before.before.before.before.before.before.before.before))

pub returns-then-has_room : goal.returns-then-has_room
unfolding refusal_line numeral_of mark_of
returns-then-has_room c =
    let t = fitting c.before.before.before.before.before.before.before.before.before.before.before.before in
    let both = put_fits _ (measured t.before)
    (written_append (word c.before.before.before.before.before.before.before.before.before.before.before.before) (written_append c.write_numeral-at_at.ensures c.write_row-end.ensures))
    (sym t.before.has_room.ensures ∙ t.if-has_room.true) in record { value = both.0; out_after = both.1 }

pub returns : goal.returns
returns c = let both = put_unfit _ _ _ _ (measured c.before.before) (sym c.has_room.ensures ∙ c.if-has_room.false) in record { value = both.0; out_after = both.1 }
