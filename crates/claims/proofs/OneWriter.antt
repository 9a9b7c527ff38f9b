-- Each contract of the writer's public functions, and of those that it is built on, leaves one answer and one content of all lent memory.
use mathlib.Core.List.{List}
use mathlib.Core.Path.{◌≡◌, refl, sym, ◌∙◌}
use Prim.Native.Nat.{ℕ}
use borrow.Fn.Kinds.{Dens, ended_of, res_t}
use contract.Lifetimes.{Lfts}
use denote.Triple.Clauses.{AtExit}
use lib.ListN.{length, drop}
use Rattle.encode.specs.SaidLaws.{put_said_one, size_said_one}
use Rattle.grammar.specs.SaidLaws.{checked_said_one}
use Rattle.event.proofs.limits.max_length.Kinds as limit-length-kinds
use Rattle.event.proofs.limits.max_length.Reads as limit-length-reads
use Rattle.event.proofs.limits.max_open.Kinds as limit-open-kinds
use Rattle.event.proofs.limits.max_open.Reads as limit-open-reads
use Rattle.utf.proofs.unchecked.units_in.Kinds as units-in-kinds
use Rattle.utf.proofs.unchecked.units_in.Reads as units-in-reads
use Rattle.tape.proofs.value.number_at.Kinds as tape-number-kinds
use Rattle.tape.proofs.value.number_at.Reads as tape-number-reads
use Rattle.tape.proofs.room.lacks_room.Kinds as lacks-room-kinds
use Rattle.tape.proofs.room.lacks_room.Reads as lacks-room-reads
use Rattle.tape.proofs.unchecked.end_of.Kinds as end-of-kinds
use Rattle.tape.proofs.unchecked.end_of.Reads as end-of-reads
use Rattle.grammar.proofs.answer.number_of.Kinds as refusal-number-kinds
use Rattle.grammar.proofs.answer.number_of.Reads as refusal-number-reads
use Rattle.grammar.proofs.way.way_of.Kinds as way-of-kinds
use Rattle.grammar.proofs.way.way_of.Reads as way-of-reads
use Rattle.grammar.proofs.check.check_tape.Kinds as check-tape-kinds
use Rattle.grammar.proofs.check.check_tape.Reads as check-tape-reads
use Rattle.encode.proofs.size.head_size.Kinds as head-size-kinds
use Rattle.encode.proofs.size.head_size.Reads as head-size-reads
use Rattle.encode.proofs.unchecked.size_of.Kinds as size-of-kinds
use Rattle.encode.proofs.unchecked.size_of.Reads as size-of-reads
use Rattle.encode.proofs.put.put_number.Kinds as put-number-kinds
use Rattle.encode.proofs.put.put_number.Reads as put-number-reads
use Rattle.encode.proofs.put.put_head.Kinds as put-head-kinds
use Rattle.encode.proofs.put.put_head.Reads as put-head-reads
use Rattle.encode.proofs.unchecked.put_scalar.Kinds as put-scalar-kinds
use Rattle.encode.proofs.unchecked.put_scalar.Reads as put-scalar-reads
use Rattle.exports.proofs.write.zm_write.Kinds as zm-write-kinds
use Rattle.exports.proofs.write.zm_write.Reads as zm-write-reads
use Rattle.writer.proofs.write_file.Kinds as write-file-kinds
use Rattle.writer.proofs.write_file.Reads as write-file-reads
use Rattle.writer.specs.Write.{used_of}
use Rattle.writer.specs.WriteLaws.{written_said_one}
use Rattle.reader.proofs.One.{One}

limit_length_one : One 0 limit-length-kinds.ps limit-length-kinds.r limit-length-reads.Post (Unit {0}) (λ κs e. tt)
limit_length_one κs a x y e f p q = (p ∙ sym q, refl)

limit_open_one : One 0 limit-open-kinds.ps limit-open-kinds.r limit-open-reads.Post (Unit {0}) (λ κs e. tt)
limit_open_one κs a x y e f p q = (p ∙ sym q, refl)

units_in_one : One 1 units-in-kinds.ps units-in-kinds.r units-in-reads.Post (Unit {0}) (λ κs e. tt)
units_in_one κs a x y e f p q = (p ∙ sym q, refl)

tape_number_one : One 1 tape-number-kinds.ps tape-number-kinds.r tape-number-reads.Post (Unit {0}) (λ κs e. tt)
tape_number_one κs a x y e f p q = (p ∙ sym q, refl)

lacks_room_one : One 0 lacks-room-kinds.ps lacks-room-kinds.r lacks-room-reads.Post (Unit {0}) (λ κs e. tt)
lacks_room_one κs a x y e f p q = (p ∙ sym q, refl)

end_of_one : One 1 end-of-kinds.ps end-of-kinds.r end-of-reads.Post (Unit {0}) (λ κs e. tt)
end_of_one κs a x y e f p q = (p ∙ sym q, refl)

refusal_number_one : One 0 refusal-number-kinds.ps refusal-number-kinds.r refusal-number-reads.Post (Unit {0}) (λ κs e. tt)
refusal_number_one κs a x y e f p q = (p ∙ sym q, refl)

way_of_one : One 0 way-of-kinds.ps way-of-kinds.r way-of-reads.Post (Unit {0}) (λ κs e. tt)
way_of_one κs a x y e f p q = (p ∙ sym q, refl)

check_tape_one : One 1 check-tape-kinds.ps check-tape-kinds.r check-tape-reads.Post (Unit {0}) (λ κs e. tt)
check_tape_one κs a x y e f p q = (checked_said_one x y (p ∙ sym q), refl)

head_size_one : One 0 head-size-kinds.ps head-size-kinds.r head-size-reads.Post (Unit {0}) (λ κs e. tt)
head_size_one κs a x y e f p q = (p ∙ sym q, refl)

size_of_one : One 1 size-of-kinds.ps size-of-kinds.r size-of-reads.Post (Unit {0}) (λ κs e. tt)
size_of_one κs a x y e f p q = (size_said_one a.1.0 x y (p ∙ sym q), refl)

put_number_one : One 1 put-number-kinds.ps put-number-kinds.r put-number-reads.Post (List ℕ) (λ κs e. e.0.now)
put_number_one κs a x y e f p q = (put_said_one 0 x y (p.0 ∙ sym q.0), p.1 ∙ sym q.1)

put_head_one : One 1 put-head-kinds.ps put-head-kinds.r put-head-reads.Post (List ℕ) (λ κs e. e.0.now)
put_head_one κs a x y e f p q = (put_said_one 0 x y (p.0 ∙ sym q.0), p.1 ∙ sym q.1)

put_scalar_one : One 2 put-scalar-kinds.ps put-scalar-kinds.r put-scalar-reads.Post (List ℕ) (λ κs e. e.1.1.1.0.now)
put_scalar_one κs a x y e f p q = (put_said_one a.1.0 x y (p.0 ∙ sym q.0), p.1 ∙ sym q.1)

-- the words stand below: their first eight for each event are left open (docs/EXCEPTIONS.md)
write_file_one : One 3 write-file-kinds.ps write-file-kinds.r write-file-reads.Post (List ℕ) (λ κs e. e.1.1.0.now)
write_file_one κs a x y e f p q = (written_said_one x y (p.0 ∙ sym q.0), p.1.0 ∙ sym q.1.0)

-- the words behind those that the definition lets change are the same after two answers
write_file_words :
    (κs : Lfts 3) (a : Dens κs write-file-kinds.ps) (x y : (res_t write-file-kinds.r κs).Denot) (e f : AtExit (ended_of 3 write-file-kinds.ps write-file-kinds.r) κs)
    → write-file-reads.Post κs a x e → write-file-reads.Post κs a y f
    → drop (used_of a.0.now (length a.1.0.now)) e.1.0.now ≡ drop (used_of a.0.now (length a.1.0.now)) f.1.0.now
write_file_words κs a x y e f p q = p.1.1.0 ∙ sym q.1.1.0

zm_write_one : One 6 zm-write-kinds.ps zm-write-kinds.r zm-write-reads.Post (record { value : ℕ; expected : ℕ; found : ℕ; out : List ℕ }) (λ κs e. record { value = e.1.1.1.0.now; expected = e.1.1.1.1.0.now; found = e.1.1.1.1.1.0.now; out = e.1.1.0.now })
zm_write_one κs a x y e f p q = (
  p.0 ∙ sym q.0,
  rw (p.1.0 ∙ sym q.1.0, p.1.1.0 ∙ sym q.1.1.0, p.1.1.1.0 ∙ sym q.1.1.1.0, p.1.1.1.1.0 ∙ sym q.1.1.1.1.0),
)

zm_write_words :
    (κs : Lfts 6) (a : Dens κs zm-write-kinds.ps) (x y : (res_t zm-write-kinds.r κs).Denot) (e f : AtExit (ended_of 6 zm-write-kinds.ps zm-write-kinds.r) κs)
    → zm-write-reads.Post κs a x e → zm-write-reads.Post κs a y f
    → drop (used_of a.0.now (length a.1.0.now)) e.1.0.now ≡ drop (used_of a.0.now (length a.1.0.now)) f.1.0.now
zm_write_words κs a x y e f p q = p.1.1.1.1.1.0 ∙ sym q.1.1.1.1.1.0
