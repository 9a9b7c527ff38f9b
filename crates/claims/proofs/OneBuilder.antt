-- Each contract of the builder's public functions, and of those that were made public for it, leaves one answer and one content of all lent memory.
use Rattle.std.specs.Prelude.{Option}
use mathlib.Core.List.{List, []}
use mathlib.Core.Path.{◌≡◌, refl, sym, ◌∙◌}
use Prim.Native.Nat.{ℕ}
use borrow.Fn.Kinds.{Dens, ended_of, res_t}
use contract.Lifetimes.{Lfts}
use denote.Triple.Clauses.{AtExit}
use lib.ListN.{length, drop}
use Rattle.tape.proofs.append.is_bad.Kinds as is-bad-kinds
use Rattle.tape.proofs.append.is_bad.Reads as is-bad-reads
use Rattle.tape.proofs.room.lacks_event.Kinds as lacks-event-kinds
use Rattle.tape.proofs.room.lacks_event.Reads as lacks-event-reads
use Rattle.builder.proofs.state.Builder.empty.Kinds as empty-kinds
use Rattle.builder.proofs.state.Builder.empty.Reads as empty-reads
use Rattle.builder.proofs.state.open_words.Kinds as open-words-kinds
use Rattle.builder.proofs.state.open_words.Reads as open-words-reads
use Rattle.builder.proofs.build.start.Kinds as start-kinds
use Rattle.builder.proofs.build.start.Reads as start-reads
use Rattle.builder.proofs.build.value.Kinds as value-kinds
use Rattle.builder.proofs.build.value.Reads as value-reads
use Rattle.builder.proofs.build.end.Kinds as end-kinds
use Rattle.builder.proofs.build.end.Reads as end_reads
use Rattle.builder.proofs.finish.finish.Kinds as finish-kinds
use Rattle.builder.proofs.finish.finish.Reads as finish-reads
use Rattle.builder.proofs.words.builder_words.Kinds as builder-words-kinds
use Rattle.builder.proofs.words.builder_words.Reads as builder-words-reads
use Rattle.builder.proofs.words.load.Kinds as load-kinds
use Rattle.builder.proofs.words.load.Reads as load-reads
use Rattle.builder.proofs.words.store.Kinds as store-kinds
use Rattle.builder.proofs.words.store.Reads as store-reads
use Rattle.exports.proofs.tape_append.event_for.Kinds as event-for-kinds
use Rattle.exports.proofs.tape_append.event_for.Reads as event-for-reads
use Rattle.exports.proofs.write.written_numbers.Kinds as written-numbers-kinds
use Rattle.exports.proofs.write.written_numbers.Reads as written-numbers-reads
use Rattle.exports_build.proofs.build.zm_build_begin.Kinds as zm-build-begin-kinds
use Rattle.exports_build.proofs.build.zm_build_begin.Reads as zm-build-begin-reads
use Rattle.exports_build.proofs.build.zm_build.Kinds as zm-build-kinds
use Rattle.exports_build.proofs.build.zm_build.Reads as zm-build-reads
use Rattle.exports_build.proofs.build.zm_build_finish.Kinds as zm-build-finish-kinds
use Rattle.exports_build.proofs.build.zm_build_finish.Reads as zm-build-finish-reads
use Rattle.builder.specs.Finish.{finish_used}
use Rattle.builder.specs.SaidLaws.{answer_said_one, finished_said_one}
use Rattle.builder.specs.declared.state.Builder.{Builder}
use Rattle.exports_build.specs.Build.{finished_used}
use Rattle.exports.specs.TapeAppend.{chosen_meaning}
use Rattle.event.specs.Meaning.{Meaning}
use Rattle.reader.proofs.One.{One, OneView}

open_words_one : One 0 open-words-kinds.ps open-words-kinds.r open-words-reads.Post (Unit {0}) (λ κs e. tt)
open_words_one κs a x y e f p q = (p ∙ sym q, refl)

is_bad_one : One 1 is-bad-kinds.ps is-bad-kinds.r is-bad-reads.Post (Unit {0}) (λ κs e. tt)
is_bad_one κs a x y e f p q = (p ∙ sym q, refl)

lacks_event_one : One 1 lacks-event-kinds.ps lacks-event-kinds.r lacks-event-reads.Post (Unit {0}) (λ κs e. tt)
lacks_event_one κs a x y e f p q = (p ∙ sym q, refl)

empty_one : One 0 empty-kinds.ps empty-kinds.r empty-reads.Post (Unit {0}) (λ κs e. tt)
empty_one κs a x y e f p q = (p ∙ sym q, refl)

builder_words_one : One 0 builder-words-kinds.ps builder-words-kinds.r builder-words-reads.Post (Unit {0}) (λ κs e. tt)
builder_words_one κs a x y e f p q = (p ∙ sym q, refl)

load_one : One 1 load-kinds.ps load-kinds.r load-reads.Post (Unit {0}) (λ κs e. tt)
load_one κs a x y e f p q = (p ∙ sym q, refl)

store_one : One 1 store-kinds.ps store-kinds.r store-reads.Post (List ℕ) (λ κs e. e.0.now)
store_one κs a x y e f p q = (refl, p ∙ sym q)

start_one : One 2 start-kinds.ps start-kinds.r start-reads.Post (record { builder : Builder; tape : List ℕ }) (λ κs e. record { builder = e.0.now; tape = e.1.0.now })
start_one κs a x y e f p q = (answer_said_one x y (p.0 ∙ sym q.0), rw (p.1.1.0 ∙ sym q.1.1.0, p.1.0 ∙ sym q.1.0))

value_one : One 3 value-kinds.ps value-kinds.r value-reads.Post (record { builder : Builder; tape : List ℕ }) (λ κs e. record { builder = e.0.now; tape = e.1.0.now })
value_one κs a x y e f p q = (answer_said_one x y (p.0 ∙ sym q.0), rw (p.1.1.0 ∙ sym q.1.1.0, p.1.0 ∙ sym q.1.0))

end_one : One 2 end-kinds.ps end-kinds.r end_reads.Post (record { builder : Builder; tape : List ℕ }) (λ κs e. record { builder = e.0.now; tape = e.1.0.now })
end_one κs a x y e f p q = (answer_said_one x y (p.0 ∙ sym q.0), rw (p.1.1 ∙ sym q.1.1, p.1.0 ∙ sym q.1.0))

-- the words stand below: their first eight for each event are left open (docs/EXCEPTIONS.md)
finish_one : One 3 finish-kinds.ps finish-kinds.r finish-reads.Post (List ℕ) (λ κs e. e.1.1.1.0.now)
finish_one κs a x y e f p q = (finished_said_one x y (p.0 ∙ sym q.0), p.1.0 ∙ sym q.1.0)

finish_words :
    (κs : Lfts 3) (a : Dens κs finish-kinds.ps) (x y : (res_t finish-kinds.r κs).Denot) (e f : AtExit (ended_of 3 finish-kinds.ps finish-kinds.r) κs)
    → finish-reads.Post κs a x e → finish-reads.Post κs a y f
    → drop (finish_used a.0 a.1.0.now (length a.1.1.0.now)) e.1.1.0.now ≡ drop (finish_used a.0 a.1.0.now (length a.1.1.0.now)) f.1.1.0.now
finish_words κs a x y e f p q = p.1.1 ∙ sym q.1.1

-- two events that mean the same are one answer (docs/EXCEPTIONS.md)
event_for_one : OneView 0 event-for-kinds.ps event-for-kinds.r event-for-reads.Post (Option Meaning) (λ κs x. chosen_meaning x [])
event_for_one κs a x y e f p q = p [] ∙ sym (q [])

written_numbers_one : One 0 written-numbers-kinds.ps written-numbers-kinds.r written-numbers-reads.Post (Unit {0}) (λ κs e. tt)
written_numbers_one κs a x y e f p q = (p ∙ sym q, refl)

zm_build_begin_one : One 1 zm-build-begin-kinds.ps zm-build-begin-kinds.r zm-build-begin-reads.Post (List ℕ) (λ κs e. e.0.now)
zm_build_begin_one κs a x y e f p q = (p.0 ∙ sym q.0, p.1 ∙ sym q.1)

zm_build_one : One 6 zm-build-kinds.ps zm-build-kinds.r zm-build-reads.Post (record { place : ℕ; expected : ℕ; found : ℕ; words : List ℕ; tape : List ℕ }) (λ κs e. record { place = e.1.1.1.1.1.0.now; expected = e.1.1.1.1.1.1.0.now; found = e.1.1.1.1.1.1.1.0.now; words = e.0.now; tape = e.1.0.now })
zm_build_one κs a x y e f p q = (
  p.0 ∙ sym q.0,
  rw (p.1.0 ∙ sym q.1.0, p.1.1.0 ∙ sym q.1.1.0, p.1.1.1.0 ∙ sym q.1.1.1.0, p.1.1.1.1.0 ∙ sym q.1.1.1.1.0, p.1.1.1.1.1.0 ∙ sym q.1.1.1.1.1.0),
)

zm_build_finish_one : One 7 zm-build-finish-kinds.ps zm-build-finish-kinds.r zm-build-finish-reads.Post (record { value : ℕ; expected : ℕ; found : ℕ; out : List ℕ }) (λ κs e. record { value = e.1.1.1.1.0.now; expected = e.1.1.1.1.1.0.now; found = e.1.1.1.1.1.1.0.now; out = e.1.1.1.0.now })
zm_build_finish_one κs a x y e f p q = (
  p.0 ∙ sym q.0,
  rw (p.1.0 ∙ sym q.1.0, p.1.1.0 ∙ sym q.1.1.0, p.1.1.1.0 ∙ sym q.1.1.1.0, p.1.1.1.1.0 ∙ sym q.1.1.1.1.0),
)

zm_build_finish_words :
    (κs : Lfts 7) (a : Dens κs zm-build-finish-kinds.ps) (x y : (res_t zm-build-finish-kinds.r κs).Denot) (e f : AtExit (ended_of 7 zm-build-finish-kinds.ps zm-build-finish-kinds.r) κs)
    → zm-build-finish-reads.Post κs a x e → zm-build-finish-reads.Post κs a y f
    → drop (finished_used a.0.now a.1.0.now (length a.1.1.0.now)) e.1.1.0.now ≡ drop (finished_used a.0.now a.1.0.now (length a.1.1.0.now)) f.1.1.0.now
zm_build_finish_words κs a x y e f p q = p.1.1.1.1.1 ∙ sym q.1.1.1.1.1
