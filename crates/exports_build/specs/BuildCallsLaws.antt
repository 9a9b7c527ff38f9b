-- The calls of C one after the other: the file that finishes them is the writer's for the events that were taken.
use Rattle.std.specs.Prelude.{Bool, true, false, cond, List, [], ◌∷◌, ◌++◌, ◌≡◌, refl, ℕ, ◌≤◌, length, None, Option, Some}
use Rattle.std.proofs.Common.{append-nil, arith, le-ltb}
use Rattle.std.proofs.Math.Seq.{length-sets}
use Rattle.event.specs.Meaning.{Meaning}
use Rattle.tape.specs.BytesLaws.{Sound}
use Rattle.tape.specs.Code.{bytes_for}
use Rattle.tape.specs.Events.{tape_of}
use Rattle.grammar.specs.Check.{check_of}
use Rattle.writer.specs.Write.{write_of, output_of, used_of}
use Rattle.builder.specs.Build.{Said, holds, refused, fitted_of, build_of, tape_by, tape_after, builder_after}
use Rattle.builder.specs.CallsLaws.{Stands, stands_empty, stands_taken, answer_by, build_checks, finish_writes}
use Rattle.builder.specs.State.{empty_builder}
use Rattle.builder.specs.Words.{builder_words, few_words, builder_in, words_of, store_of}
use Rattle.builder.specs.WordsLaws.{Small, small_empty, words_again, after_small}
use Rattle.builder.specs.declared.state.Builder.{Builder}
use Rattle.exports_build.specs.Build.{begun_words, meant_call, call_of, words_by, meant_words, called_words, meant_tape, called_tape, finish_call, finished_output, finished_used, SoundFor, Handed}
use Rattle.exports.specs.Codes.{Lent}

-- words, the tape and the events that were taken
pub record Called : Type 0 where
  pub words : List ℕ
  pub tape : List ℕ
  pub events : List Meaning

-- the event of a call, where it was taken
unfoldable pub taken_of : Said → Option Meaning → List Meaning
taken_of (holds n) (Some m) = m ∷ []
taken_of (holds n) None = []
taken_of (refused number kinds place) m = []

-- calls of `zm_build` one after the other, on words and a tape that nobody else alters
unfoldable pub calls_from : List ℕ → List ℕ → List Meaning → List (Option Meaning) → Called
calls_from words tape ms [] = record { words = words; tape = tape; events = ms }
calls_from words tape ms (m ∷ rest) = calls_from (called_words words (length tape) m) (called_tape words tape m) (ms ++ taken_of (call_of words (length tape) m) m) rest

-- words that are a builder behind events
pub record Kept (words tape : List ℕ) (ms : List Meaning) : Type 0 where
  pub enough : builder_words ≤ length words
  pub small : Small (builder_in words)
  pub stands : Stands (builder_in words) tape ms

few_not : (words : List ℕ) → builder_words ≤ length words → few_words words ≡ false
few_not words h = le-ltb (length words) builder_words h

length_store : (words : List ℕ) (b : Builder) → builder_words ≤ length words → length (store_of words b) ≡ length words
unfolding store_of
length_store words b h = rw (few_not words h) (length-sets words 0 (words_of b))

-- `zm_build_begin`
pub kept_begun : (words tape : List ℕ) → builder_words ≤ length words → Kept (begun_words words) tape []
unfolding begun_words
kept_begun words tape h =
    let e : builder_in (store_of words empty_builder) ≡ empty_builder = words_again words empty_builder h small_empty in
    record { enough = rw (length_store words empty_builder h) h; small = rw e small_empty; stands = rw e (stands_empty tape) }

-- `zm_build`
module _ (words tape : List ℕ) (ms : List Meaning) (k : Kept words tape ms) where
  same : Kept words tape (ms ++ [])
  same = rw (append-nil ms) k

  kept_some : (m : Meaning) → Lent tape → Sound m → (s : Said) → build_of (builder_in words) (length tape) m ≡ s
      → Kept (words_by s words (builder_after (builder_in words) (length tape) m)) (tape_after (builder_in words) tape m) (ms ++ taken_of s (Some m))
  unfolding words_by taken_of tape_after tape_by
  kept_some m l sound (refused n ks p) e = rw e same
  kept_some m l sound (holds n) e =
      let b : Builder = builder_after (builder_in words) (length tape) m in
      let fits : Small b = after_small (builder_in words) tape m k.small (omega arith) in
      let f : builder_in (store_of words b) ≡ b = words_again words b k.enough fits in
      record { enough = rw (length_store words b k.enough) k.enough; small = rw f fits; stands = rw f (stands_taken (builder_in words) tape m ms n k.stands sound e) }

  pub kept_called : (m : Option Meaning) → Handed tape m → Kept (called_words words (length tape) m) (called_tape words tape m) (ms ++ taken_of (call_of words (length tape) m) m)
  unfolding called_words called_tape call_of meant_words meant_tape meant_call taken_of
  kept_called None h = rw (few_not words k.enough) same
  kept_called (Some m) h = rw (few_not words k.enough) (kept_some m h.0 h.1 (build_of (builder_in words) (length tape) m) refl)

  -- its answer is what the check says of the events with this one behind them
  pub called_checks : (m : Meaning) → Sound m → call_of words (length tape) (Some m) ≡ answer_by (check_of (tape_of ms ++ bytes_for m)) (fitted_of (builder_in words).held (length (bytes_for m)) (length tape))
  unfolding call_of meant_call
  called_checks m sound = rw (few_not words k.enough) (build_checks (builder_in words) tape m ms k.stands sound)

  -- `zm_build_finish`
  pub kept_finish : (work : ℕ) (out : List ℕ) → (finish_call words tape work (length out) ≡ write_of (tape_of ms) work (length out)) × (finished_output words tape work out ≡ output_of (tape_of ms) work out) × (finished_used words tape work ≡ used_of (tape_of ms) work)
  unfolding finish_call finished_output finished_used
  kept_finish work out =
      let e = few_not words k.enough in
      let f = finish_writes (builder_in words) tape ms work out k.stands in
      (rw e f.0, rw e f.1, rw e f.2)

abbrev pub AllSound : List (Option Meaning) → Type 0
AllSound [] = Unit {0}
AllSound (m ∷ rest) = SoundFor m × AllSound rest

length_by : (s : Said) (tape : List ℕ) (at : ℕ) (bytes : List ℕ) → length (tape_by s tape at bytes) ≡ length tape
unfolding tape_by
length_by (holds n) tape at bytes = length-sets tape at bytes
length_by (refused number kinds place) tape at bytes = refl

length_called : (words tape : List ℕ) (m : Option Meaning) → length (called_tape words tape m) ≡ length tape
unfolding called_tape meant_tape tape_after
length_called words tape m = go (few_words words) m
  where
    go : (x : Bool) (m : Option Meaning) → length (cond x tape (meant_tape (builder_in words) tape m)) ≡ length tape
    go true m = refl
    go false None = refl
    go false (Some m) = length_by (build_of (builder_in words) (length tape) m) tape (builder_in words).held (bytes_for m)

-- all calls
pub kept_calls : (words tape : List ℕ) (ms : List Meaning) (os : List (Option Meaning)) → Kept words tape ms → Lent tape → AllSound os → let r = calls_from words tape ms os in Kept r.words r.tape r.events
unfolding calls_from
kept_calls words tape ms [] k l a = k
kept_calls words tape ms (m ∷ rest) k l a =
    kept_calls (called_words words (length tape) m) (called_tape words tape m) (ms ++ taken_of (call_of words (length tape) m) m) rest
    (kept_called words tape ms k m (l, a.0)) (rw (length_called words tape m) l) a.1

-- THE FILE of calls: begun, called and finished, the answer, the output and the words are the writer's, for the events that were taken
pub calls_finish : (words tape : List ℕ) (os : List (Option Meaning)) (work : ℕ) (out : List ℕ) → builder_words ≤ length words → Lent tape → AllSound os
    → let r = calls_from (begun_words words) tape [] os in
    (finish_call r.words r.tape work (length out) ≡ write_of (tape_of r.events) work (length out)) × (finished_output r.words r.tape work out ≡ output_of (tape_of r.events) work out) × (finished_used r.words r.tape work ≡ used_of (tape_of r.events) work)
calls_finish words tape os work out h l a =
    let r = calls_from (begun_words words) tape [] os in
    kept_finish r.words r.tape r.events (kept_calls (begun_words words) tape [] os (kept_begun words tape h) l a) work out
