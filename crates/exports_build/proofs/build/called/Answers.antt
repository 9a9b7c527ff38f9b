-- `called`: 252, then 251, then what the builder answers, and its words.
use mathlib.Core.Path.{◌≡◌, ap, sym, ◌∙◌}
use borrow.Author.Tests.{lt-ltb, le-ltb}
use lib.ListN.{length}
use Rattle.event.specs.Meaning.{Meaning, meaning_of}
use Rattle.builder.specs.Build.{Said, build_of, tape_after, builder_after}
use Rattle.builder.specs.Words.{builder_in}
use Rattle.builder.specs.WordsLaws.{loaded}
use Rattle.builder.specs.declared.state.Builder.{Builder}
use Rattle.exports_build.specs.Build.{numbers_by, meant_call, call_of, words_by, meant_words, called_words, meant_tape, called_tape}
use Rattle.exports.specs.TapeAppend.{meaning_for, chosen_meaning}
use Rattle.exports.specs.Write.{first_number, second_number}
use Rattle.std.specs.Prelude.{Option, Some, None}
use Rattle.event.specs.declared.Event.{Event}
use Rattle.exports_build.proofs.build.called.Goals as goal
use Rattle.exports_build.proofs.build.called.Goals.{After-event_for}

-- the event that was chosen means what the numbers mean
meant : (c : goal.After-event_for) (y : Option Event) → c.event_for.result ≡ y → meaning_for c.args.kind c.args.value c.args.bytes.now ≡ chosen_meaning y c.args.bytes.now
meant c y e =
    let s = c.args.bytes.now in
    sym (c.event_for.ensures s) ∙ ap (λ (z : Option Event). chosen_meaning z s) e

pub returns-then-builder-lt-WORDS : goal.returns-then-builder-lt-WORDS
unfolding call_of called_words called_tape numbers_by first_number second_number
returns-then-builder-lt-WORDS c =
    let e = lt-ltb _ _ c.if-builder-lt-WORDS.true in
    (record { value = rw e c.plain.ensures; builder_after = rw e; tape_after = rw e })

pub returns-in_default : goal.returns-in_default
unfolding call_of called_words called_tape numbers_by first_number second_number meant_call meant_words meant_tape chosen_meaning
returns-in_default c =
    let e = le-ltb _ _ c.if-builder-lt-WORDS.false in
    let m = meant (goal.at.returns-in_default c).After-event_for None c.in_default.is in
    (record { value = rw (e, m) c.plain-in_default.ensures; builder_after = rw (e, m); tape_after = rw (e, m) })

pub returns : goal.returns
unfolding call_of called_words called_tape numbers_by first_number second_number meant_call meant_words meant_tape chosen_meaning
returns c =
    let a = c.args in
    let w = a.builder.now in
    let t = a.tape.now in
    let x : Meaning = meaning_of c.in-Some.event a.bytes.now in
    let e = le-ltb _ _ c.if-builder-lt-WORDS.false in
    let m = meant (goal.at.returns c).After-event_for (Some c.in-Some.event) c.in-Some.is in
    let l : c.load-state.result ≡ builder_in w = loaded w e c.load-state.ensures in
    let n = length t in
    record {
      value = rw (e, m) (c.answered.ensures ∙ ap numbers_by (c.value-answer.ensures.answer_value ∙ ap (λ (y : Builder). build_of y n x) l));
      builder_after =
          rw (e, m)
          (c.keep.ensures ∙
          ap (λ (y : Said). words_by y w c.value-answer.new.builder) c.value-answer.ensures.answer_value ∙
          ap (λ (y : Builder). words_by (build_of c.load-state.result n x) w y) c.value-answer.ensures.builder_after ∙
          ap (λ (y : Builder). words_by (build_of y n x) w (builder_after y n x)) l);
      tape_after = rw (e, m) (c.value-answer.ensures.tape_after ∙ ap (λ (y : Builder). tape_after y t x) l);
    }
