-- `finished`: 252, or what the builder's file is.
use mathlib.Core.Path.{refl, ap, ◌∙◌}
use borrow.Author.Tests.{lt-ltb, le-ltb}
use lib.ListN.{length}
use Rattle.builder.specs.Finish.{finish_of, finish_output}
use Rattle.builder.specs.WordsLaws.{loaded}
use Rattle.builder.specs.declared.state.Builder.{Builder}
use Rattle.exports_build.specs.Build.{written_numbers, finish_call, finished_output, finished_used}
use Rattle.exports.specs.Computed.{written}
use Rattle.exports_build.proofs.build.finished.Goals as goal

pub returns-then-builder-lt-WORDS : goal.returns-then-builder-lt-WORDS
unfolding finish_call finished_output finished_used written
returns-then-builder-lt-WORDS c =
    let e = lt-ltb _ _ c.if-builder-lt-WORDS.true in
    (record { value = rw e c.plain.ensures; out_after = rw e; work_unchanged = refl })

pub returns : goal.returns
unfolding finish_call finished_output finished_used
returns c =
    let a = c.args in
    let e = le-ltb _ _ c.if-builder-lt-WORDS.false in
    let l = loaded a.builder.now e c.load.ensures in
    let n = length a.work.now in
    record {
      value = rw e (c.file_numbers.ensures ∙ ap written_numbers (c.finish.ensures.result_value ∙ ap (λ (b : Builder). finish_of b a.tape.now n (length a.out.now)) l));
      out_after = rw e (c.finish.ensures.out_after ∙ ap (λ (b : Builder). finish_output b a.tape.now n a.out.now) l);
      work_unchanged = rw (e, ← l) c.finish.ensures.work_unchanged;
    }
