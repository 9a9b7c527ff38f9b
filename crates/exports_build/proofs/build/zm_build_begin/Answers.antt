-- `zm_build_begin`: the words of the empty builder, where they fit.
use mathlib.Core.Path.{ap, ◌∙◌}
use borrow.Author.Tests.{lt-ltb, le-ltb}
use Rattle.builder.specs.Words.{store_of}
use Rattle.builder.specs.declared.state.Builder.{Builder}
use Rattle.exports_build.specs.Build.{begin_code, begun_words}
use Rattle.exports_build.proofs.build.zm_build_begin.Goals as goal

pub returns-then-builder-lt-WORDS : goal.returns-then-builder-lt-WORDS
unfolding begin_code begun_words store_of
returns-then-builder-lt-WORDS c =
    let e = lt-ltb _ _ c.if-builder-lt-WORDS.true in
    (record { value = rw e; builder_after = rw e })

pub returns : goal.returns
unfolding begin_code begun_words
returns c =
    let e = le-ltb _ _ c.if-builder-lt-WORDS.false in
    let w = c.args.builder.now in
    (record { value = rw e; builder_after = c.store.ensures ∙ ap (λ (b : Builder). store_of w b) c.empty.ensures })
