-- `load`: each field from its words.
use Rattle.std.proofs.Common.{arith, le-ltb}
use Rattle.builder.specs.Words.{builder_in, load_of}
use Rattle.builder.proofs.Storing.{bits_in}
use Rattle.builder.proofs.words.load.Goals as goal

pub returns : goal.returns
unfolding load_of builder_in
returns c =
    let w = c.args.words.now in
    rw (le-ltb _ _ c.if-words-lt-WORDS.false, c.pair_at-held.ensures, bits_in c.loop-i.word-items w (omega arith) (λ k h. c.loop-i.invariant k (omega arith)))
