-- `store`: each field to its words.
use Rattle.std.proofs.Common.{ap, ◌∙◌, arith, le-ltb}
use Rattle.std.proofs.lemmas.List.Edits.{sets}
use Rattle.builder.specs.Words.{store_of}
use Rattle.builder.proofs.Storing.{words_none, words_more, words_all}
use Rattle.builder.proofs.words.store.Goals as goal

pub loop-i-init : goal.loop-i-init
loop-i-init c = rw c.put_pair.ensures (words_none c.args.words.now c.args.builder)

pub loop-i-preserved : goal.loop-i-preserved
loop-i-preserved c =
    c.put_pair-in-loop-i.ensures ∙ rw c.loop-i.invariant (words_more c.args.words.now c.args.builder c.loop-i.i (omega arith))

pub returns : goal.returns
unfolding store_of
returns c =
    rw (le-ltb _ _ c.if-words-lt-WORDS.false, c.loop-i.invariant) (ap (sets c.args.words.now 0) (words_all c.args.builder c.loop-i.i (omega arith) (omega arith)))
