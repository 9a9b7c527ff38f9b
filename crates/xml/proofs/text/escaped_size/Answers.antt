-- `escaped_size`: what is counted and what is left make the whole. The text is no longer than a tape.
use Rattle.std.proofs.Common.{◌≡◌, ◌+◌, ◌*◌, ◌/◌, length, drop, arith}
use Rattle.xml.specs.Text.{more_in}
use Rattle.xml.specs.TextLaws.{length_escape, more_most}
use Rattle.xml.proofs.Chunks.{more_chunk}
use Rattle.xml.proofs.text.escaped_size.Goals as goal

-- what 32 bytes add, and what is left behind them
block : (c : goal.After-few_more) →
    let i = c.loop-block.block-index in
    let s = c.args.s.now in
    more_in (drop (i * 32) s) ≡ c.few_more.result + more_in (drop ((i + 1) * 32) s)
block c =
    let s = c.args.s.now in
    rw (c.few_more.ensures, c.as_chunks.ensures.front) (more_chunk 32 (length s / 32) c.loop-block.block-index s (omega (arith, c.loop-block-test.true, c.as_chunks.ensures.front_len)))

pub overflow_add-more : goal.overflow_add-more
overflow_add-more c = omega (arith, block c, more_most c.args.s.now, c.loop-block.invariant, c.requires)

pub loop-block-preserved : goal.loop-block-preserved
loop-block-preserved c = omega (arith, block c, c.loop-block.invariant)

-- what the last bytes add
last : (c : goal.After-few_more-2) → c.loop-block.more + c.few_more-2.result ≡ more_in c.args.s.now
last c =
    let s = c.args.s.now in
    let n : length s / 32 ≡ c.loop-block.block-index = omega (arith, c.loop-block-test.false, c.as_chunks.ensures.front_len) in
    let e : c.few_more-2.result ≡ more_in (drop (c.loop-block.block-index * 32) s) = rw (c.as_chunks.ensures.back, n) at c.few_more-2.ensures in
    omega (arith, e, c.loop-block.invariant)

pub overflow_add-result : goal.overflow_add-result
overflow_add-result c = omega (arith, last c, more_most c.args.s.now, c.requires)

pub overflow_add-result-2 : goal.overflow_add-result-2
overflow_add-result-2 c = omega (arith, last c, more_most c.args.s.now, c.requires)

pub returns : goal.returns
returns c = omega (arith, last c, length_escape c.args.s.now)
