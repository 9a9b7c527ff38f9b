-- Key by key.
use Rattle.std.proofs.Common.{sym, ◌∙◌, arith}
use Rattle.writer.proofs.Saying.{saying_start, saying_length, saying_done, met, met_in, saying_single, saying_above, saying_turn}
use Rattle.writer.proofs.put.put_keys.Goals as goal

pub loop-i-init : goal.loop-i-init
loop-i-init c = λ kept ks vs o. saying_start o

pub put_once-pos-requires : goal.put_once-pos-requires
put_once-pos-requires c =
    let g = c.loop-i.invariant _ _ _ c.requires.3 in
    let h = c.loop-i-test.true in
    (g.mid, (met g h).bytes, saying_single g h c.requires.3.room)

pub word-i-requires : goal.word-i-requires
word-i-requires c =
    let g = c.loop-i.invariant _ _ _ c.requires.3 in
    let h = c.loop-i-test.true in
    omega (arith, met_in g h, (c.put_once-pos.ensures _ _ (saying_single g h c.requires.3.room)).stand.indexed.long)

pub loop-i-smaller : goal.loop-i-smaller
loop-i-smaller c =
    let g = c.loop-i.invariant _ _ _ c.requires.3 in
    let h = c.loop-i-test.true in
    rw c.word-i.ensures.0 (omega (arith, h, saying_above g h (c.put_once-pos.ensures _ _ (saying_single g h c.requires.3.room))))

pub loop-i-preserved : goal.loop-i-preserved
loop-i-preserved c =
    λ kept ks vs o.
    let h = c.loop-i-test.true in
    let g = c.loop-i.invariant kept ks vs o in
    rw c.word-i.ensures.0 (saying_turn g h (c.put_once-pos.ensures _ _ (saying_single g h o.room)) o.stand.here)

pub shape_of-work : goal.shape_of-work
shape_of-work c =
    let o = c.requires.3 in
    (c.loop-i.invariant _ _ _ o).grown.stand.indexed.long ∙ sym o.stand.indexed.long

pub shape_of-out : goal.shape_of-out
shape_of-out c = saying_length (c.loop-i.invariant _ _ _ c.requires.3)

pub returns : goal.returns
returns c = λ kept ks vs o. saying_done (c.loop-i.invariant kept ks vs o) c.loop-i-test.false
