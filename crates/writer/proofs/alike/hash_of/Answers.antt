-- Block by block, then the last eight bytes.
use Rattle.std.proofs.Common.{◌≡◌, ◌+◌, ◌-◌, ◌/◌, ◌<◌, ◌≤◌, length, take, refl, add-one, arith, le-ltb, lt-ltb, length-take-le}
use Rattle.std.specs.Simd.{first_chunks}
use Rattle.std.proofs.lemmas.List.{take_all}
use Rattle.writer.specs.Alike.{blocks_of, hash_of}
use Rattle.writer.specs.AlikeLaws.{mixed_block, mixed_last}
use Rattle.writer.proofs.alike.hash_of.Goals as goal

pub returns-in_default : goal.returns-in_default
unfolding hash_of
returns-in_default c =
    let s = c.args.bytes.now in
    let few : length s < 8 = c.in_default.ensures.cases in
    (rw (lt-ltb _ _ few, ← take_all 8 s (omega arith), ← c.read_eight.ensures) c.folded.ensures.0, c.folded.ensures.1)

pub loop-block-init : goal.loop-block-init
unfolding blocks_of
loop-block-init c = refl

pub loop-block-preserved : goal.loop-block-preserved
unfolding blocks_of
loop-block-preserved c =
    let l = c.loop-block in
    let s = c.args.bytes.now in
    let e = length s - 1 in
    let m = length (take e s) / 8 in
    let front : c.as_chunks.result.0.now ≡ first_chunks 8 m (take e s) = c.as_chunks.ensures.front in
    let long : length c.as_chunks.result.0.now ≡ m = c.as_chunks.ensures.front_len in
    let many : 8 ≤ length s = c.in-Some.ensures.cases.0 in
    let fits : length (take e s) ≡ e = length-take-le e s (omega arith) in
    rw (add-one, ← l.invariant) (rw (front, mixed_block l.h s e m l.block-index (omega arith) (omega arith)) at c.mixed-h.ensures)

pub returns : goal.returns
unfolding hash_of
returns c =
    let l = c.loop-block in
    let s = c.args.bytes.now in
    let many : 8 ≤ length s = c.in-Some.ensures.cases.0 in
    let front : length c.as_chunks.result.0.now ≡ length (take (length s - 1) s) / 8 = c.as_chunks.ensures.front_len in
    let long : length (take (length s - 1) s) ≡ length s - 1 = length-take-le _ s (omega arith) in
    let e : l.block-index ≡ (length s - 8 + 7) / 8 = omega arith in
    (rw (le-ltb _ _ many, ← e, ← l.invariant, ← mixed_last l.h s (length s - 8), ← c.in-Some.ensures.cases.1.same, ← c.mixed.ensures) c.folded-2.ensures.0, c.folded-2.ensures.1)
