-- `write_escaped`: eight bytes more are written, and those that are left behind them.
use Rattle.std.proofs.Common.{◌≡◌, ◌+◌, ◌*◌, ◌/◌, refl, arith, length}
use Rattle.digits.specs.PutLaws.{written_append, written_length}
use Rattle.xml.specs.Xml.{escape}
use Rattle.xml.proofs.Chunks.{chunk_of, escape_more, escape_split, escape_within, length_split}
use Rattle.xml.proofs.text.write_escaped.Goals as goal

pub loop-eight-init : goal.loop-eight-init
unfolding escape
loop-eight-init c = record { place = omega arith; memory = refl }

pub write_eight-to-requires : goal.write_eight-to-requires
write_eight-to-requires c =
    let s = c.args.s.now in
    let w = c.loop-eight.invariant in
    rw (chunk_of 8 s c.as_chunks.ensures.front c.loop-eight.eight-index c.loop-eight-test.true) (omega (arith, w.place, written_length w, escape_within 8 (c.loop-eight.eight-index * 8) s, c.requires))

pub loop-eight-preserved : goal.loop-eight-preserved
loop-eight-preserved c =
    let s = c.args.s.now in
    let i = c.loop-eight.eight-index in
    let e : (i + 1) * 8 ≡ i * 8 + 8 = omega arith in
    rw (e, escape_more 8 (i * 8) s) (written_append c.loop-eight.invariant (rw (chunk_of 8 s c.as_chunks.ensures.front c.loop-eight.eight-index c.loop-eight-test.true) at c.write_eight-to.ensures))

pub write_characters-requires : goal.write_characters-requires
write_characters-requires c =
    let s = c.args.s.now in
    let w = c.loop-eight.invariant in
    let n : length s / 8 ≡ c.loop-eight.eight-index = omega (arith, c.loop-eight-test.false, c.as_chunks.ensures.front_len) in
    rw (c.as_chunks.ensures.back, n) (omega (arith, w.place, written_length w, length_split (c.loop-eight.eight-index * 8) s, c.requires))

pub returns : goal.returns
returns c =
    let s = c.args.s.now in
    let n : length s / 8 ≡ c.loop-eight.eight-index = omega (arith, c.loop-eight-test.false, c.as_chunks.ensures.front_len) in
    rw (escape_split (c.loop-eight.eight-index * 8) s) (written_append c.loop-eight.invariant (rw (c.as_chunks.ensures.back, n) at c.write_characters.ensures))
