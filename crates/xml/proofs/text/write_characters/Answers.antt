-- `write_characters`: one byte more is written.
use Rattle.std.proofs.Common.{refl, arith}
use Rattle.digits.specs.PutLaws.{written_append, written_length}
use Rattle.xml.specs.Xml.{escape}
use Rattle.xml.proofs.Chunks.{escape_more, escape_one, escape_within}
use Rattle.xml.proofs.text.write_characters.Goals as goal

pub loop-b-init : goal.loop-b-init
unfolding escape
loop-b-init c = record { place = omega arith; memory = refl }

pub write_character-to-requires : goal.write_character-to-requires
write_character-to-requires c =
    let s = c.args.s.now in
    let i = c.loop-b.b-index in
    let w = c.loop-b.invariant in
    omega (arith, w.place, written_length w, rw (escape_one i s c.loop-b-test.true) at (escape_within 1 i s), c.requires)

pub loop-b-preserved : goal.loop-b-preserved
loop-b-preserved c =
    let s = c.args.s.now in
    let i = c.loop-b.b-index in
    rw (escape_more 1 i s, escape_one i s c.loop-b-test.true) (written_append c.loop-b.invariant c.write_character-to.ensures)
