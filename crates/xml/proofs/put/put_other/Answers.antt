-- `put_other` writes the three pieces, one behind the other.
use Rattle.std.proofs.Common.{sym, ◌∙◌, arith}
use Rattle.xml.specs.PutLaws.{placed, placed_append, puts, worded_escaped}
use Rattle.xml.specs.TextLaws.{length_escape, more_most}
use Rattle.xml.specs.Xml.{element}
use Rattle.xml.proofs.put.put_other.Goals as goal

pub write_piece-requires : goal.write_piece-requires
write_piece-requires c =
    let few = c.tags_of-tags.ensures.few in
    let s = c.args.bytes.now in
    omega (arith, c.write_piece-start.ensures.place, c.put_escaped-end.ensures.place, few.0, few.1, c.requires.0, c.requires.1, length_escape s, more_most s)

pub returns : goal.returns
unfolding element
returns c =
    let all = placed_append (placed c.write_piece-start.ensures) (placed_append c.put_escaped-end.ensures (placed c.write_piece.ensures)) in
    worded_escaped _ _ c.args.key _ _ _ (sym c.is_barred.ensures ∙ c.if-is_barred.false)
    (puts (rw (c.tags_of-tags.ensures.front, c.tags_of-tags.ensures.back) at all))
