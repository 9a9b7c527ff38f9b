-- `put_whole` writes the header, the lines and the footer, one behind the other.
use mathlib.Core.List.{[]}
use native.Mathlib.Omega.{arith}
use Rattle.digits.specs.Put.{Written}
use Rattle.digits.specs.PutLaws.{written_length}
use Rattle.grammar.specs.declared.turn.Due.TheVariants.{Root}
use Rattle.tape.specs.Events.{meanings_in}
use Rattle.xml.specs.Words.{declaration, doctype, plist, footer}
use Rattle.xml.specs.Xml.{lines_from}
use Rattle.xml.proofs.Wholly.{xml_long, laid_written, whole_written, laid_once}
use Rattle.xml.proofs.put_whole.Goals as goal
use Rattle.xml.proofs.put_whole.Lts as lts
use Rattle.xml.proofs.put_whole.Reads as reads
use Rattle.xml.proofs.put_whole.Tie as tie

pub returns-in_default : goal.returns-in_default
returns-in_default c =
    absurd (laid_once _ c.put_lines.ensures c.in_default.is c.requires.1)

-- the lines stand behind the header
lines : (x : lts.Past-After-known_told tie.the-claims reads.Pre reads.Post) →
    let header = x.write_piece-lines_at in
    Written header.new.out header.result (lines_from Root [] (meanings_in x.args.tape.now)) x.put_lines.new.out x.in-Ok.end
lines x =
    let first = x.write_piece-doctype_at.ensures in
    let second = x.write_piece-plist_at.ensures in
    let third = x.write_piece-lines_at.ensures in
    let l = x.put_lines.ensures in
    let long = xml_long (meanings_in x.args.tape.now) in
    laid_written l x.in-Ok.is
    (omega (arith, long, x.requires.2, l.place _ x.in-Ok.is, first.place, second.place, third.place, written_length first, written_length second, written_length third))

pub returns : goal.returns
unfolding declaration doctype plist footer
returns c =
    let write-piece = c.write_piece-doctype_at in
    let write-piece2 = c.write_piece-plist_at in
    let write-piece3 = c.write_piece-lines_at in
    whole_written (meanings_in c.args.tape.now) write-piece.ensures write-piece2.ensures write-piece3.ensures (lines c.before.before.before.before.before.before.before) c.write_piece.ensures
