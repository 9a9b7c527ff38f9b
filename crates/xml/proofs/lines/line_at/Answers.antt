-- `line_at` puts the line of the item that stands there; text has its own function.
use Rattle.std.specs.Prelude.{Some}
use mathlib.Core.Path.{◌≡◌, sym, ◌∙◌}
use native.Mathlib.Omega.{arith}
use Rattle.number.specs.BeLaws.{Bytes, bytes_of_law}
use Rattle.tape.specs.Item.{item_at}
use Rattle.xml.proofs.Telling.{not_bad, held_within, item_span, lent_short, lent_allowed, tells_item}
use borrow.Author.Rules.{rules}
use Rattle.xml.proofs.lines.line_at.Goals as goal
use Rattle.xml.proofs.lines.line_at.Lts as lts
use Rattle.xml.proofs.lines.line_at.Reads as reads
use Rattle.xml.proofs.lines.line_at.Tie as tie

pub bounds-tape-at : goal.bounds-tape-at
bounds-tape-at c = held_within c.args.tape.now c.args.at c.requires.2

pub returns-in_default : goal.returns-in_default
returns-in_default c =
    absurd (not_bad c.requires.2.item (sym c.in_default.is ∙ c.item_at.ensures ∙ c.requires.2.is))

-- the item, of a tape that is bytes
at_item : (x : lts.Past-After-known_told tie.the-claims reads.Pre reads.Post) → Bytes x.args.tape.now × (item_at x.args.tape.now x.args.at ≡ Some x.in-Some.item)
at_item x = (bytes_of_law x.args.tape.now (search rules), sym x.item_at.ensures ∙ x.in-Some.is)

pub slice_bounds-put_line-count : goal.slice_bounds-put_line-count
slice_bounds-put_line-count c =
    let i = at_item c.before.before in (item_span c.args.tape.now c.args.at i.0 _ i.1).0

pub slice_bounds-put_line-start : goal.slice_bounds-put_line-start
slice_bounds-put_line-start c =
    let i = at_item c.before.before in (item_span c.args.tape.now c.args.at i.0 _ i.1).0

pub slice_bounds-put_line-end : goal.slice_bounds-put_line-end
slice_bounds-put_line-end c =
    let i = at_item c.before.before in (item_span c.args.tape.now c.args.at i.0 _ i.1).1

pub put_line-requires : goal.put_line-requires
put_line-requires c =
    let i = at_item c.before.before.before in
    (c.requires.0, omega (arith, lent_short c.args.tape.now c.args.at i.0 _ i.1, c.requires.1), lent_allowed c.args.tape.now c.args.at i.0 _ i.1)

pub returns : goal.returns
returns c =
    let i = at_item c.before.before.before.before.before.before.before in
    tells_item c.args.tape.now c.args.at i.0 _ i.1 _ _ _ _ _ _ c.put_line.ensures c.open_way.ensures
