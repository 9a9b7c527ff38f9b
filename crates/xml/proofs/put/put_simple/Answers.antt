-- `put_simple` writes the tags and the text between them, where they fit.
use Rattle.std.proofs.Common.{List, ◌++◌, ◌≡◌, ℕ, ◌+◌, length, sym, ◌∙◌, arith, length-append}
use Rattle.xml.specs.PutLaws.{placed, placed_none, placed_append}
use Rattle.xml.specs.Xml.{element}
use Rattle.xml.proofs.put.put_simple.Goals as goal

pub returns-then-fits : goal.returns-then-fits
unfolding element
returns-then-fits g c =
    rw (← c.tags_of-tags.ensures.front, ← c.tags_of-tags.ensures.back)
    (placed_append (placed c.write_piece-start.ensures) (placed_append (placed c.write_piece-end.ensures) (placed c.write_piece.ensures)))

-- its size
sized : (front s back : List ℕ) → length front + length s + length back ≡ length (front ++ (s ++ back))
sized front s back = simp length-append (omega arith)

pub returns : goal.returns
unfolding element
returns g c =
    let tags = c.tags_of-tags.result in
    rw (← c.tags_of-tags.ensures.front, ← c.tags_of-tags.ensures.back)
    (placed_none (length tags.front.now + length c.args.bytes.now + length tags.back.now) (sized tags.front.now c.args.bytes.now tags.back.now) (sym c.fits.ensures ∙ c.if-fits.false))
