-- `put_escaped` measures, copies where nothing is escaped, and else writes where there is room.
use mathlib.Core.Path.{◌≡◌, sym, ◌∙◌}
use native.Mathlib.Omega.{arith}
use Rattle.xml.specs.PutLaws.{placed, placed_none}
use Rattle.xml.specs.Text.{more_in}
use Rattle.xml.specs.TextLaws.{length_escape, more_most, more_none}
use Rattle.xml.proofs.text.put_escaped.Goals as goal

pub returns-then-size-s : goal.returns-then-size-s
returns-then-size-s c =
    let s = c.args.s.now in
    let none : more_in s ≡ 0 = omega (arith, length_escape s, c.escaped_size-size.ensures, c.if-size-s.true) in
    rw (more_none s none) (placed c.write_piece.ensures)

pub overflow_add-result : goal.overflow_add-result
overflow_add-result c =
    let s = c.args.s.now in
    omega (arith, c.escaped_size-size.ensures, length_escape s, more_most s, c.requires.0, c.requires.1)

pub returns : goal.returns
returns c = placed_none c.escaped_size-size.result c.escaped_size-size.ensures (sym c.fits.ensures ∙ c.if-fits.false)
