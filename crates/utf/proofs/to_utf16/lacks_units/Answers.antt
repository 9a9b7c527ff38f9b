-- `lacks_units`: no more units than bytes, so that room for a unit a byte is room enough.
use mathlib.Core.Path.{sym, ◌∙◌}
use native.Mathlib.Omega.{arith}
use borrow.Author.Tests.{le-ltb}
use lib.ListN.{length}
use Rattle.utf.specs.Unicode.{utf16, scalars8}
use Rattle.utf.specs.ToUtf16Walk.{units_few}
use Rattle.utf.proofs.to_utf16.lacks_units.Goals as goal

pub returns-else-room-s : goal.returns-else-room-s
returns-else-room-s c =
    let a = c.args in
    le-ltb _ _ c.if-room-s.false ∙ sym (le-ltb a.room (length (utf16 (scalars8 a.s.now))) (omega (arith, units_few a.s.now, c.if-room-s.false)))
