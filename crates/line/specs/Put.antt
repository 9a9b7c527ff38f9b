-- The lines of one word about the listing itself, and the line of an event with a mark behind it. docs/FORMAT.md, L1, L3 and L9.
use Rattle.std.specs.Prelude.{List, [], ℕ, Option}
use Rattle.digits.specs.Ascii.{ascii}
use Rattle.event.specs.Meaning.{Meaning}
use Rattle.line.specs.Line.{row, ended, row_of}
use Rattle.line.specs.Piece.{mark_of}
use Rattle.line.specs.declared.piece.Origin.{Origin}
use Rattle.line.specs.declared.put.Fixed.{Fixed}
use Rattle.line.specs.declared.put.Fixed.TheVariants.{Events, End, Stopped}

unfoldable pub fixed_line : Fixed → List ℕ
fixed_line Events = ended (row (ascii "events") [] []) []
fixed_line End = ended (row (ascii "end") [] []) []
fixed_line Stopped = ended (row (ascii "stopped") [] []) []

-- `line_of` without a mark, `trace_of` with an origin (LineLaws)
unfoldable pub event_line : Option Origin → Meaning → List ℕ
event_line mark m = ended (row_of m) (mark_of mark)
