-- What follows a line's word and what stands behind a line, and how long a line is.
use Rattle.std.specs.Prelude.{cond, List, [], ℕ, ◌+◌, ◌*◌, eqb, Option, None, Some}
use Rattle.digits.specs.Digits.{decimal, signed}
use Rattle.digits.specs.Stamp.{stamp}
use Rattle.event.specs.Meaning.{value_of}
use Rattle.line.specs.Line.{spaced, origin_of}
use Rattle.line.specs.declared.piece.Origin.{Origin}
use Rattle.line.specs.declared.piece.Numeral.{Numeral}
use Rattle.line.specs.declared.piece.Numeral.TheVariants.{Number, Integer, Stamp}

unfoldable pub numeral_of : Option Numeral → List ℕ
numeral_of None = []
numeral_of (Some (Number n)) = spaced (decimal n)
numeral_of (Some (Integer i)) = spaced (signed (value_of i))
numeral_of (Some (Stamp t)) = spaced (stamp t)

unfoldable pub mark_of : Option Origin → List ℕ
mark_of None = []
mark_of (Some o) = origin_of o.number o.offset

-- the space before bytes, where there are any
unfoldable pub space_of : ℕ → ℕ
space_of n = cond (eqb n 0) 0 1

-- how long a line is: its word, its numbers with those of its mark, its bytes in hex, its newline
abbrev pub line_size : ℕ → ℕ → ℕ → ℕ
line_size word numbers bytes = word + (numbers + (space_of bytes + (2 * bytes + 1)))
