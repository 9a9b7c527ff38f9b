-- What proofs of the code take, and what they open, by one name.
use Rattle.number.specs.WidthLaws.{bytes_in_pos, bytes_in_le}
use Rattle.object.specs.Refusal
use Rattle.layout.specs.Layout
use Rattle.layout.specs.Said
use Rattle.layout.specs.Trailer
use Rattle.layout.proofs.Numbers.{scaled, placed, table_in, table_past, count_le}

-- a width has 1 to 8 bytes, and so many numbers of it fit
pub ruleset widths = (bytes_in_pos, bytes_in_le, scaled, placed)

-- a table that ends at or before T
pub ruleset tables = (bytes_in_pos, table_in, table_past, count_le)

-- what is due at a place
unfoldable pub due_there : Unit {0}
unfolding Layout.due_at Layout.given Layout.number_at
due_there = tt

-- what a trailer says, but for the definition of its part
unfoldable pub trailers : Unit {0}
unfolding Said.trailer_said Said.number_of Said.values_of Refusal.number_of Refusal.values_of Trailer.eight_at
trailers = tt
