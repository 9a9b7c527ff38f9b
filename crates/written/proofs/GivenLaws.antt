-- A given length decides nothing of what is written (docs/FORMAT.md, W2): starts that differ in it alone are one piece.
use Rattle.std.specs.Prelude.{◌≡◌, refl, ℕ, Option}
use Rattle.event.specs.Meaning.{array, dictionary}
use Rattle.written.specs.Graph.{piece_of}

pub same_piece : (n k : Option ℕ) → (piece_of (array n) ≡ piece_of (array k)) × (piece_of (dictionary n) ≡ piece_of (dictionary k))
unfolding piece_of
same_piece n k = (refl, refl)
