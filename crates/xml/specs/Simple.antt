-- Text that surely is its own XML: what the quick look at it goes by.
use Rattle.std.specs.Prelude.{Bool, true, ◌&&◌, List, [], ◌∷◌, ◌≡◌, ℕ, ltb, leb, length}
use Rattle.utf.specs.Bounds.{Below}
use Rattle.utf.specs.Plain.{little_of}
use Rattle.xml.specs.Text.{is_ordinary}

-- ASCII from the space on that stands for itself
unfoldable pub is_simple : ℕ → Bool
is_simple b = (leb 0x20 b && ltb b 0x80) && is_ordinary b

unfoldable pub all_simple : List ℕ → Bool
all_simple [] = true
all_simple (b ∷ s) = is_simple b && all_simple s

-- x is the number of eight bytes that are simple only where s is
pub record Covers (s : List ℕ) (x : ℕ) : Type 0 where
  pub eight : List ℕ
  pub long : length eight ≡ 8
  pub bytes : Below 256 eight
  pub number : little_of eight ≡ x
  pub tells : all_simple eight ≡ true → all_simple s ≡ true

-- what a test of such a number tells
pub record Tested (x : ℕ) (r : Bool) : Type 0 where
  pub tells : (t : List ℕ) → length t ≡ 8 → Below 256 t → little_of t ≡ x → r ≡ true → all_simple t ≡ true
