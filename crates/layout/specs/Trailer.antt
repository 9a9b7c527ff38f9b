-- The trailer. docs/FORMAT.md, rules R2, R3 and R6, in the order of R6. The length limit stands before it, in `trailer_in` and in `next_of`.
use Rattle.std.specs.Prelude.{Bool, true, false, cond, ◌&&◌, List, [], ◌∷◌, ℕ, ◌+◌, ◌*◌, ltb, leb, eqb, length, get_or, None, Option, Some}
use Rattle.number.specs.Be.{be}
use Rattle.number.specs.Width.{bytes_in, width_of}
use Rattle.number.specs.declared.width.Width.{Width}
use Rattle.event.specs.Format.{max_length, magic}
use Rattle.number.specs.Part.{part}
use Rattle.object.specs.Content.{trailer_at}
use Rattle.layout.specs.declared.layout.Layout.{Layout}

-- what a trailer says: refused with number, values and place, and the reader unchanged or ended; or a layout and a root
pub data Trailer : Type 0 where
  keeps : ℕ → List ℕ → ℕ → Trailer
  ends : ℕ → List ℕ → ℕ → Trailer
  lays : Layout → ℕ → Trailer

-- whether a list begins with another
unfoldable pub begins : List ℕ → List ℕ → Bool
begins [] s = true
begins (a ∷ rest) [] = false
begins (a ∷ rest) (b ∷ bs) = eqb a b && begins rest bs

-- the three numbers of 8 bytes
unfoldable pub eight_at : List ℕ → ℕ → ℕ
eight_at file at = be (part file (trailer_at file + at) 8)

-- the table ends at or before T, else 6, which ends (R6)
unfoldable pub table_of : List ℕ → Width → Width → Trailer
table_of file offsets refs =
    cond (leb (eight_at file 24 + eight_at file 8 * bytes_in offsets) (trailer_at file))
    (lays (record { offsets = offsets; refs = refs; count = eight_at file 8; table = eight_at file 24 }) (eight_at file 16))
    (ends 6 [] (eight_at file 24))

-- the size of a reference: 5 leaves a fresh reader where it is 0, and ends it else (R6)
unfoldable pub ref_size_of : List ℕ → Width → Option Width → Trailer
ref_size_of file offsets (Some refs) = table_of file offsets refs
ref_size_of file offsets None = cond (eqb (get_or file (trailer_at file + 7) 0) 0) (keeps 5 [] (trailer_at file)) (ends 5 [] (trailer_at file))

unfoldable pub sizes_of : List ℕ → Option Width → Trailer
sizes_of file (Some offsets) = ref_size_of file offsets (width_of (get_or file (trailer_at file + 7) 0))
sizes_of file None = keeps 4 [] (trailer_at file)

unfoldable pub trailer_of : List ℕ → Trailer
trailer_of file =
    cond (ltb (length file) 8) (keeps 2 [] 0)
    (cond (begins magic file)
    (cond (ltb (length file) 32) (keeps 2 [] 0) (sizes_of file (width_of (get_or file (trailer_at file + 6) 0))))
    (keeps 3 [] 0))

-- the first row of R6
unfoldable pub trailer_in : List ℕ → Trailer
trailer_in file = cond (ltb max_length (length file)) (keeps 1 [] 0) (trailer_of file)
