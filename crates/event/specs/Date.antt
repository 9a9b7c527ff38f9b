-- What a date's bits may be. The reader and the tape go by this one definition (docs/FORMAT.md, R11, T2).
use Rattle.std.specs.Prelude.{Bool, ℕ, ◌%◌, ◌^◌, ltb}

-- those of a finite number: the sign dropped, they are below an infinity's
unfoldable pub is_date : ℕ → Bool
is_date bits = ltb (bits % 2 ^ 63) 0x7FF0_0000_0000_0000
