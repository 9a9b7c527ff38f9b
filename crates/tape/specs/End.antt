-- Where the event that begins at a place of the tape ends. docs/FORMAT.md, rule T2. It is what `item_at` tells, but for text that isn't UTF-8
-- and dates that are none: neither is looked at.
use Rattle.std.specs.Prelude.{cond, ◌||◌, List, ℕ, ◌+◌, ◌^◌, ltb, leb, eqb, length, get_or, None, Option, Some}
use Rattle.tape.specs.Value.{number_at}

-- so many bytes from a place on, which must lie before an end
unfoldable pub after_size : ℕ → ℕ → ℕ → Option ℕ
after_size end at size = cond (leb (at + size) end) (Some (at + size)) None

unfoldable pub after_number : Option (ℕ × ℕ) → Option ℕ
after_number (Some (n, next)) = Some next
after_number None = None

-- a negative integer, not below -2^63 (T2, T3)
unfoldable pub after_negative : Option (ℕ × ℕ) → Option ℕ
after_negative (Some (n, next)) = cond (ltb n (2 ^ 63)) (Some next) None
after_negative None = None

-- a length, then as many bytes (T2)
unfoldable pub after_bytes : ℕ → Option (ℕ × ℕ) → Option ℕ
after_bytes end (Some (n, next)) = after_size end next n
after_bytes end None = None

-- what stands behind a kind, from a place on
unfoldable pub end_behind : List ℕ → ℕ → ℕ → Option ℕ
end_behind tape kind at =
    cond (eqb kind 0x01 || eqb kind 0x02 || eqb kind 0x0A || eqb kind 0x0C || eqb kind 0x0E) (Some at)
    (cond (eqb kind 0x03 || eqb kind 0x07 || eqb kind 0x0B || eqb kind 0x0D) (after_number (number_at tape at))
    (cond (eqb kind 0x04) (after_negative (number_at tape at))
    (cond (eqb kind 0x05 || eqb kind 0x06) (after_size (length tape) at 8)
    (cond (eqb kind 0x08 || eqb kind 0x09) (after_bytes (length tape) (number_at tape at))
    None))))

-- the place after the event that begins at a place; at or beyond the tape's end there is none
unfoldable pub end_of : List ℕ → ℕ → Option ℕ
end_of tape at = cond (ltb at (length tape)) (end_behind tape (get_or tape at 0) (at + 1)) None
