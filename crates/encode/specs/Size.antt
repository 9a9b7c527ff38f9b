-- How many bytes an object has in the file, as the code finds it out. `SizeLaws` says that they are the lengths of the object's bytes.
use Rattle.encode.specs.declared.size.Size.{Size}
use Rattle.std.specs.Prelude.{cond, ◌&&◌, List, ℕ, ◌+◌, ◌*◌, ◌^◌, ltb, leb, eqb, length, get_or, None, Option, Some}
use Rattle.number.specs.Size.{size_of}
use Rattle.number.specs.Part.{part}
use Rattle.tape.specs.Value.{number_at}
use Rattle.utf.specs.ToUtf16.{units_in}
use Rattle.utf.specs.Unicode.{is_ascii}

-- a length below 15 stands in the marker; any other behind it, as an integer with a marker of its own (W9)
unfoldable pub head_size : ℕ → ℕ
head_size n = cond (ltb n 15) 1 (2 + size_of n)

-- no units: anything but text that isn't ASCII
abbrev pub bytes_alone : ℕ → Option Size
bytes_alone n = Some (record { bytes = n; units = 0 })

-- an integer at or above zero (W8)
unfoldable pub integer_size : Option (ℕ × ℕ) → Option Size
integer_size (Some (n, next)) = cond (ltb n (2 ^ 63)) (bytes_alone (1 + size_of n)) (bytes_alone 17)
integer_size None = None

unfoldable pub uid_size : Option (ℕ × ℕ) → Option Size
uid_size (Some (n, next)) = bytes_alone (1 + size_of n)
uid_size None = None

-- data, by its length and where its bytes begin, which must lie before an end
unfoldable pub data_size : ℕ → Option (ℕ × ℕ) → Option Size
data_size end (Some (n, start)) = cond (ltb end (start + n)) None (bytes_alone (head_size n + n))
data_size end None = None

-- text: ASCII as it is, any other as UTF-16, two bytes a unit (W10). UTF-8 has no more units than bytes
unfoldable pub part_size : List ℕ → Option Size
part_size s =
    cond (is_ascii s) (bytes_alone (head_size (length s) + length s))
    (cond (ltb (length s) (units_in s)) None (Some (record { bytes = head_size (units_in s) + units_in s * 2; units = units_in s })))

unfoldable pub text_size : List ℕ → Option (ℕ × ℕ) → Option Size
text_size tape (Some (n, start)) = cond (ltb (length tape) (start + n)) None (part_size (part tape start n))
text_size tape None = None

-- what stands behind a kind, from a place on
unfoldable pub size_behind : List ℕ → ℕ → ℕ → Option Size
size_behind tape kind at =
    cond (leb 0x01 kind && leb kind 0x02) (bytes_alone 1)
    (cond (leb 0x04 kind && leb kind 0x06) (bytes_alone 9)
    (cond (eqb kind 0x03) (integer_size (number_at tape at))
    (cond (eqb kind 0x07) (uid_size (number_at tape at))
    (cond (eqb kind 0x08) (data_size (length tape) (number_at tape at))
    (cond (eqb kind 0x09) (text_size tape (number_at tape at))
    None)))))

-- the scalar at a place of a tape; at or beyond the tape's end there is none
unfoldable pub size_at : List ℕ → ℕ → Option Size
size_at tape at = cond (ltb at (length tape)) (size_behind tape (get_or tape at 0) (at + 1)) None
