-- An event's bytes on the tape. docs/FORMAT.md, rule T2.
use Rattle.std.specs.Prelude.{Bool, true, false, List, [], ◌∷◌, ◌++◌, ◌≡◌, ℕ, ◌<◌, ◌^◌, pos, negsuc, length, None, Some}
use Rattle.event.specs.Date.{is_date}
use Rattle.event.specs.Meaning.{Meaning, array, dictionary, close, boolean, bytes, date, integer, real, text, uid}
use Rattle.number.specs.Be.{bytes_of}
use Rattle.tape.specs.Seven.{seven}
use Rattle.utf.specs.Unicode.{is_utf8}

unfoldable pub bytes_for : Meaning → List ℕ
bytes_for (boolean false) = 0x01 ∷ []
bytes_for (boolean true) = 0x02 ∷ []
bytes_for (integer (pos n)) = 0x03 ∷ seven n
bytes_for (integer (negsuc k)) = 0x04 ∷ seven k
bytes_for (real b) = 0x05 ∷ bytes_of 8 b
bytes_for (date b) = 0x06 ∷ bytes_of 8 b
bytes_for (uid n) = 0x07 ∷ seven n
bytes_for (bytes s) = 0x08 ∷ (seven (length s) ++ s)
bytes_for (text s) = 0x09 ∷ (seven (length s) ++ s)
bytes_for (array None) = 0x0A ∷ []
bytes_for (array (Some n)) = 0x0B ∷ seven n
bytes_for (dictionary None) = 0x0C ∷ []
bytes_for (dictionary (Some n)) = 0x0D ∷ seven n
bytes_for close = 0x0E ∷ []

-- a meaning that an event can have: its numbers have 64 bits, and an integer is an i64's or a u64's
abbrev pub InRange : Meaning → Type 0
InRange (array None) = Unit {0}
InRange (array (Some n)) = n < 2 ^ 64
InRange (dictionary None) = Unit {0}
InRange (dictionary (Some n)) = n < 2 ^ 64
InRange close = Unit {0}
InRange (boolean b) = Unit {0}
InRange (bytes s) = length s < 2 ^ 64
InRange (date b) = b < 2 ^ 64
InRange (integer (pos n)) = n < 2 ^ 64
InRange (integer (negsuc k)) = k < 2 ^ 63
InRange (real b) = b < 2 ^ 64
InRange (text s) = length s < 2 ^ 64
InRange (uid n) = n < 2 ^ 64

-- what the tape takes: text that is UTF-8, dates whose bits may be a date's, and all that is neither
unfoldable pub allowed : Meaning → Bool
allowed (array n) = true
allowed (dictionary n) = true
allowed close = true
allowed (boolean b) = true
allowed (bytes s) = true
allowed (date b) = is_date b
allowed (integer z) = true
allowed (real b) = true
allowed (text s) = is_utf8 s
allowed (uid n) = true

-- a meaning that has its bytes on the tape
abbrev pub OnTape : Meaning → Type 0
OnTape m = InRange m × (allowed m ≡ true)
