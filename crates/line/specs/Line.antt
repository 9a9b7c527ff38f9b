-- The lines of a listing, and of one that says of each event where it comes from. docs/FORMAT.md, rules L1 to L3, L8 and L9.
use Rattle.std.specs.Prelude.{Bool, true, false, cond, List, [], ◌∷◌, ◌++◌, ℕ, ◌+◌, ◌/◌, ◌%◌, ltb, length, None, Option, Some}
use Rattle.number.specs.Be.{bytes_of}
use Rattle.calendar.specs.Date.{Said, gives, refused, calendar_of}
use Rattle.calendar.specs.declared.Time.{Time}
use Rattle.digits.specs.Ascii.{ascii}
use Rattle.digits.specs.Digits.{decimal, signed}
use Rattle.digits.specs.Stamp.{stamp}
use Rattle.event.specs.Meaning.{Meaning, array, dictionary, close, boolean, bytes, date, integer, real, text, uid}

-- a digit to base 16: `0` is 48 and `a` is 97
unfoldable pub hex_digit : ℕ → ℕ
hex_digit n = cond (ltb n 10) (48 + n) (87 + n)

-- bytes in lower-case hex, the high digit first
unfoldable pub hex : List ℕ → List ℕ
hex [] = []
hex (b ∷ bs) = hex_digit (b / 16) ∷ hex_digit (b % 16) ∷ hex bs

-- bytes behind a space; nothing follows a zero length, not even the space (L2)
unfoldable pub tail : List ℕ → List ℕ
tail [] = []
tail (b ∷ bs) = 32 ∷ hex (b ∷ bs)

-- a number behind a space
unfoldable pub spaced : List ℕ → List ℕ
spaced number = 32 ∷ number

-- a row: a word, a number, bytes
unfoldable pub row : List ℕ → List ℕ → List ℕ → List ℕ
row word number s = word ++ (number ++ tail s)

-- a line: a row, a mark behind it, a newline
unfoldable pub ended : List ℕ → List ℕ → List ℕ
ended r mark = r ++ (mark ++ (10 ∷ []))

-- a container's length stands where it is known
unfoldable pub length_given : Option ℕ → List ℕ
length_given (Some n) = spaced (decimal n)
length_given None = []

unfoldable pub truth : Bool → List ℕ
truth true = ascii "true"
truth false = ascii "false"

-- a date that has a day and time, and one that is refused: its bits
unfoldable pub dated : ℕ → Said Time → List ℕ
dated b (gives t) = row (ascii "date") (spaced (stamp t)) []
dated b (refused number) = row (ascii "date") [] (bytes_of 8 b)

unfoldable pub date_row : ℕ → List ℕ
date_row b = dated b (calendar_of b)

-- what an event's line says
unfoldable pub row_of : Meaning → List ℕ
row_of (array n) = row (ascii "array") (length_given n) []
row_of (dictionary n) = row (ascii "dict") (length_given n) []
row_of close = row (ascii "close") [] []
row_of (boolean b) = row (truth b) [] []
row_of (bytes s) = row (ascii "data") (spaced (decimal (length s))) s
row_of (date b) = date_row b
row_of (integer z) = row (ascii "int") (spaced (signed z)) []
row_of (real b) = row (ascii "real") [] (bytes_of 8 b)
row_of (text s) = row (ascii "str") (spaced (decimal (length s))) s
row_of (uid n) = row (ascii "uid") (spaced (decimal n)) []

-- a number behind a space and a byte that says what it is
unfoldable pub labelled : ℕ → ℕ → List ℕ
labelled label n = 32 ∷ label ∷ decimal n

-- where an event comes from: ` #number @offset`; 35 is `#` and 64 is `@` (L9)
unfoldable pub origin_of : ℕ → ℕ → List ℕ
origin_of number offset = labelled 35 number ++ labelled 64 offset

-- the line of an event
unfoldable pub line_of : Meaning → List ℕ
line_of m = ended (row_of m) []

-- the same with its origin behind it
unfoldable pub trace_of : ℕ → ℕ → Meaning → List ℕ
trace_of number offset m = ended (row_of m) (origin_of number offset)

-- `refused N at P`
unfoldable pub refusal_line : ℕ → ℕ → List ℕ
refusal_line number place = ascii "refused" ++ (spaced (decimal number) ++ ended (row (ascii " at") (spaced (decimal place)) []) [])
