-- The XML of a tape's events. docs/FORMAT.md, X1 to X5.
use Rattle.std.specs.Prelude.{Bool, true, false, cond, List, [], ◌∷◌, ◌++◌, ℕ, eqb}
use Rattle.radix64.specs.Base64.{base64}
use Rattle.calendar.specs.Date as calendar
use Rattle.calendar.specs.Date.{calendar_of}
use Rattle.calendar.specs.declared.Time.{Time}
use Rattle.digits.specs.Digits.{signed}
use Rattle.digits.specs.Stamp.{stamp}
use Rattle.event.specs.Meaning.{Meaning, array, dictionary, close, boolean, bytes, date, integer, real, text, uid}
use Rattle.grammar.specs.Check.{onto, barred, move_of}
use Rattle.grammar.specs.Turn.{turn_of}
use Rattle.grammar.specs.declared.turn.Due.{Due}
use Rattle.grammar.specs.declared.turn.Due.TheVariants.{Root, Element, Key, Value, Nothing}
use Rattle.xml.specs.Words.{header, footer, word_array, word_dict, word_true, word_false, word_integer, word_date, word_data, word_string, word_key, word_amp, word_lt, word_gt}

-- ---- marks; 60 is `<`, 62 is `>`, 47 is `/`, 38 is `&`, 59 is `;` and 10 a newline

-- `<name>`, `</name>`, `<name/>`
unfoldable pub start_tag : List ℕ → List ℕ
start_tag name = 60 ∷ (name ++ (62 ∷ []))

unfoldable pub end_tag : List ℕ → List ℕ
end_tag name = 60 ∷ 47 ∷ (name ++ (62 ∷ []))

unfoldable pub empty_tag : List ℕ → List ℕ
empty_tag name = 60 ∷ (name ++ (47 ∷ 62 ∷ []))

-- `&name;`
unfoldable pub entity : List ℕ → List ℕ
entity name = 38 ∷ (name ++ (59 ∷ []))

-- X2: each in a line of its own
unfoldable pub line : List ℕ → List ℕ
line s = s ++ (10 ∷ [])

-- `<name>`, what stands in it, `</name>`
unfoldable pub element : List ℕ → List ℕ → List ℕ
element name s = start_tag name ++ (s ++ line (end_tag name))

-- ---- values

-- X5: "only `&`, `<` and `>` are escaped"
unfoldable pub escape_of : ℕ → List ℕ
escape_of b = cond (eqb b 38) (entity word_amp) (cond (eqb b 60) (entity word_lt) (cond (eqb b 62) (entity word_gt) (b ∷ [])))

unfoldable pub escape : List ℕ → List ℕ
escape [] = []
escape (b ∷ s) = escape_of b ++ escape s

-- X3; a date without a day and time is refused
unfoldable pub day_of : calendar.Said Time → List ℕ
day_of (calendar.gives t) = stamp t
day_of (calendar.refused number) = []

unfoldable pub truth : Bool → List ℕ
truth true = word_true
truth false = word_false

-- ---- lines

-- where a key is due an end is a dictionary's, and text is a key
unfoldable pub is_key : Due → Bool
is_key Root = false
is_key Element = false
is_key Key = true
is_key Value = false
is_key Nothing = false

unfoldable pub closed : Bool → List ℕ
closed key = cond key word_dict word_array

unfoldable pub worded : Bool → List ℕ
worded key = cond key word_key word_string

-- X2, X3: an event's line where something is due. A real and a UID have none: they are refused
unfoldable pub line_for : Due → Meaning → List ℕ
line_for due (array n) = line (start_tag word_array)
line_for due (dictionary n) = line (start_tag word_dict)
line_for due close = line (end_tag (closed (is_key due)))
line_for due (boolean b) = line (empty_tag (truth b))
line_for due (bytes s) = element word_data (base64 s)
line_for due (date b) = element word_date (day_of (calendar_of b))
line_for due (integer z) = element word_integer (signed z)
line_for due (real b) = []
line_for due (text s) = element (worded (is_key due)) (escape s)
line_for due (uid n) = []

-- the lines of events, where something is due and containers are open around it, the innermost first
unfoldable pub lines_from : Due → List Due → List Meaning → List ℕ
lines_from due around [] = []
lines_from due around (m ∷ ms) = line_for due m ++ elim (move_of (turn_of due m) due around) [ onto d ds ↦ lines_from d ds ms | barred r ↦ [] ]

-- X1
unfoldable pub xml_of : List Meaning → List ℕ
xml_of ms = header ++ (lines_from Root [] ms ++ footer)
