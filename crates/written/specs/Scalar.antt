-- Meanings that are scalars, and the UTF-16 units of a text that isn't ASCII.
use Rattle.std.specs.Prelude.{cond, ℕ, length}
use Rattle.event.specs.Meaning.{Meaning, array, dictionary, close, boolean, bytes, date, integer, real, text, uid}
use Rattle.utf.specs.Unicode.{is_ascii, utf16, scalars8}

abbrev pub IsScalar : Meaning → Type 0
IsScalar (array n) = ⊥
IsScalar (dictionary n) = ⊥
IsScalar close = ⊥
IsScalar (boolean b) = Unit {0}
IsScalar (bytes s) = Unit {0}
IsScalar (date b) = Unit {0}
IsScalar (integer z) = Unit {0}
IsScalar (real b) = Unit {0}
IsScalar (text s) = Unit {0}
IsScalar (uid n) = Unit {0}

-- 0 for all that is not written as UTF-16
unfoldable pub units_for : Meaning → ℕ
units_for (array n) = 0
units_for (dictionary n) = 0
units_for close = 0
units_for (boolean b) = 0
units_for (bytes s) = 0
units_for (date b) = 0
units_for (integer z) = 0
units_for (real b) = 0
units_for (text s) = cond (is_ascii s) 0 (length (utf16 (scalars8 s)))
units_for (uid n) = 0
