-- What the XML shows of an event: all of it but a container's given length, and of a date its floor. And XML read again: what the line at the
-- front of bytes shows. docs/FORMAT.md, X9.
use Rattle.std.specs.Prelude.{true, false, cond, List, [], ◌∷◌, ℕ, zero, suc, eqb, ℤ, get_or, drop, None, Option, Some}
use Rattle.radix64.specs.Base64.{unbase64}
use Rattle.calendar.specs.Date as calendar
use Rattle.calendar.specs.Date.{seconds_of}
use Rattle.calendar.specs.Floor.{floor_of_bits}
use Rattle.digits.specs.Again.{integer_in, time_in}
use Rattle.event.specs.Meaning.{Meaning, array, dictionary, close, boolean, bytes, date, integer, real, text, uid}
use Rattle.event.specs.Unmeasured.{unmeasured}

-- a date's floor, and any other event without a given length
pub data Shown : Type 0 where
  day : Option ℤ → Shown
  kept : Meaning → Shown

unfoldable pub shown_of : Meaning → Shown
shown_of (array n) = kept (unmeasured (array n))
shown_of (dictionary n) = kept (unmeasured (dictionary n))
shown_of close = kept close
shown_of (boolean b) = kept (boolean b)
shown_of (bytes s) = kept (bytes s)
shown_of (date b) = day (floor_of_bits b)
shown_of (integer z) = kept (integer z)
shown_of (real b) = kept (real b)
shown_of (text s) = kept (text s)
shown_of (uid n) = kept (uid n)

-- ---- read again

-- the bytes before the first `<`
unfoldable pub body : List ℕ → List ℕ
body [] = []
body (b ∷ s) = elim (eqb b 60) [ true ↦ [] | false ↦ b ∷ body s ]

-- text from escaped text: 0 is between characters, 1 behind `&`, and 2 before the `;`
unfoldable pub unescape_from : ℕ → List ℕ → List ℕ
unescape_from k [] = []
unescape_from zero (b ∷ s) = elim (eqb b 38) [ true ↦ unescape_from 1 s | false ↦ b ∷ unescape_from 0 s ]
unescape_from (suc zero) (b ∷ s) = cond (eqb b 97) 38 (cond (eqb b 108) 60 62) ∷ unescape_from 2 s
unescape_from (suc (suc k)) (b ∷ s) = unescape_from (cond (eqb b 59) 0 2) s

unfoldable pub unescape : List ℕ → List ℕ
unescape s = unescape_from 0 s

unfoldable pub seconds_in : calendar.Said ℤ → Option ℤ
seconds_in (calendar.gives z) = Some z
seconds_in (calendar.refused number) = None

-- by the name's first letters: `true`, `false`, `integer`, `string`, `key`, `array`, an end, `dict`, `date`, `data`
unfoldable pub shown_in : List ℕ → Shown
shown_in l =
    cond (eqb (get_or l 1 0) 116) (kept (boolean true))
    (cond (eqb (get_or l 1 0) 102) (kept (boolean false))
    (cond (eqb (get_or l 1 0) 105) (kept (integer (integer_in (body (drop 9 l)))))
    (cond (eqb (get_or l 1 0) 115) (kept (text (unescape (body (drop 8 l)))))
    (cond (eqb (get_or l 1 0) 107) (kept (text (unescape (body (drop 5 l)))))
    (cond (eqb (get_or l 1 0) 97) (kept (array None))
    (cond (eqb (get_or l 1 0) 47) (kept close)
    (cond (eqb (get_or l 2 0) 105) (kept (dictionary None))
    (cond (eqb (get_or l 4 0) 101) (day (seconds_in (seconds_of (time_in (body (drop 6 l))))))
    (kept (bytes (unbase64 (body (drop 6 l)))))))))))))
