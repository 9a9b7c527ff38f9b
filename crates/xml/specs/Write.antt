-- What is answered for a tape and so much room, and what is left in the output. docs/FORMAT.md, X6 to X8.
use Rattle.std.specs.Prelude.{Bool, true, cond, ◌&&◌, ◌||◌, List, [], ◌∷◌, ℕ, ◌+◌, ltb, leb, eqb, length, None, Option, Some}
use Rattle.std.proofs.lemmas.List.Edits.{sets}
use Rattle.calendar.specs.Date as calendar
use Rattle.calendar.specs.Date.{calendar_of}
use Rattle.calendar.specs.declared.Time.{Time}
use Rattle.event.specs.Meaning.{Meaning, array, dictionary, close, boolean, bytes, date, integer, real, text, uid}
use Rattle.grammar.specs.Check.{check_of}
use Rattle.grammar.specs.Said as check
use Rattle.grammar.specs.declared.answer.EventKind.{EventKind}
use Rattle.tape.specs.Code.{bytes_for}
use Rattle.tape.specs.Events.{meanings_in}
use Rattle.utf.specs.Unicode.{scalars8}
use Rattle.xml.specs.Xml.{xml_of}

-- XML 1.0, production 2: "Char ::= #x9 | #xA | #xD | [#x20-#xD7FF] | [#xE000-#xFFFD] | [#x10000-#x10FFFF]"
unfoldable pub is_char : ℕ → Bool
is_char v = eqb v 0x9 || eqb v 0xA || eqb v 0xD || (leb 0x20 v && leb v 0xD7FF) || (leb 0xE000 v && leb v 0xFFFD) || (leb 0x10000 v && leb v 0x10FFFF)

unfoldable pub all_chars : List ℕ → Bool
all_chars [] = true
all_chars (v ∷ vs) = is_char v && all_chars vs

-- the calendar's own refusal, 30
unfoldable pub date_bar : calendar.Said Time → Option ℕ
date_bar (calendar.gives t) = None
date_bar (calendar.refused number) = Some number

-- X6: why an event has no XML, if it has none
unfoldable pub bar_of : Meaning → Option ℕ
bar_of (array n) = None
bar_of (dictionary n) = None
bar_of close = None
bar_of (boolean b) = None
bar_of (bytes s) = None
bar_of (date b) = date_bar (calendar_of b)
bar_of (integer z) = None
bar_of (real b) = Some 35
bar_of (text s) = cond (all_chars (scalars8 s)) None (Some 36)
bar_of (uid n) = Some 35

-- the XML's length; or a refusal's number, what it names as expected and found, and its place
pub data Said : Type 0 where
  long : ℕ → Said
  refused : ℕ → List EventKind → ℕ → Said

-- X6: the first event that has none, of events that begin at a place of the tape
unfoldable pub by_events : ℕ → List Meaning → Said → Said
by_events at [] otherwise = otherwise
by_events at (m ∷ ms) otherwise = elim (bar_of m) [ Some number ↦ refused number [] at | None ↦ by_events (at + length (bytes_for m)) ms otherwise ]

-- X6: the refusals of the tape come before
unfoldable pub by_check : check.Said → List Meaning → Said
by_check (check.refused number kinds place) ms = refused number kinds place
by_check (check.whole n) ms = by_events 0 ms (long (length (xml_of ms)))

-- what is answered where there is room enough
unfoldable pub measured_of : List ℕ → Said
measured_of tape = by_check (check_of tape) (meanings_in tape)

-- X7: 25 comes last, exactly where the XML is longer than the output
unfoldable pub in_room : ℕ → Said → Said
in_room room (long n) = cond (ltb room n) (refused 25 [] 0) (long n)
in_room room (refused number kinds place) = refused number kinds place

unfoldable pub answer_of : List ℕ → ℕ → Said
answer_of tape room = in_room room (measured_of tape)

-- X8: a refusal leaves the output alone; XML stands at its start, and what lies behind it is as it was
unfoldable pub output_by : Said → List ℕ → List ℕ → List ℕ
output_by (long n) xml out = sets out 0 xml
output_by (refused number kinds place) xml out = out

unfoldable pub output_of : List ℕ → List ℕ → List ℕ
output_of tape out = output_by (answer_of tape (length out)) (xml_of (meanings_in tape)) out
