-- What the numbers of the answer for XML stand for: one answer alone. 0 is XML, any other number is that of one refusal of table N.
use Rattle.std.specs.Prelude.{Bool, true, false, cond, List, [], ◌∷◌, ◌≡◌, refl, ℕ, ◌+◌, ltb, eqb, length, None, Option, Some}
use Rattle.std.proofs.Common.{sym, subst, ◌∙◌, arith, ne_eqb}
use Rattle.calendar.specs.Date as calendar
use Rattle.calendar.specs.Date.{calendar_of}
use Rattle.calendar.specs.DateLaws.{calendar_refusal}
use Rattle.calendar.specs.declared.Time.{Time}
use Rattle.event.specs.Meaning.{Meaning, array, dictionary, close, boolean, bytes, date, integer, real, text, uid}
use Rattle.event.specs.Numbers.{refusal_numbers, Listed}
use Rattle.event.specs.NumbersLaws.{listed_some}
use Rattle.grammar.specs.Check.{check_of}
use Rattle.grammar.specs.Said.{refused_at, checked_said}
use Rattle.grammar.specs.declared.answer.Checked.{Checked}
use Rattle.grammar.specs.declared.answer.Checked.TheVariants as checked
use Rattle.number.specs.Among.{among}
use Rattle.tape.specs.Code.{bytes_for}
use Rattle.tape.specs.Events.{meanings_in}
use Rattle.utf.specs.Unicode.{scalars8}
use Rattle.xml.specs.Write.{Said, long, refused, all_chars, date_bar, bar_of, by_events, by_check, measured_of, in_room, answer_of}
use Rattle.exports.specs.Write.{first_number, second_number, write_code, write_value, expected_number, found_number}
use Rattle.exports.specs.WriteLaws.{kinds_from, check_told, check_said}
use Rattle.exports_xml.specs.Xml.{as_written}

-- an answer whose refusal, if it is one, is of table N and names that number's kinds
abbrev pub Named : Said → Type 0
Named (long n) = Unit {0}
Named (refused number kinds place) = Listed number × (kinds ≡ kinds_from number (first_number kinds) (second_number kinds))

-- the answer that four numbers stand for
unfoldable pub xml_from : ℕ → ℕ → ℕ → ℕ → Said
xml_from code value expected found = cond (eqb code 0) (long value) (refused code (kinds_from code expected found) value)

pub xml_again : (s : Said) → Named s → xml_from (write_code (as_written s)) (write_value (as_written s)) (expected_number (as_written s)) (found_number (as_written s)) ≡ s
unfolding xml_from as_written write_code write_value expected_number found_number
xml_again (long n) t = refl
xml_again (refused number kinds place) t = rw (ne_eqb number 0 (listed_some number t.0), ← t.1)

-- 0 is XML, of the length that goes with it
pub xml_zero : (s : Said) → Named s → write_code (as_written s) ≡ 0 → s ≡ long (write_value (as_written s))
unfolding as_written write_code write_value
xml_zero (long n) t e = refl
xml_zero (refused number kinds place) t e = absurd (listed_some number t.0 e)

-- ---- every answer

-- a number of the table that names no kinds
abbrev Plain : ℕ → Type 0
Plain number = Listed number × (number ≡ 21 → ⊥)

plain_25 : Plain 25
unfolding refusal_numbers among
plain_25 = (refl, λ e. omega arith)

plain_30 : Plain 30
unfolding refusal_numbers among
plain_30 = (refl, λ e. omega arith)

plain_35 : Plain 35
unfolding refusal_numbers among
plain_35 = (refl, λ e. omega arith)

plain_36 : Plain 36
unfolding refusal_numbers among
plain_36 = (refl, λ e. omega arith)

plain_named : (number place : ℕ) → Plain number → Named (refused number [] place)
unfolding kinds_from first_number second_number
plain_named number place p = (p.0, rw (ne_eqb number 21 p.1))

date_told : (b number : ℕ) → date_bar (calendar_of b) ≡ Some number → number ≡ 30
unfolding date_bar
date_told b number = go (calendar_of b) refl
  where
    go : (r : calendar.Said Time) → calendar_of b ≡ r → date_bar r ≡ Some number → number ≡ 30
    go (calendar.gives t) f e = let z : ◌≡◌ {A = ℕ} 0 1 = cc in absurd (omega arith)
    go (calendar.refused k) f e = let g : k ≡ number = cc in sym g ∙ calendar_refusal b k f

not_none : {n : ℕ} → None ≡ Some n → ⊥
not_none e = let z : ◌≡◌ {A = ℕ} 0 1 = cc in omega arith

-- of the first event that has no XML: 30, 35 or 36
bar_plain : (m : Meaning) (number : ℕ) → bar_of m ≡ Some number → Plain number
unfolding bar_of
bar_plain (array n) number e = absurd (not_none e)
bar_plain (dictionary n) number e = absurd (not_none e)
bar_plain close number e = absurd (not_none e)
bar_plain (boolean b) number e = absurd (not_none e)
bar_plain (bytes s) number e = absurd (not_none e)
bar_plain (date b) number e = subst (λ (n : ℕ). Plain n) (sym (date_told b number e)) plain_30
bar_plain (integer z) number e = absurd (not_none e)
bar_plain (real b) number e = let f : 35 ≡ number = cc in subst (λ (n : ℕ). Plain n) f plain_35
bar_plain (text s) number e = go (all_chars (scalars8 s)) e
  where
    go : (b : Bool) → cond b None (Some 36) ≡ Some number → Plain number
    go true f = absurd (not_none f)
    go false f = let g : 36 ≡ number = cc in subst (λ (n : ℕ). Plain n) g plain_36
bar_plain (uid n) number e = let f : 35 ≡ number = cc in subst (λ (k : ℕ). Plain k) f plain_35

events_named : (at : ℕ) (ms : List Meaning) (n : ℕ) → Named (by_events at ms (long n))
unfolding by_events
events_named at [] n = tt
events_named at (m ∷ ms) n = go (bar_of m) refl (events_named (at + length (bytes_for m)) ms n)
  where
    go : (o : Option ℕ) → bar_of m ≡ o → Named (by_events (at + length (bytes_for m)) ms (long n)) → Named (by_events at (m ∷ ms) (long n))
    go (Some number) e later = rw (e, by_events) (plain_named number at (bar_plain m number e))
    go None e later = rw (e, by_events) later

pub measured_named : (tape : List ℕ) → Named (measured_of tape)
unfolding measured_of by_check checked_said refused_at
measured_named tape = go (check_said tape).0 (check_said tape).1
  where
    go : (c : Checked) → check_of tape ≡ checked_said c → Named (by_check (check_of tape) (meanings_in tape))
    go (checked.Whole n) e = rw e (events_named 0 (meanings_in tape) _)
    go (checked.Refused r place) e = rw e (check_told r place)

pub xml_named : (tape : List ℕ) (room : ℕ) → Named (answer_of tape room)
unfolding answer_of in_room
xml_named tape room = go (measured_of tape) (measured_named tape)
  where
    short : (b : Bool) (n : ℕ) → Named (cond b (refused 25 [] 0) (long n))
    short true n = plain_named 25 0 plain_25
    short false n = tt

    go : (s : Said) → Named s → Named (in_room room s)
    go (long n) t = short (ltb room n) n
    go (refused number kinds place) t = t

-- two answers that give the same four numbers are the same
pub xml_one :
    (s t : Said) → Named s → Named t →
    write_code (as_written s) ≡ write_code (as_written t) → write_value (as_written s) ≡ write_value (as_written t) →
    expected_number (as_written s) ≡ expected_number (as_written t) → found_number (as_written s) ≡ found_number (as_written t) → s ≡ t
xml_one s t x y e f g h = sym (xml_again s x) ∙ rw (e, f, g, h) (xml_again t y)
