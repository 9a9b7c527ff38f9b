-- What a length that is answered says of the tape; and what stands in the output then.
use Rattle.std.specs.Prelude.{Bool, true, false, cond, List, [], ◌∷◌, ◌++◌, ◌≡◌, refl, ℕ, ◌+◌, ◌≤◌, ◌<◌, ltb, pos, negsuc, length, drop, None, Option, Some}
use Rattle.std.proofs.Common.{zero-add, arith, ltb-false, lt-ltb, le-ltb}
use Rattle.std.proofs.lemmas.List.Edits.{sets, sets-eq}
use Rattle.calendar.specs.Date as calendar
use Rattle.calendar.specs.Date.{calendar_of}
use Rattle.calendar.specs.declared.Time.{Time}
use Rattle.event.specs.Meaning.{Meaning, array, dictionary, close, boolean, bytes, date, integer, real, text, uid}
use Rattle.grammar.specs.Check.{check_of}
use Rattle.grammar.specs.Fits.{fits_from}
use Rattle.grammar.specs.FitsLaws.{check_whole}
use Rattle.grammar.specs.Said as check
use Rattle.grammar.specs.declared.answer.EventKind.{EventKind}
use Rattle.grammar.specs.declared.turn.Due.TheVariants.{Root}
use Rattle.number.specs.BeLaws.{Bytes}
use Rattle.tape.specs.Code.{bytes_for, OnTape}
use Rattle.tape.specs.Events.{tape_of, meant_by, meanings_in}
use Rattle.tape.proofs.EventsLaws.{AllOnTape, whole_is}
use Rattle.tape.specs.Seven.{seven}
use Rattle.xml.specs.SameLaws.{AllSayable}
use Rattle.xml.specs.ShownLaws.{Sayable}
use Rattle.xml.specs.Write.{date_bar, bar_of, Said, long, refused, by_events, by_check, measured_of, in_room, answer_of, output_by, output_of}
use Rattle.xml.specs.Xml.{xml_of}

not_long : (number : ℕ) (kinds : List EventKind) (place n : ℕ) → refused number kinds place ≡ long n → ⊥
not_long number kinds place n e = let z : ◌≡◌ {A = ℕ} 0 1 = cc in omega arith

-- ---- room

-- the answer in so much room, by what is measured
pub room_enough : (tape : List ℕ) (room n : ℕ) → measured_of tape ≡ long n → n ≤ room → answer_of tape room ≡ long n
unfolding answer_of in_room
room_enough tape room n e h = rw (e, in_room, le-ltb room n h)

pub room_short : (tape : List ℕ) (room n : ℕ) → measured_of tape ≡ long n → room < n → answer_of tape room ≡ refused 25 [] 0
unfolding answer_of in_room
room_short tape room n e h = rw (e, in_room, lt-ltb room n h)

pub room_refused : (tape : List ℕ) (room number : ℕ) (kinds : List EventKind) (place : ℕ) → measured_of tape ≡ refused number kinds place → answer_of tape room ≡ refused number kinds place
unfolding answer_of in_room
room_refused tape room number kinds place e = rw (e, in_room)

room_fits : (room k n : ℕ) → cond (ltb room k) (refused 25 [] 0) (long k) ≡ long n → (long k ≡ long n) × (n ≤ room)
room_fits room k n = go (ltb room k) refl
  where
    go : (b : Bool) → ltb room k ≡ b → cond b (refused 25 [] 0) (long k) ≡ long n → (long k ≡ long n) × (n ≤ room)
    go true f e = absurd (not_long 25 [] 0 n e)
    go false f e = let g : k ≡ n = cc in (e, omega (arith, g, ltb-false room k f))

-- a length that is answered is what is measured, and there is room for it
pub room_long : (tape : List ℕ) (room n : ℕ) → answer_of tape room ≡ long n → (measured_of tape ≡ long n) × (n ≤ room)
unfolding answer_of in_room
room_long tape room n = go (measured_of tape)
  where
    go : (s : Said) → in_room room s ≡ long n → (s ≡ long n) × (n ≤ room)
    go (refused number kinds place) e = absurd (not_long number kinds place n e)
    go (long k) e = room_fits room k n e

-- ---- what the tape is then

bytes_right : (s t : List ℕ) → Bytes (s ++ t) → Bytes t
bytes_right [] t h = h
bytes_right (b ∷ s) t h = bytes_right s t h.1

bytes_left : (s t : List ℕ) → Bytes (s ++ t) → Bytes s
bytes_left [] t h = tt
bytes_left (b ∷ s) t h = (h.0, bytes_left s t h.1)

day_there : (r : calendar.Said Time) → date_bar r ≡ None → (t : Time) × (r ≡ calendar.gives t)
unfolding date_bar
day_there (calendar.gives t) e = (t, refl)
day_there (calendar.refused number) e = let z : ◌≡◌ {A = ℕ} 0 1 = cc in absurd (omega arith)

-- an event on a tape that is not refused has XML
sayable : (m : Meaning) → OnTape m → Bytes (bytes_for m) → bar_of m ≡ None → Sayable m
unfolding bar_of bytes_for
sayable (array n) o h e = tt
sayable (dictionary n) o h e = tt
sayable close o h e = tt
sayable (boolean b) o h e = tt
sayable (bytes s) o h e = bytes_right (seven (length s)) s h.1
sayable (date b) o h e = day_there (calendar_of b) e
sayable (integer (pos n)) o h e = o.0
sayable (integer (negsuc k)) o h e = o.0
sayable (real b) o h e = let z : ◌≡◌ {A = ℕ} 0 1 = cc in absurd (omega arith)
sayable (text s) o h e = tt
sayable (uid n) o h e = let z : ◌≡◌ {A = ℕ} 0 1 = cc in absurd (omega arith)

-- where a length is answered no event is refused
record Passed (at : ℕ) (ms : List Meaning) (x : Said) (n : ℕ) : Type 0 where
  sayable : AllOnTape ms → Bytes (tape_of ms) → AllSayable ms
  unbarred : (y : Said) → by_events at ms y ≡ y
  is : x ≡ long n

passed : (at : ℕ) (ms : List Meaning) (x : Said) (n : ℕ) → by_events at ms x ≡ long n → Passed at ms x n
unfolding by_events tape_of
passed at [] x n e = record { sayable = λ o h. tt; unbarred = λ y. refl; is = e }
passed at (m ∷ ms) x n e = go (bar_of m) refl (passed (at + length (bytes_for m)) ms x n)
  where
    go : (b : Option ℕ) → bar_of m ≡ b → (by_events (at + length (bytes_for m)) ms x ≡ long n → Passed (at + length (bytes_for m)) ms x n) → Passed at (m ∷ ms) x n
    go (Some number) f i = absurd (not_long number [] at n (rw (f, by_events) at e))
    go None f i =
        let j = i (rw (f, by_events) at e) in
        record {
          sayable = λ o h. (sayable m o.0 (bytes_left (bytes_for m) (tape_of ms) h) f, j.sayable o.1 (bytes_right (bytes_for m) (tape_of ms) h));
          unbarred = λ y. rw (f, by_events) (j.unbarred y);
          is = j.is;
        }

-- a tape whose XML has n bytes
pub record Accepted (tape : List ℕ) (n : ℕ) : Type 0 where
  pub count : ℕ
  pub whole : check_of tape ≡ check.whole count
  pub unbarred : (y : Said) → by_events 0 (meanings_in tape) y ≡ y
  pub size : length (xml_of (meanings_in tape)) ≡ n

pub accepted : (tape : List ℕ) (n : ℕ) → measured_of tape ≡ long n → Accepted tape n
unfolding measured_of by_check
accepted tape n = go (check_of tape) refl
  where
    go : (c : check.Said) → check_of tape ≡ c → by_check c (meanings_in tape) ≡ long n → Accepted tape n
    go (check.refused number kinds place) f e = absurd (not_long number kinds place n e)
    go (check.whole k) f e =
        let p = passed 0 (meanings_in tape) (long (length (xml_of (meanings_in tape)))) n e in
        let s : length (xml_of (meanings_in tape)) ≡ n = let g = p.is in cc in
        record { count = k; whole = f; unbarred = p.unbarred; size = s }

-- its events are one whole root, and each of them has XML
pub record Told (tape : List ℕ) : Type 0 where
  pub fits : fits_from Root [] (meanings_in tape) ≡ true
  pub sayable : AllSayable (meanings_in tape)

pub all_told : (tape : List ℕ) (n : ℕ) → Bytes tape → measured_of tape ≡ long n → Told tape
unfolding meanings_in meant_by
all_told tape n good e =
    let a = accepted tape n e in
    let w = check_whole tape a.count a.whole in
    let i : meanings_in tape ≡ w.ms = rw w.events in
    let o = whole_is tape w.ms good w.events in
    let p = passed 0 (meanings_in tape) (long n) n (a.unbarred (long n)) in
    record { fits = rw i w.fits; sayable = p.sayable (rw i o.0) (rw i (rw o.1 at good)) }

-- ---- the output

-- where a length is answered the XML stands at the start, and what lies behind it is as it was
pub output_is : (tape out : List ℕ) (n : ℕ) → answer_of tape (length out) ≡ long n → output_of tape out ≡ xml_of (meanings_in tape) ++ drop n out
unfolding output_of output_by
output_is tape out n e =
    let r = room_long tape (length out) n e in
    let a = accepted tape n r.0 in
    let s : sets out 0 (xml_of (meanings_in tape)) ≡ xml_of (meanings_in tape) ++ drop (0 + length (xml_of (meanings_in tape))) out = sets-eq (xml_of (meanings_in tape)) out 0 (omega (arith, r.1, a.size)) in
    rw (e, output_by) (rw (zero-add (length (xml_of (meanings_in tape))), a.size) at s)

-- where something is refused it is as it was
pub output_refused : (tape out : List ℕ) (number : ℕ) (kinds : List EventKind) (place : ℕ) → answer_of tape (length out) ≡ refused number kinds place → output_of tape out ≡ out
unfolding output_of output_by
output_refused tape out number kinds place e = rw (e, output_by)
