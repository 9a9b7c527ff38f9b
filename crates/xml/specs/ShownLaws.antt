-- An event's line shows what `shown_of` says, and no more.
use Rattle.std.specs.Prelude.{Bool, true, false, cond, List, [], ◌∷◌, ◌++◌, ◌≡◌, refl, ℕ, ◌+◌, ◌<◌, eqb, ℤ}
use Rattle.std.proofs.Common.{append_assoc, sym, ap, ◌∙◌, arith, ne_eqb}
use Rattle.radix64.specs.Base64.{alphabet, letter_of, base64}
use Rattle.radix64.specs.Base64Laws.{base64_again, base64_each}
use Rattle.calendar.specs.Calendar.{is_time, seconds_since_epoch}
use Rattle.calendar.specs.Date.{gives, refused, since_floor, since_of, time_since, calendar_of, seconds_of}
use Rattle.calendar.specs.DateLaws.{floor_of_calendar}
use Rattle.calendar.specs.Floor.{floor_of_bits}
use Rattle.calendar.specs.declared.Time.{Time}
use Rattle.digits.specs.Again.{time_in}
use Rattle.digits.specs.AgainLaws.{signed_again, stamp_again}
use Rattle.digits.specs.Digits.{signed}
use Rattle.digits.specs.DigitsLaws.{Holds, signed_each}
use Rattle.digits.specs.Stamp.{stamp}
use Rattle.digits.specs.StampLaws.{stamp_each}
use Rattle.event.specs.Meaning.{Meaning, array, dictionary, close, boolean, bytes, date, integer, real, text, uid}
use Rattle.event.specs.Unmeasured.{unmeasured}
use Rattle.grammar.specs.Turn.{turn_of}
use Rattle.grammar.specs.TurnLaws.{turn_unmeasured}
use Rattle.grammar.specs.declared.turn.Due.{Due}
use Rattle.grammar.specs.declared.turn.Turn.{Turn}
use Rattle.number.specs.BeLaws.{Bytes}
use Rattle.utf.specs.Interval.{on}
use Rattle.xml.specs.EscapeLaws.{NoLess, body_is, escape_free, escape_again}
use Rattle.xml.specs.Shown.{Shown, day, kept, shown_of, body, seconds_in, shown_in}
use Rattle.xml.specs.Words.{word_integer, word_date, word_data, word_string, word_key}
use Rattle.xml.specs.Xml.{start_tag, end_tag, empty_tag, line, element, escape, day_of, is_key, truth, closed, worded, line_for}

-- an event that has XML: neither real nor UID, a date that has a day and time, data of bytes, an integer of 64 bits
abbrev pub Sayable : Meaning → Type 0
Sayable (array n) = Unit {0}
Sayable (dictionary n) = Unit {0}
Sayable close = Unit {0}
Sayable (boolean b) = Unit {0}
Sayable (bytes s) = Bytes s
Sayable (date b) = (t : Time) × (calendar_of b ≡ gives t)
Sayable (integer z) = Holds z
Sayable (real b) = ⊥
Sayable (text s) = Unit {0}
Sayable (uid n) = ⊥

-- ---- what stands in an element has no `<`

digit_free : (d : ℕ) → d < 10 → eqb (48 + d) 60 ≡ false
digit_free d h = ne_eqb (48 + d) 60 (λ e. omega arith)

letter_free : (v : ℕ) → v < 64 → eqb (letter_of v) 60 ≡ false
unfolding letter_of alphabet
letter_free v h = on (λ (x : ℕ). eqb (letter_of x) 60) (λ (x : ℕ). false) 0 64 v refl (omega arith) (omega arith)

signed_free : (z : ℤ) → NoLess (signed z)
signed_free z = signed_each (λ b. eqb b 60 ≡ false) digit_free refl z

stamp_free : (t : Time) → NoLess (stamp t)
stamp_free t = stamp_each (λ b. eqb b 60 ≡ false) digit_free refl refl refl refl t

base64_free : (s : List ℕ) → Bytes s → NoLess (base64 s)
base64_free s h = base64_each (λ b. eqb b 60 ≡ false) letter_free refl s h

-- so it is what stands before the next
within : (s q r : List ℕ) → NoLess s → body ((s ++ (60 ∷ q)) ++ r) ≡ s
within s q r h = rw (append_assoc s (60 ∷ q) r) (body_is s (q ++ r) h)

-- ---- read again

there_is : (t : Time) (z : ℤ) → seconds_of t ≡ gives z → is_time t ≡ true
unfolding seconds_of
there_is t z = go (is_time t)
  where
    go : (b : Bool) → cond b (gives (seconds_since_epoch t)) (refused 30) ≡ gives z → b ≡ true
    go true e = refl
    go false e = let w : ◌≡◌ {A = ℕ} 0 1 = cc in absurd (omega arith)

shown_date : (b : ℕ) (t : Time) (q r : List ℕ) → calendar_of b ≡ gives t → seconds_in (seconds_of (time_in (body ((stamp t ++ (60 ∷ q)) ++ r)))) ≡ floor_of_bits b
unfolding seconds_in
shown_date b t q r e =
    let f = floor_of_calendar b t e in
    rw (within (stamp t) q r (stamp_free t), stamp_again t (there_is t f.floor f.seconds), f.seconds, f.is)

-- `/name>` and the newline, behind an element's content and its `<`
abbrev ending : List ℕ → List ℕ
ending name = 47 ∷ (name ++ (62 ∷ 10 ∷ []))

shown_text : (k : Bool) (s r : List ℕ) → shown_in (element (worded k) (escape s) ++ r) ≡ kept (text s)
unfolding shown_in element start_tag end_tag line worded
shown_text true s r = rw (within (escape s) (ending word_key) r (escape_free s), escape_again s)
shown_text false s r = rw (within (escape s) (ending word_string) r (escape_free s), escape_again s)

shown_end : (k : Bool) (r : List ℕ) → shown_in (line (end_tag (closed k)) ++ r) ≡ kept close
unfolding shown_in end_tag line closed
shown_end true r = refl
shown_end false r = refl

shown_truth : (b : Bool) (r : List ℕ) → shown_in (line (empty_tag (truth b)) ++ r) ≡ kept (boolean b)
unfolding shown_in empty_tag line truth
shown_truth true r = refl
shown_truth false r = refl

-- whatever follows the line, it shows the event
pub shown_again : (due : Due) (m : Meaning) (r : List ℕ) → Sayable m → shown_in (line_for due m ++ r) ≡ shown_of m
unfolding line_for shown_of shown_in start_tag end_tag line element day_of unmeasured
shown_again due (array n) r h = refl
shown_again due (dictionary n) r h = refl
shown_again due close r h = shown_end (is_key due) r
shown_again due (boolean b) r h = shown_truth b r
shown_again due (bytes s) r h = rw (within (base64 s) (ending word_data) r (base64_free s h), base64_again s h)
shown_again due (date b) r h = rw h.1 (ap day (shown_date b h.0 (ending word_date) r h.1))
shown_again due (integer z) r h = rw (within (signed z) (ending word_integer) r (signed_free z), signed_again z h)
shown_again due (real b) r h = absurd h
shown_again due (text s) r h = shown_text (is_key due) s r
shown_again due (uid n) r h = absurd h

-- ---- the line and the turn go by what is shown

line_shown : Due → Shown → List ℕ
line_shown due (day z) = element word_date (day_of (time_since (since_floor z)))
line_shown due (kept m) = line_for due m

line_is : (due : Due) (m : Meaning) → line_shown due (shown_of m) ≡ line_for due m
unfolding line_shown line_for shown_of unmeasured calendar_of since_of
line_is due (array n) = refl
line_is due (dictionary n) = refl
line_is due close = refl
line_is due (boolean b) = refl
line_is due (bytes s) = refl
line_is due (date b) = refl
line_is due (integer z) = refl
line_is due (real b) = refl
line_is due (text s) = refl
line_is due (uid n) = refl

turn_shown : Due → Shown → Turn
turn_shown due (day z) = turn_of due (date 0)
turn_shown due (kept m) = turn_of due m

turn_is : (due : Due) (m : Meaning) → turn_shown due (shown_of m) ≡ turn_of due m
unfolding turn_shown turn_of shown_of
turn_is due (array n) = turn_unmeasured due (array n)
turn_is due (dictionary n) = turn_unmeasured due (dictionary n)
turn_is due close = refl
turn_is due (boolean b) = refl
turn_is due (bytes s) = refl
turn_is due (date b) = refl
turn_is due (integer z) = refl
turn_is due (real b) = refl
turn_is due (text s) = refl
turn_is due (uid n) = refl

pub line_shown_law : (due : Due) (m n : Meaning) → shown_of m ≡ shown_of n → line_for due m ≡ line_for due n
line_shown_law due m n e = sym (line_is due m) ∙ ap (line_shown due) e ∙ line_is due n

pub turn_shown_law : (due : Due) (m n : Meaning) → shown_of m ≡ shown_of n → turn_of due m ≡ turn_of due n
turn_shown_law due m n e = sym (turn_is due m) ∙ ap (turn_shown due) e ∙ turn_is due n
