-- An event's line, or that it has none; and how long it is at most.
use Rattle.std.specs.Prelude.{Bool, List, ◌≡◌, ℕ, ◌+◌, ◌*◌, ◌≤◌, pos, negsuc, length, Result, Err, None, Some}
use Rattle.std.proofs.Math.Bool.{true, false}
use Rattle.std.proofs.Math.Path.{refl}
use Rattle.std.proofs.Common.{sym, ◌∙◌, arith, length-append}
use Rattle.radix64.specs.Base64.{base64}
use Rattle.radix64.specs.Base64Laws.{length_base64}
use Rattle.calendar.specs.Date as calendar
use Rattle.calendar.specs.Date.{calendar_of}
use Rattle.calendar.specs.declared.Time.{Time}
use Rattle.digits.specs.Digits.{signed}
use Rattle.digits.specs.DigitsLaws.{signed_few}
use Rattle.digits.specs.Stamp.{stamp}
use Rattle.digits.specs.StampLaws.{length_stamp}
use Rattle.event.specs.Meaning.{Meaning, array, dictionary, close, boolean, bytes, date, integer, real, text, uid}
use Rattle.grammar.specs.declared.turn.Due.{Due}
use Rattle.tape.specs.Code.{bytes_for, InRange}
use Rattle.tape.proofs.CodeLaws.{bytes_some}
use Rattle.tape.specs.Seven.{seven}
use Rattle.utf.specs.Unicode.{is_utf8}
use Rattle.xml.specs.BarLaws.{bars_tell}
use Rattle.xml.specs.Put.{Puts, Worded, Dayed, Lined}
use Rattle.xml.specs.Said.{bar_number}
use Rattle.xml.specs.Text.{barred_in}
use Rattle.xml.specs.TextLaws.{length_escape, more_most}
use Rattle.xml.specs.Words.{word_integer, word_date, word_data, word_string, word_key}
use Rattle.xml.specs.Write.{bar_of, date_bar}
use Rattle.xml.specs.Xml.{start_tag, end_tag, empty_tag, line, element, escape, day_of, is_key, truth, closed, worded, line_for}
use Rattle.xml.specs.declared.answer.Bar.{Bar}
use Rattle.xml.specs.declared.answer.Bar.TheVariants.{NoCharacter, NoDay}

-- ---- lines

not_some : (n : ℕ) → None ≡ Some n → ⊥
not_some n e = let z : ◌≡◌ {A = ℕ} 0 1 = cc in omega arith

module _ (l : List ℕ) (at : ℕ) (m : List ℕ) where
  -- a date that has a day and time
  pub dayed_there : (bits : ℕ) (t : Time) (r : Result ℕ Bar) → calendar_of bits ≡ calendar.gives t → Puts l at (element word_date (stamp t)) m r → Dayed l at bits m r
  unfolding date_bar day_of
  dayed_there bits t r e w = record { stands = λ h. rw e w; bars = λ n h. absurd (not_some n (rw e at h)) }

  -- and one that has none
  pub dayed_none : (bits : ℕ) → calendar_of bits ≡ calendar.refused 30 → Dayed l at bits m (Err NoDay)
  unfolding date_bar day_of bar_number
  dayed_none bits e = record {
    stands = λ h. absurd (not_some 30 (sym (rw e at h)));
    bars = λ n h. let g : Some 30 ≡ Some n = rw e at h in let k : 30 ≡ n = cc in (NoDay, refl, k);
  }

  pub lined_puts : (due : Due) (v : Meaning) (r : Result ℕ Bar) → bar_of v ≡ None → Puts l at (line_for due v) m r → Lined l at due v m r
  lined_puts due v r e w = record { stands = λ h. w; bars = λ n h. absurd (not_some n (sym e ∙ h)) }

  pub lined_bars : (due : Due) (v : Meaning) (b : Bar) → bar_of v ≡ Some (bar_number b) → Lined l at due v m (Err b)
  lined_bars due v b e = record {
    stands = λ h. absurd (not_some (bar_number b) (sym h ∙ e));
    bars = λ n h. let g : Some (bar_number b) ≡ Some n = sym e ∙ h in let k : bar_number b ≡ n = cc in (b, refl, k);
  }

  pub lined_date : (due : Due) (bits : ℕ) (r : Result ℕ Bar) → Dayed l at bits m r → Lined l at due (date bits) m r
  unfolding bar_of line_for
  lined_date due bits r w = record { stands = w.stands; bars = w.bars }

  pub lined_text : (due : Due) (s : List ℕ) (r : Result ℕ Bar) → is_utf8 s ≡ true → Worded l at (is_key due) s m r → Lined l at due (text s) m r
  unfolding bar_of line_for bar_number
  lined_text due s r u w = go (barred_in s) refl
    where
      go : (b : Bool) → barred_in s ≡ b → Lined l at due (text s) m r
      go false f = lined_puts due (text s) r (rw (bars_tell s u, f)) (w.stands f)
      go true f = rw (w.bars f) (lined_bars due (text s) NoCharacter (rw (bars_tell s u, f)))

-- ---- sizes

length_element : (name s : List ℕ) → length (element name s) ≡ 2 * length name + length s + 6
unfolding element start_tag end_tag line
length_element name s = simp length-append (omega arith)

day_few : (r : calendar.Said Time) → length (day_of r) ≤ 20
unfolding day_of
day_few (calendar.gives t) = omega (arith, length_stamp t)
day_few (calendar.refused number) = omega arith

data_held : (t : List ℕ) → 1 + length t ≤ length (bytes_for (bytes t))
unfolding bytes_for
data_held t = omega (arith, length-append (seven (length t)) t)

text_held : (t : List ℕ) → 1 + length t ≤ length (bytes_for (text t))
unfolding bytes_for
text_held t = omega (arith, length-append (seven (length t)) t)

-- an event's line is at most 48 times as long as its bytes on the tape
pub line_size_law : (due : Due) (m : Meaning) → InRange m → length (line_for due m) ≤ 48 * length (bytes_for m)
unfolding line_for start_tag end_tag empty_tag line truth closed worded
line_size_law due (array n) h = omega (arith, bytes_some (array n))
line_size_law due (dictionary n) h = omega (arith, bytes_some (dictionary n))
line_size_law due close h = go (is_key due)
  where
    go : (b : Bool) → length (line (end_tag (closed b))) ≤ 48 * length (bytes_for close)
    go true = omega (arith, bytes_some close)
    go false = omega (arith, bytes_some close)
line_size_law due (boolean true) h = omega (arith, bytes_some (boolean true))
line_size_law due (boolean false) h = omega (arith, bytes_some (boolean false))
line_size_law due (bytes s) h = omega (arith, length_element word_data (base64 s), length_base64 s, data_held s)
line_size_law due (date b) h = omega (arith, length_element word_date (day_of (calendar_of b)), day_few (calendar_of b), bytes_some (date b))
line_size_law due (integer (pos n)) h = omega (arith, length_element word_integer (signed (pos n)), signed_few (pos n) h, bytes_some (integer (pos n)))
line_size_law due (integer (negsuc k)) h = omega (arith, length_element word_integer (signed (negsuc k)), signed_few (negsuc k) h, bytes_some (integer (negsuc k)))
line_size_law due (real b) h = omega arith
line_size_law due (text s) h = go (is_key due)
  where
    go : (b : Bool) → length (element (worded b) (escape s)) ≤ 48 * length (bytes_for (text s))
    go true = omega (arith, length_element word_key (escape s), length_escape s, more_most s, text_held s)
    go false = omega (arith, length_element word_string (escape s), length_escape s, more_most s, text_held s)
line_size_law due (uid n) h = omega arith
