-- What the number of a date's answer stands for: 0 for a day and time, or for seconds, any other number for one refusal.
use Rattle.std.specs.Prelude.{◌≡◌, refl, ℕ}
use Rattle.std.proofs.Common.{sym, ap, ◌∙◌}
use Rattle.event.specs.Numbers.{refusal_numbers, Listed}
use Rattle.event.specs.NumbersLaws.{listed_some}
use Rattle.number.specs.Among.{among}
use Rattle.calendar.specs.Date.{Said, gives, refused, calendar_of, seconds_of}
use Rattle.calendar.specs.DateLaws.{calendar_refusal, seconds_refusal}
use Rattle.calendar.specs.declared.Time.{Time}
use Rattle.exports.specs.Date.{said_number, time_for, seconds_for}

-- an answer whose refusal, if it is one, is of table N
abbrev pub Told : {A : Type 0} → Said A → Type 0
Told {A} s = (n : ℕ) → s ≡ refused n → Listed n

-- the number, with what is given, is one answer's
said_one : {A : Type 0} (given : Said A → A) → ((x : A) → given (gives x) ≡ x) → (x y : Said A) → Told x → Told y → said_number x ≡ said_number y → given x ≡ given y → x ≡ y
unfolding said_number
said_one given is (gives x) (gives y) s t e f = ap gives (sym (is x) ∙ f ∙ is y)
said_one given is (gives x) (refused n) s t e f = absurd (listed_some n (t n refl) (sym e))
said_one given is (refused m) (gives y) s t e f = absurd (listed_some m (s m refl) e)
said_one given is (refused m) (refused n) s t e f = ap refused e

pub calendar_told : (bits : ℕ) → Told (calendar_of bits)
unfolding refusal_numbers among
calendar_told bits n e = rw (calendar_refusal bits n e)

pub seconds_told : (t : Time) → Told (seconds_of t)
unfolding refusal_numbers among
seconds_told t n e = rw (seconds_refusal t n e)

pub calendar_one : (a b : ℕ) → said_number (calendar_of a) ≡ said_number (calendar_of b) → time_for (calendar_of a) ≡ time_for (calendar_of b) → calendar_of a ≡ calendar_of b
unfolding time_for
calendar_one a b e f = said_one time_for (λ t. refl) (calendar_of a) (calendar_of b) (calendar_told a) (calendar_told b) e f

pub seconds_one : (s t : Time) → said_number (seconds_of s) ≡ said_number (seconds_of t) → seconds_for (seconds_of s) ≡ seconds_for (seconds_of t) → seconds_of s ≡ seconds_of t
unfolding seconds_for
seconds_one s t e f = said_one seconds_for (λ z. refl) (seconds_of s) (seconds_of t) (seconds_told s) (seconds_told t) e f
