-- Numbers in decimal are one to one, and so are days and times: what is read again is what was written.
use Rattle.std.specs.Prelude.{Bool, true, false, List, [], ◌∷◌, ◌++◌, ◌≡◌, refl, ℕ, zero, suc, ◌+◌, ◌-◌, ◌*◌, ◌/◌, ◌%◌, ◌^◌, ◌<◌, ltb, eqb, ℤ, pos, negsuc, get_or}
use Rattle.std.proofs.Common.{sym, ap, ◌∙◌, div-lt_iff_lt-mul, pow-suc, arith, ne_eqb, ltb-true, lit<}
use Rattle.calendar.specs.Calendar.{is_time}
use Rattle.calendar.specs.MonthLaws.{month_most}
use Rattle.calendar.specs.TimeLaws.{time_says}
use Rattle.calendar.specs.declared.Time.{Time}
use Rattle.digits.specs.Again.{number_from, integer_in, time_in}
use Rattle.digits.specs.Digits.{places_of, digits_of, decimal, minus, signed}
use Rattle.digits.specs.DigitsLaws.{Holds, decimal_each}
use Rattle.digits.specs.Each.{Each}
use Rattle.digits.specs.Stamp.{field, three, stamp}

-- ---- digits

number_append : (n : ℕ) (s t : List ℕ) → number_from n (s ++ t) ≡ number_from (number_from n s) t
unfolding number_from
number_append n [] t = refl
number_append n (d ∷ s) t = number_append (n * 10 + (d - 48)) s t

-- enough digits give the number back
pub digits_again : (k n : ℕ) → n < 10 ^ k → number_from 0 (digits_of k n) ≡ n
unfolding digits_of number_from
digits_again zero n h = omega arith
digits_again (suc k) n h =
    let lt : n / 10 < 10 ^ k = (div-lt_iff_lt-mul (lit< tt)).1 (rw pow-suc at h) in
    let ih : number_from 0 (digits_of k (n / 10)) ≡ n / 10 = digits_again k (n / 10) lt in
    number_append 0 (digits_of k (n / 10)) ((48 + n % 10) ∷ []) ∙ rw ih (omega arith)

-- ---- a number

-- as many as there are counted are enough
places_enough : (k n : ℕ) → n < 10 ^ suc k → n < 10 ^ places_of k n
unfolding places_of
places_enough zero n h = h
places_enough (suc k) n h = go (ltb n 10) refl (places_enough k (n / 10) ((div-lt_iff_lt-mul (lit< tt)).1 (rw pow-suc at h)))
  where
    go : (b : Bool) → ltb n 10 ≡ b → n / 10 < 10 ^ places_of k (n / 10) → n < 10 ^ places_of (suc k) n
    go true e ih = rw (e, places_of) (ltb-true n 10 e)
    go false e ih = rw (e, places_of, pow-suc) (omega (arith, ih))

pub decimal_again : (n : ℕ) → n < 2 ^ 64 → number_from 0 (decimal n) ≡ n
unfolding decimal
decimal_again n h = digits_again (places_of 19 n) n (places_enough 19 n (omega arith))

pub decimal_one : (m n : ℕ) → m < 2 ^ 64 → n < 2 ^ 64 → decimal m ≡ decimal n → m ≡ n
decimal_one m n h k e = sym (decimal_again m h) ∙ ap (number_from 0) e ∙ decimal_again n k

-- ---- an integer

-- no number begins with a minus
first_each : (s : List ℕ) → Each (λ b. eqb b 45 ≡ false) s → eqb (get_or s 0 0) 45 ≡ false
first_each [] h = refl
first_each (d ∷ s) h = h.0

decimal_first : (n : ℕ) → eqb (get_or (decimal n) 0 0) 45 ≡ false
decimal_first n = first_each (decimal n) (decimal_each (λ b. eqb b 45 ≡ false) (λ d h. ne_eqb (48 + d) 45 (λ e. omega arith)) n)

pub signed_again : (z : ℤ) → Holds z → integer_in (signed z) ≡ z
unfolding signed minus integer_in
signed_again (pos n) h = rw (decimal_first n, decimal_again n h)
signed_again (negsuc k) h =
    let e : number_from 0 (decimal (k + 1)) ≡ k + 1 = decimal_again (k + 1) (omega arith) in
    rw e (ap negsuc (omega arith))

pub signed_one : (y z : ℤ) → Holds y → Holds z → signed y ≡ signed z → y ≡ z
signed_one y z h k e = sym (signed_again y h) ∙ ap integer_in e ∙ signed_again z k

-- ---- a day and time

pub stamp_again : (t : Time) → is_time t ≡ true → time_in (stamp t) ≡ t
unfolding stamp three field digits_of time_in
stamp_again t e =
    let v = time_says t e in
    rw (
      digits_again 4 t.year (omega (arith, v.year_to)),
      digits_again 2 t.month (omega (arith, v.month_to)),
      digits_again 2 t.day (omega (arith, v.day_to, month_most t.year t.month)),
      digits_again 2 t.hour (omega (arith, v.hour_to)),
      digits_again 2 t.minute (omega (arith, v.minute_to)),
      digits_again 2 t.second (omega (arith, v.second_to)),
    )

pub stamp_one : (t u : Time) → is_time t ≡ true → is_time u ≡ true → stamp t ≡ stamp u → t ≡ u
stamp_one t u h k e = sym (stamp_again t h) ∙ ap time_in e ∙ stamp_again u k
