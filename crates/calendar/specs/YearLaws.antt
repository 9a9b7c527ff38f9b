-- Laws of years: how many days the first n have, and the year of a day by cycles of 400, 100, 4 and 1.
use Rattle.std.specs.Prelude.{Bool, true, false, cond, ◌≡◌, refl, ℕ, zero, suc, ◌+◌, ◌-◌, ◌*◌, ◌/◌, ◌%◌, ◌≤◌, ◌<◌, min, eqb, ltb}
use Rattle.std.proofs.Common.{sym, add-one, arith, eq-eqb, ne_eqb, eqb-true, ltb-true, ltb-false}
use Rattle.std.proofs.lemmas.Bool.{eqb-false}
use Rattle.calendar.specs.Count.{total, count_off}
use Rattle.calendar.specs.CountLaws.{place, counted_first}
use Rattle.calendar.specs.Calendar.{is_leap, days_in_year}

-- by how much the three quotients move from n to its successor
abbrev Moves : ℕ → ℕ → ℕ → ℕ → Type 0
Moves n i j k = (suc n / 4 ≡ n / 4 + i) × (suc n / 100 ≡ n / 100 + j) × (suc n / 400 ≡ n / 400 + k)

moves400 : (n : ℕ) → suc n % 400 ≡ 0 → Moves n 1 1 1
moves400 n h = (omega arith, omega arith, omega arith)

moves100 : (n : ℕ) → (suc n % 400 ≡ 0 → ⊥) → suc n % 100 ≡ 0 → Moves n 1 1 0
moves100 n g h = (omega arith, omega arith, omega arith)

moves4 : (n : ℕ) → (suc n % 100 ≡ 0 → ⊥) → suc n % 4 ≡ 0 → Moves n 1 0 0
moves4 n g h = (omega arith, omega arith, omega arith)

moves1 : (n : ℕ) → (suc n % 4 ≡ 0 → ⊥) → Moves n 0 0 0
moves1 n h = (omega arith, omega arith, omega arith)

step : (n l i j k t : ℕ) → Moves n i j k → l + j ≡ 365 + i + k → t + n / 100 ≡ 365 * n + n / 4 + n / 400 → t + l + suc n / 100 ≡ 365 * suc n + suc n / 4 + suc n / 400
step n l i j k t m e h = rw (m.0, m.1, m.2) (go (n / 4) (n / 100) (n / 400) h)
  where
    go : (a b c : ℕ) → t + b ≡ 365 * n + a + c → t + l + (b + j) ≡ 365 * suc n + (a + i) + (c + k)
    go a b c h = omega arith

-- the days of the first n years
pub years : (n : ℕ) → total days_in_year n + n / 100 ≡ 365 * n + n / 4 + n / 400
unfolding total days_in_year is_leap
years zero = omega arith
years (suc n) = go (eqb (suc n % 400) 0) (eqb (suc n % 4) 0) (eqb (suc n % 100) 0) refl refl refl (years n)
  where
    go : (a b c : Bool) → eqb (suc n % 400) 0 ≡ a → eqb (suc n % 4) 0 ≡ b → eqb (suc n % 100) 0 ≡ c → total days_in_year n + n / 100 ≡ 365 * n + n / 4 + n / 400 → total days_in_year n + cond (cond a true (cond c false b)) 366 365 + suc n / 100 ≡ 365 * suc n + suc n / 4 + suc n / 400
    go true b c e f g ih = step n 366 1 1 1 _ (moves400 n (eqb-true _ _ e)) refl ih
    go false b true e f g ih = step n 365 1 1 0 _ (moves100 n (eqb-false _ _ e) (eqb-true _ _ g)) refl ih
    go false true false e f g ih = step n 366 1 0 0 _ (moves4 n (eqb-false _ _ g) (eqb-true _ _ f)) refl ih
    go false false false e f g ih = step n 365 0 0 0 _ (moves1 n (eqb-false _ _ f)) refl ih

pub years_sum : (n : ℕ) → 365 * n + n / 4 + n / 400 - n / 100 ≡ total days_in_year n
years_sum n = go (total days_in_year n) (n / 4) (n / 100) (n / 400) (years n)
  where
    go : (t a b c : ℕ) → t + b ≡ 365 * n + a + c → 365 * n + a + c - b ≡ t
    go t a b c h = omega arith

-- a year by its cycles: a of 400 years, b of 100, c of 4, and d years
module _ (a b c d : ℕ) (hb : b ≤ 3) (hc : c ≤ 24) (hd : d ≤ 3) where
  pub cycles : total days_in_year (400 * a + 100 * b + 4 * c + d) ≡ 146_097 * a + 36_524 * b + 1461 * c + 365 * d
  cycles =
      let n = 400 * a + 100 * b + 4 * c + d in
      let p : n / 4 ≡ 100 * a + 25 * b + c = omega arith in
      let q : n / 100 ≡ 4 * a + b = omega arith in
      let r : n / 400 ≡ a = omega arith in
      let y : total days_in_year n + n / 100 ≡ 365 * n + n / 4 + n / 400 = years n in
      omega (arith, rw (p, q, r) at y)

pub year_least : (y : ℕ) → 365 ≤ days_in_year y
unfolding days_in_year
year_least y = go (is_leap y)
  where
    go : (b : Bool) → 365 ≤ cond b 366 365
    go true = omega arith
    go false = omega arith

leap_400 : (y : ℕ) → y % 400 ≡ 0 → days_in_year y ≡ 366
unfolding days_in_year is_leap
leap_400 y h = rw (eq-eqb _ _ h)

leap_4 : (y : ℕ) → y % 4 ≡ 0 → (y % 100 ≡ 0 → ⊥) → days_in_year y ≡ 366
unfolding days_in_year is_leap
leap_4 y h g = let f : y % 400 ≡ 0 → ⊥ = omega arith in rw (ne_eqb _ _ f, ne_eqb _ _ g, eq-eqb _ _ h)

-- day u of the year that follows a cycles of 400 years, b of 100, c of 4, and d years
module _ (a b c d u : ℕ) (hb : b ≤ 3) (hc : c ≤ 24) (hd : d ≤ 3) (hu : u ≤ 365) (last : u ≡ 365 → d ≡ 3) (fourth : u ≡ 365 → c ≡ 24 → b ≡ 3) where
  pub in_year : u < days_in_year (suc (400 * a + 100 * b + 4 * c + d))
  in_year = go (ltb u 365) refl (ltb c 24) refl
    where
      y : ℕ
      y = suc (400 * a + 100 * b + 4 * c + d)

      go : (p : Bool) → ltb u 365 ≡ p → (q : Bool) → ltb c 24 ≡ q → u < days_in_year y
      go true e q f = omega (arith, ltb-true u 365 e, year_least y)
      go false e true f =
          let g : u ≡ 365 = omega (arith, ltb-false u 365 e) in
          let h : d ≡ 3 = last g in
          let k : c < 24 = ltb-true _ _ f in
          let m : y / 100 ≡ 4 * a + b = omega arith in
          rw (leap_4 y (omega arith) (omega arith)) (omega arith)
      go false e false f =
          let g : u ≡ 365 = omega (arith, ltb-false u 365 e) in
          let h : d ≡ 3 = last g in
          let k : c ≡ 24 = omega (arith, ltb-false c 24 f) in
          let l : b ≡ 3 = fourth g k in
          rw (leap_400 y (omega arith)) (omega arith)

  pub year_counted : (n : ℕ) → n ≡ 146_097 * a + 36_524 * b + 1461 * c + 365 * d + u → n < 3_652_059 → count_off days_in_year 9998 1 n ≡ place (suc (400 * a + 100 * b + 4 * c + d)) u
  year_counted n e l = counted_first days_in_year 9998 n (400 * a + 100 * b + 4 * c + d) u (omega (arith, cycles a b c d hb hc hd)) in_year (omega arith)

-- what each division of the way from a day to its year leaves
pub record Hundreds (r h s : ℕ) : Type 0 where
  pub few : h ≤ 3
  pub left : s ≤ 36_524
  pub full : s ≡ 36_524 → h ≡ 3
  pub sum : r ≡ 36_524 * h + s

pub hundreds : (r h : ℕ) → r < 146_097 → h ≡ min (r / 36_524) 3 → Hundreds r h (r - 36_524 * h)
hundreds r h l e = record { few = omega arith; left = omega arith; full = λ g. omega arith; sum = omega arith }

pub record Fours (s c t : ℕ) : Type 0 where
  pub few : c ≤ 24
  pub left : t < 1461
  pub full : c ≡ 24 → t ≡ 1460 → s ≡ 36_524
  pub sum : s ≡ 1461 * c + t

pub fours : (s : ℕ) → s ≤ 36_524 → Fours s (s / 1461) (s % 1461)
fours s l = record { few = omega arith; left = omega arith; full = λ g h. omega arith; sum = omega arith }

pub record Ones (t d u : ℕ) : Type 0 where
  pub few : d ≤ 3
  pub left : u ≤ 365
  pub full : u ≡ 365 → (d ≡ 3) × (t ≡ 1460)
  pub sum : t ≡ 365 * d + u

pub ones : (t d : ℕ) → t < 1461 → d ≡ min (t / 365) 3 → Ones t d (t - 365 * d)
ones t d l e = record { few = omega arith; left = omega arith; full = λ g. (omega arith, omega arith); sum = omega arith }

module _ (n h d : ℕ) (l : n < 3_652_059) (eh : h ≡ min (n % 146_097 / 36_524) 3) where
  abbrev pub in_hundred : ℕ
  in_hundred = n % 146_097 - 36_524 * h

  pub the_hundreds : Hundreds (n % 146_097) h in_hundred
  the_hundreds = hundreds (n % 146_097) h (omega arith) eh

  pub the_fours : Fours in_hundred (in_hundred / 1461) (in_hundred % 1461)
  the_fours = fours in_hundred the_hundreds.left

  module _ (ed : d ≡ min (in_hundred % 1461 / 365) 3) where
    pub the_ones : Ones (in_hundred % 1461) d (in_hundred % 1461 - 365 * d)
    the_ones = ones (in_hundred % 1461) d the_fours.left ed

    pub year_small : 400 * (n / 146_097) + 100 * h + 4 * (in_hundred / 1461) + d < 10000
    year_small = go (n / 146_097) (in_hundred / 1461) (omega arith) the_hundreds.few the_fours.few the_ones.few
      where
        go : (a c : ℕ) → a ≤ 24 → h ≤ 3 → c ≤ 24 → d ≤ 3 → 400 * a + 100 * h + 4 * c + d < 10000
        go a c p q r s = omega arith

    -- the year that the divisions give is the one that counting off gives
    pub year_cut : place (400 * (n / 146_097) + 100 * h + 4 * (in_hundred / 1461) + d + 1) (in_hundred % 1461 - 365 * d) ≡ count_off days_in_year 9998 1 n
    year_cut =
        let u = in_hundred % 1461 - 365 * d in
        let fourth : u ≡ 365 → in_hundred / 1461 ≡ 24 → h ≡ 3 = λ e g. the_hundreds.full (the_fours.full g (the_ones.full e).1) in
        rw add-one
        (sym
        (year_counted
        (n / 146_097)
        h
        (in_hundred / 1461)
        d
        u
        the_hundreds.few
        the_fours.few
        the_ones.few
        the_ones.left
        (λ e. (the_ones.full e).0)
        fourth
        n
        (sum (n / 146_097) (n % 146_097) in_hundred (in_hundred / 1461) (in_hundred % 1461) u (omega arith) the_hundreds.sum the_fours.sum the_ones.sum)
        l))
      where
        sum : (a r s c t u : ℕ) → n ≡ 146_097 * a + r → r ≡ 36_524 * h + s → s ≡ 1461 * c + t → t ≡ 365 * d + u → n ≡ 146_097 * a + 36_524 * h + 1461 * c + 365 * d + u
        sum a r s c t u p q x y = omega arith
