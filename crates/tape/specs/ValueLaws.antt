-- Laws of numbers read from the tape: what is written is read again, and what is read was written so.
use Rattle.std.specs.Prelude.{Bool, true, false, List, [], ◌∷◌, ◌++◌, ◌≡◌, refl, ℕ, zero, suc, ◌+◌, ◌-◌, ◌*◌, ◌/◌, ◌%◌, ◌^◌, ◌≤◌, ◌<◌, ltb, eqb, length, get_or, drop, None, Option, Some}
use Rattle.std.proofs.Common.{ap, ap₂, sym, ◌∙◌, arith, lt-ltb, le-ltb, ne_eqb, ltb-true, ltb-false, drop-cons}
use Rattle.std.proofs.lemmas.Bool.{eqb-false}
use Rattle.tape.specs.Pairs.{both_of}
use Rattle.number.specs.BeLaws.{Bytes}
use Rattle.tape.specs.Seven.{groups, seven}
use Rattle.tape.specs.SevenLaws.{groups_last, groups_more, rest_lt, seven_last, seven_more}
use Rattle.tape.specs.Value.{onto, number_from, number_at}

-- a byte that is a last group, and one that isn't
pub number_last : (at b : ℕ) (s : List ℕ) → b < 128 → number_from at (b ∷ s) ≡ Some (b, at + 1)
unfolding number_from
number_last at b s h = rw lt-ltb

pub number_more : (at b : ℕ) (s : List ℕ) → 128 ≤ b → number_from at (b ∷ s) ≡ onto (b - 128) (number_from (at + 1) s)
unfolding number_from
number_more at b s h = rw le-ltb

pub number_one : (tape : List ℕ) (at : ℕ) → at < length tape → get_or tape at 0 < 128 → number_at tape at ≡ Some (get_or tape at 0, at + 1)
unfolding number_at
number_one tape at l h = rw (drop-cons tape at 0 l) (number_last at (get_or tape at 0) (drop (suc at) tape) h)

-- a low group in front of a number that isn't 0
pub onto_of : (b n next : ℕ) → 0 < n → n < 2 ^ 57 → onto b (Some (n, next)) ≡ Some (n * 128 + b, next)
unfolding onto
onto_of b n next h g = rw (ne_eqb n 0 (omega arith), lt-ltb n (2 ^ 57) g)

number_groups : (k at n : ℕ) (q : List ℕ) → n < 128 ^ suc k → n < 2 ^ 64 → number_from at (groups (suc k) n ++ q) ≡ Some (n, at + length (groups (suc k) n))
number_groups zero at n q h m = rw (groups_last 0 n (omega arith)) (number_last at n q (omega arith))
number_groups (suc k) at n q h m = go (ltb n 128) refl (number_groups k (at + 1) (n / 128) q (rest_lt k n h) (omega arith))
  where
    go : (b : Bool) → ltb n 128 ≡ b → number_from (at + 1) (groups (suc k) (n / 128) ++ q) ≡ Some (n / 128, at + 1 + length (groups (suc k) (n / 128))) → number_from at (groups (suc (suc k)) n ++ q) ≡ Some (n, at + length (groups (suc (suc k)) n))
    go true e ih =
        let l : n < 128 = ltb-true n 128 e in
        rw (groups_last (suc k) n l) (number_last at n q l)
    go false e ih =
        let l : 128 ≤ n = ltb-false n 128 e in
        rw (groups_more (suc k) n l, number_more at (n % 128 + 128) (groups (suc k) (n / 128) ++ q) (omega arith), ih)
        (onto_of (n % 128 + 128 - 128) (n / 128) (at + 1 + length (groups (suc k) (n / 128))) (omega arith) (omega arith) ∙ ap₂ (λ (m j : ℕ). Some (m, j)) (omega arith) (omega arith))

-- the groups of a number are read as that number, whatever follows them
pub number_seven : (at n : ℕ) (q : List ℕ) → n < 2 ^ 64 → number_from at (seven n ++ q) ≡ Some (n, at + length (seven n))
unfolding seven
number_seven at n q h = number_groups 9 at n q (omega arith) h

-- a number that bytes begin with
pub record Begins (s : List ℕ) (at n next : ℕ) : Type 0 where
  pub fits : n < 2 ^ 64
  pub rest : List ℕ
  pub split : s ≡ seven n ++ rest
  pub ends : next ≡ at + length (seven n)

begins_onto : (b at : ℕ) (s : List ℕ) (v : Option (ℕ × ℕ)) (n next : ℕ) → 128 ≤ b → b < 256 → onto (b - 128) v ≡ Some (n, next) → ((m j : ℕ) → v ≡ Some (m, j) → Begins s (at + 1) m j) → Begins (b ∷ s) at n next
unfolding onto
begins_onto b at s None n next l u e ih = let z : ◌≡◌ {A = ℕ} 0 1 = cc in absurd (omega arith)
begins_onto b at s (Some (m, j)) n next l u e ih = go (eqb m 0) (ltb m (2 ^ 57)) refl refl
  where
    go : (x y : Bool) → eqb m 0 ≡ x → ltb m (2 ^ 57) ≡ y → Begins (b ∷ s) at n next
    go true y f g =
        let w : None ≡ Some (n, next) = rw f at e in
        let z : ◌≡◌ {A = ℕ} 0 1 = cc in
        absurd (omega arith)
    go false false f g =
        let w : None ≡ Some (n, next) = rw (f, g) at e in
        let z : ◌≡◌ {A = ℕ} 0 1 = cc in
        absurd (omega arith)
    go false true f g =
        let w : Some (m * 128 + (b - 128), j) ≡ Some (n, next) = rw (f, g) at e in
        let i = ih m j refl in
        let some : m ≡ 0 → ⊥ = eqb-false m 0 f in
        let small : m < 2 ^ 57 = ltb-true m (2 ^ 57) g in
        let same = both_of w in
        let value : m * 128 + (b - 128) ≡ n = same.0 in
        let end : j ≡ next = same.1 in
        let high : n / 128 ≡ m = omega arith in
        let low : n % 128 + 128 ≡ b = omega arith in
        let fit : n < 2 ^ 64 = omega arith in
        let is : seven n ≡ b ∷ seven m = seven_more n (omega arith) fit ∙ rw (high, low) in
        record { fits = fit; rest = i.rest; split = rw is (ap (λ (l : List ℕ). b ∷ l) i.split); ends = rw is (omega (arith, i.ends)) }

-- what is read as a number is its groups
pub number_begins : (s : List ℕ) (at n next : ℕ) → Bytes s → number_from at s ≡ Some (n, next) → Begins s at n next
unfolding number_from
number_begins [] at n next h e = let z : ◌≡◌ {A = ℕ} 0 1 = cc in absurd (omega arith)
number_begins (b ∷ s) at n next h e = go (ltb b 128) refl (λ (m j : ℕ). number_begins s (at + 1) m j h.1)
  where
    go : (x : Bool) → ltb b 128 ≡ x → ((m j : ℕ) → number_from (at + 1) s ≡ Some (m, j) → Begins s (at + 1) m j) → Begins (b ∷ s) at n next
    go true f ih =
        let l : b < 128 = ltb-true b 128 f in
        let w : Some (b, at + 1) ≡ Some (n, next) = sym (number_last at b s l) ∙ e in
        let same = both_of w in
        let value : b ≡ n = same.0 in
        let end : at + 1 ≡ next = same.1 in
        let is : seven n ≡ n ∷ [] = seven_last n (omega arith) in
        record { fits = omega arith; rest = s; split = rw (is, value); ends = rw is (omega arith) }
    go false f ih =
        let l : 128 ≤ b = ltb-false b 128 f in
        begins_onto b at s (number_from (at + 1) s) n next l h.0 (sym (number_more at b s l) ∙ e) ih
