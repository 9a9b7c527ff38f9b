-- A number by the turns of the loop that reads it is the number.
use Rattle.std.specs.Prelude.{Bool, cond, ◌&&◌, List, ◌∷◌, ◌≡◌, ℕ, suc, ◌+◌, ◌-◌, ◌*◌, ◌^◌, ◌≤◌, ◌<◌, length, get_or, drop, None, Option, Some}
use Rattle.std.proofs.Math.Bool.{true, false}
use Rattle.std.proofs.Math.Path.{refl}
use Rattle.std.proofs.Common.{ap, ◌∙◌, pow-suc, mul_assoc, mul_comm, add-mul, mul-le-mul, mul-le-mul_right, add-one, lit<, drop_of_length-le, drop-cons}
use Rattle.std.proofs.Math.Nat.{pow-le-pow_right}
use native.Mathlib.Omega.{arith}
use borrow.Author.Tests.{lt-ltb, le-ltb, ne_eqb, ltb-true, ltb-false, eqb-true, eqb-false}
use Rattle.std.proofs.Math.Dec.{ltb, eqb}
use Rattle.number.specs.BeLaws.{Bytes}
use Rattle.tape.specs.Value.{onto, number_from}
use Rattle.tape.specs.ValueLaws.{number_last, number_more, number_begins}
use Rattle.tape.specs.ValueLoop.{Units, above}

-- before the first group
pub no_groups : Units 0 1
no_groups = record { k = 0; few = omega arith; power = refl; low = omega arith }

module _ (value unit : ℕ) (u : Units value unit) where
  -- a unit counts something, and before the tenth group it is at most 2 ^ 56
  pub unit_some : 0 < unit
  unit_some = omega (arith, u.low)

  unit_le : (k : ℕ) → k ≤ 9 → (128 ^ k ≡ 2 ^ 63 → ⊥) → 128 ^ k ≤ 2 ^ 56
  unit_le k few n = go (ltb k 9) refl
    where
      go : (b : Bool) → ltb k 9 ≡ b → 128 ^ k ≤ 2 ^ 56
      go true e =
          let h : k < 9 = ltb-true k 9 e in
          let l : k ≤ 8 = omega arith in
          pow-le-pow_right {n = 128} (lit< tt) l
      go false e =
          let h : 9 ≤ k = ltb-false k 9 e in
          let q : k ≡ 9 = omega arith in
          absurd (n (ap (λ (j : ℕ). 128 ^ j) q))

  pub unit_small : (unit ≡ 2 ^ 63 → ⊥) → unit ≤ 2 ^ 56
  unit_small n = rw u.power (unit_le u.k u.few (λ e. n (u.power ∙ e)))

  -- a group more is worth less than the next unit
  pub more_lt : (b : ℕ) → b < 128 → b * unit + value < unit * 128
  more_lt b h =
      let l : b ≤ 127 = omega arith in
      omega (arith, mul-le-mul_right unit l, u.low)

  pub more_groups : (b : ℕ) → b < 128 → (unit ≡ 2 ^ 63 → ⊥) → Units (value + b * unit) (unit * 128)
  more_groups b h n =
      let s = unit_small n in
      record { k = suc u.k; few = few' u.k u.few u.power; power = rw (pow-suc, ← u.power); low = omega (arith, more_lt b h) }
    where
      few' : (k : ℕ) → k ≤ 9 → unit ≡ 128 ^ k → suc k ≤ 9
      few' k f e = go (ltb k 9) refl
        where
          go : (b : Bool) → ltb k 9 ≡ b → suc k ≤ 9
          go true t =
              let h : k < 9 = ltb-true k 9 t in
              omega arith
          go false t =
              let h : 9 ≤ k = ltb-false k 9 t in
              let q : k ≡ 9 = omega arith in
              absurd (n (e ∙ ap (λ (j : ℕ). 128 ^ j) q))

  -- a group with others after it goes to those before it
  pub above_onto : (b : ℕ) (r : Option (ℕ × ℕ)) → b < 128 → above value unit (onto b r) ≡ above (value + b * unit) (unit * 128) r
  unfolding above onto
  above_onto b None h = refl
  above_onto b (Some (n, next)) h = go (eqb n 0) (ltb n (2 ^ 57)) refl refl
    where
      two : ltb 1 (unit * 128) ≡ true
      two = lt-ltb 1 (unit * 128) (omega (arith, unit_some))

      sum : (n * 128 + b) * unit + value ≡ n * (unit * 128) + (value + b * unit)
      sum =
          let e : (n * 128 + b) * unit ≡ n * 128 * unit + b * unit = add-mul (n * 128) b unit in
          let f : n * 128 * unit ≡ n * (unit * 128) = mul_assoc n 128 unit ∙ ap (λ (x : ℕ). n * x) (mul_comm 128 unit) in
          omega (arith, e, f)

      go : (s t : Bool) → eqb n 0 ≡ s → ltb n (2 ^ 57) ≡ t → above value unit (onto b (Some (n, next))) ≡ above (value + b * unit) (unit * 128) (Some (n, next))
      go true t e f = rw (e, two)
      go false false e f =
          let l : 2 ^ 57 ≤ n = ltb-false n (2 ^ 57) f in
          let m : 128 ≤ unit * 128 = omega (arith, unit_some) in
          let w : ltb (n * (unit * 128) + (value + b * unit)) (2 ^ 64) ≡ false = le-ltb (n * (unit * 128) + (value + b * unit)) (2 ^ 64) (omega (arith, mul-le-mul l m)) in
          rw (e, f, w)
      go false true e f =
          let z : n ≡ 0 → ⊥ = eqb-false n 0 e in
          let w : eqb (n * 128 + b) 0 ≡ false = ne_eqb (n * 128 + b) 0 (omega arith) in
          simp (e, f, w, sum)

  -- a tenth group has none after it
  pub above_tenth : (b : ℕ) (r : Option (ℕ × ℕ)) → unit ≡ 2 ^ 63 → above value unit (onto b r) ≡ None
  unfolding above onto
  above_tenth b None q = refl
  above_tenth b (Some (n, next)) q = go (eqb n 0) (ltb n (2 ^ 57)) refl refl
    where
      go : (s t : Bool) → eqb n 0 ≡ s → ltb n (2 ^ 57) ≡ t → above value unit (onto b (Some (n, next))) ≡ None
      go true t e f = rw e
      go false false e f = rw (e, f)
      go false true e f =
          let z : n ≡ 0 → ⊥ = eqb-false n 0 e in
          let w : eqb (n * 128 + b) 0 ≡ false = ne_eqb (n * 128 + b) 0 (omega arith) in
          let l : 128 ≤ n * 128 + b = omega arith in
          let g : ltb ((n * 128 + b) * unit + value) (2 ^ 64) ≡ false = le-ltb ((n * 128 + b) * unit + value) (2 ^ 64) (rw q (omega arith)) in
          rw (e, f, w, g)

  -- the turns of the loop, at a place within the tape
  module _ (tape : List ℕ) (i : ℕ) (h : i < length tape) where
    front : number_from i (drop i tape) ≡ number_from i (get_or tape i 0 ∷ drop (i + 1) tape)
    front = rw (add-one, drop-cons tape i 0 h)

    pub turn_last : get_or tape i 0 < 128 → above value unit (number_from i (drop i tape)) ≡ above value unit (Some (get_or tape i 0, i + 1))
    turn_last l = ap (above value unit) (front ∙ number_last i (get_or tape i 0) (drop (i + 1) tape) l)

    pub turn_more : 128 ≤ get_or tape i 0 → get_or tape i 0 < 256 → above value unit (number_from i (drop i tape)) ≡ above (value + (get_or tape i 0 - 128) * unit) (unit * 128) (number_from (i + 1) (drop (i + 1) tape))
    turn_more l g =
        ap (above value unit) (front ∙ number_more i (get_or tape i 0) (drop (i + 1) tape) l)
        ∙ above_onto (get_or tape i 0 - 128) (number_from (i + 1) (drop (i + 1) tape)) (omega arith)

    pub turn_tenth : 128 ≤ get_or tape i 0 → unit ≡ 2 ^ 63 → above value unit (number_from i (drop i tape)) ≡ None
    turn_tenth l q =
        ap (above value unit) (front ∙ number_more i (get_or tape i 0) (drop (i + 1) tape) l)
        ∙ above_tenth (get_or tape i 0 - 128) (number_from (i + 1) (drop (i + 1) tape)) q

  pub turn_none : (tape : List ℕ) (i : ℕ) → length tape ≤ i → above value unit (number_from i (drop i tape)) ≡ None
  unfolding above number_from
  turn_none tape i h = rw (drop_of_length-le tape {i = i} h)

  -- what the last group makes of the number
  pub last_zero : (next : ℕ) → unit ≡ 1 → above value unit (Some (0, next)) ≡ Some (value, next)
  unfolding above
  last_zero next q =
      let l : ltb (0 * unit + value) (2 ^ 64) ≡ true = lt-ltb (0 * unit + value) (2 ^ 64) (omega (arith, u.low)) in
      rw (le-ltb 1 unit (omega arith), l) (ap (λ (n : ℕ). Some (n, next)) (omega arith))

  pub last_long : (next : ℕ) → (unit ≡ 1 → ⊥) → above value unit (Some (0, next)) ≡ None
  unfolding above
  last_long next q = rw (lt-ltb 1 unit (omega (arith, unit_some)))

  -- a tenth group above 1 is too large
  pub last_large : (b next : ℕ) → unit ≡ 2 ^ 63 → 1 < b → above value unit (Some (b, next)) ≡ None
  unfolding above
  last_large b next q l =
      let g : b * unit + value ≡ b * 2 ^ 63 + value = rw q in
      rw (ne_eqb b 0 (omega arith), le-ltb (b * unit + value) (2 ^ 64) (omega arith))

  -- any other is in place
  pub last_room : (b : ℕ) → b < 128 → (unit ≡ 2 ^ 63 → b ≤ 1) → b * unit + value < 2 ^ 64
  last_room b h l = go (eqb unit (2 ^ 63)) refl
    where
      go : (t : Bool) → eqb unit (2 ^ 63) ≡ t → b * unit + value < 2 ^ 64
      go true e =
          let q : unit ≡ 2 ^ 63 = eqb-true unit (2 ^ 63) e in
          let one : b ≤ 1 = l q in
          omega (arith, mul-le-mul_right unit one, u.low)
      go false e = omega (arith, unit_small (eqb-false unit (2 ^ 63) e), more_lt b h)

  pub last_good : (b next : ℕ) → (b ≡ 0 → ⊥) → b < 128 → (unit ≡ 2 ^ 63 → b ≤ 1) → above value unit (Some (b, next)) ≡ Some (b * unit + value, next)
  unfolding above
  last_good b next z h l = rw (ne_eqb b 0 z, lt-ltb (b * unit + value) (2 ^ 64) (last_room b h l))

-- before the first group nothing is added
pub above_nothing : (at : ℕ) (s : List ℕ) → Bytes s → number_from at s ≡ above 0 1 (number_from at s)
unfolding above
above_nothing at s good = go (number_from at s) refl
  where
    go : (v : Option (ℕ × ℕ)) → number_from at s ≡ v → v ≡ above 0 1 v
    go None e = refl
    go (Some (n, next)) e =
        let f : n < 2 ^ 64 = (number_begins s at n next good e).fits in
        let q : n * 1 + 0 ≡ n = omega arith in
        rw (q, lt-ltb n (2 ^ 64) f) (choose (eqb n 0))
      where
        choose : (b : Bool) → ◌≡◌ {A = Option (ℕ × ℕ)} (Some (n, next)) (cond (b && false) None (Some (n, next)))
        choose true = refl
        choose false = refl
