-- Numerals: no other begins with one, and what is read from one is its number, or nothing where it is none of T1.
use Rattle.std.specs.Prelude.{Bool, true, false, ◌⊎◌, ◌≡◌, refl, ℕ, zero, suc, ◌+◌, ◌/◌, ◌%◌, ◌^◌, ◌<◌, ltb, eqb, length, None, Option, Some}
use Rattle.std.proofs.lemmas.Bool.{false≢true}
use Rattle.std.proofs.lemmas.Option.{none-some}
use mathlib.Core.List.{List, [], ◌∷◌, ◌++◌, nil≢cons, head-eq_of_cons-eq, tail-eq_of_cons-eq}
use Rattle.std.proofs.Common.{inl, inr, sym, ap₂, ◌∙◌, arith, lt-ltb, le-ltb, ltb-true, ltb-false, eqb-true}
use Rattle.number.specs.BeLaws.{Bytes}
use Rattle.tape.specs.Seven.{groups, seven}
use Rattle.tape.specs.SevenLaws.{groups_last, groups_more, rest_lt}
use Rattle.tape.specs.Value.{number_from}
use Rattle.tape.specs.ValueLaws.{number_seven, number_begins}
use Rattle.written_claims.specs.Lengths.{is_numeral}

pub none_there : (s : List ℕ) → eqb (length s) 0 ≡ true → s ≡ []
none_there [] e = refl
none_there (b ∷ s) e = let z : suc (length s) ≡ 0 = eqb-true _ _ e in absurd (omega arith)

-- two numerals that bytes begin with are the same; one that is cut off has nothing behind it
numerals_one : (cut : Bool) (s u q r : List ℕ) → (cut ≡ true → q ≡ []) → is_numeral cut s ≡ true → is_numeral false u ≡ true → s ++ q ≡ u ++ r → s ≡ u
unfolding is_numeral
numerals_one cut [] [] q r c f g e = refl
numerals_one cut (b ∷ s) [] q r c f g e = absurd (false≢true g)
numerals_one cut [] (b ∷ u) q r c f g e = absurd (nil≢cons (sym (c f) ∙ e))
numerals_one cut (b ∷ s) (d ∷ u) q r c f g e = go (ltb b 128) refl (λ f g. numerals_one cut s u q r c f g (tail-eq_of_cons-eq e))
  where
    is : b ≡ d
    is = head-eq_of_cons-eq e

    go : (x : Bool) → ltb b 128 ≡ x → (is_numeral cut s ≡ true → is_numeral false u ≡ true → s ≡ u) → b ∷ s ≡ d ∷ u
    go true h ih = ap₂ ◌∷◌ is (none_there s (rw h at f) ∙ sym (none_there u (rw (← is, h) at g)))
    go false h ih = ap₂ ◌∷◌ is (ih (rw h at f) (rw (← is, h) at g))

-- the groups of a number are a numeral
groups_numeral : (k n : ℕ) → n < 128 ^ suc k → is_numeral false (groups (suc k) n) ≡ true
unfolding is_numeral
groups_numeral zero n h =
    let l : n < 128 = omega arith in
    rw (groups_last 0 n l, lt-ltb n 128 l)
groups_numeral (suc k) n h = go (ltb n 128) refl (groups_numeral k (n / 128) (rest_lt k n h))
  where
    go : (b : Bool) → ltb n 128 ≡ b → is_numeral false (groups (suc k) (n / 128)) ≡ true → is_numeral false (groups (suc (suc k)) n) ≡ true
    go true e ih = rw (groups_last (suc k) n (ltb-true n 128 e), e)
    go false e ih = rw (groups_more (suc k) n (ltb-false n 128 e), le-ltb (n % 128 + 128) 128 (omega arith)) ih

seven_numeral : (n : ℕ) → n < 2 ^ 64 → is_numeral false (seven n) ≡ true
unfolding seven
seven_numeral n h = groups_numeral 9 n (omega arith)

-- a numeral is a number's groups, or no number has them and none is read from it
module _ (cut : Bool) (s q : List ℕ) (end : cut ≡ true → q ≡ []) (is : is_numeral cut s ≡ true) (good : Bytes (s ++ q)) (at : ℕ) where
  pub numeral_read : ((n : ℕ) × (n < 2 ^ 64) × (s ≡ seven n)) ⊎ (((n : ℕ) → n < 2 ^ 64 → s ≡ seven n → ⊥) × (number_from at (s ++ q) ≡ None))
  numeral_read = go (number_from at (s ++ q)) refl
    where
      go : (v : Option (ℕ × ℕ)) → number_from at (s ++ q) ≡ v → ((n : ℕ) × (n < 2 ^ 64) × (s ≡ seven n)) ⊎ (((n : ℕ) → n < 2 ^ 64 → s ≡ seven n → ⊥) × (number_from at (s ++ q) ≡ None))
      go (Some (n, next)) e =
          let b = number_begins (s ++ q) at n next good e in
          inl (n, b.fits, numerals_one cut s (seven n) q b.rest end is (seven_numeral n b.fits) b.split)
      go None e = inr (
        (λ n h f.
            let x : ◌≡◌ {A = Option (ℕ × ℕ)} (Some (n, at + length (seven n))) None = sym (number_seven at n q h) ∙ rw (← f) e in
            none-some _ (sym x)),
        e,
      )
