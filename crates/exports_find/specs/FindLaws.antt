-- What the numbers of a lookup's answer stand for: one answer alone. 0 is a part, 254 that there is none, any other number is that of one refusal.
use Rattle.std.specs.Prelude.{cond, List, ◌≡◌, refl, ℕ, eqb, None, Option, Some}
use Rattle.std.proofs.Common.{sym, ◌∙◌, arith, ne_eqb}
use Rattle.event.specs.Meaning.{Meaning}
use Rattle.event.specs.Numbers.{refusal_numbers, Listed}
use Rattle.event.specs.NumbersLaws.{listed_some, listed_low}
use Rattle.number.specs.Among.{among}
use Rattle.tape.specs.Events.{meanings_in}
use Rattle.grammar.specs.Check.{check_of}
use Rattle.grammar.specs.Said.{refused_at, checked_said}
use Rattle.grammar.specs.declared.answer.Checked.{Checked}
use Rattle.grammar.specs.declared.answer.Checked.TheVariants as checked
use Rattle.lookup.specs.Find.{Said, found, not_found, refused, placed, by_path, by_check, find_of}
use Rattle.lookup.specs.Path.{keys_of}
use Rattle.lookup.specs.Value.{from_path}
use Rattle.exports_find.specs.Find.{find_code, find_start, find_length, find_expected, find_found}
use Rattle.exports.specs.Write.{first_number, second_number}
use Rattle.exports.specs.WriteLaws.{kinds_from, check_told, check_said}

-- the answer that five numbers stand for
unfoldable pub find_from : ℕ → ℕ → ℕ → ℕ → ℕ → Said
find_from code start n expected second = cond (eqb code 0) (found start n) (cond (eqb code 254) not_found (refused code (kinds_from code expected second) start))

-- an answer whose refusal, if it is one, is of table N and names that number's kinds
abbrev pub Told : Said → Type 0
Told (found start n) = Unit {0}
Told not_found = Unit {0}
Told (refused number kinds place) = Listed number × (kinds ≡ kinds_from number (first_number kinds) (second_number kinds))

-- the number alone tells a part, that there is none, and each refusal; with the four others it tells the answer
pub find_again : (s : Said) → Told s → find_from (find_code s) (find_start s) (find_length s) (find_expected s) (find_found s) ≡ s
unfolding find_from find_code find_start find_length find_expected find_found
find_again (found start n) t = refl
find_again not_found t = refl
find_again (refused number kinds place) t =
    rw (ne_eqb number 0 (listed_some number t.0), ne_eqb number 254 (λ e. omega (arith, e, listed_low number t.0)), ← t.1)

-- every answer of a lookup
pub find_told : (tape path : List ℕ) → Told (find_of tape path)
unfolding find_of by_check by_path placed checked_said refused_at kinds_from refusal_numbers among
find_told tape path = go (check_said tape).0 (check_said tape).1
  where
    at : (o : Option (List Meaning)) → Told (placed tape o)
    at None = tt
    at (Some ms) = tt

    by : (o : Option (List (List ℕ))) → Told (by_path tape o (meanings_in tape))
    by None = (refl, refl)
    by (Some keys) = at (from_path keys (meanings_in tape))

    go : (c : Checked) → check_of tape ≡ checked_said c → Told (by_check (check_of tape) tape (keys_of path))
    go (checked.Whole n) e = rw e (by (keys_of path))
    go (checked.Refused r place) e = rw e (check_told r place)

-- two calls that give the same five numbers have the same answer
pub find_one :
    (s t p q : List ℕ) →
    find_code (find_of s p) ≡ find_code (find_of t q) → find_start (find_of s p) ≡ find_start (find_of t q) → find_length (find_of s p) ≡ find_length (find_of t q) →
    find_expected (find_of s p) ≡ find_expected (find_of t q) → find_found (find_of s p) ≡ find_found (find_of t q) →
    find_of s p ≡ find_of t q
find_one s t p q e f g h i = sym (find_again (find_of s p) (find_told s p)) ∙ rw (e, f, g, h, i) (find_again (find_of t q) (find_told t q))
