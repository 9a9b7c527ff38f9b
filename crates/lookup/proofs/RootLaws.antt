-- The empty path gives the root: events that are one whole root are one value, and nothing is behind it.
use Rattle.std.specs.Prelude.{List, [], ◌++◌, ◌≡◌, refl, true, ℕ, length, Some}
use Rattle.std.proofs.Common.{append-nil, ap, ap₂, sym, ◌∙◌, arith}
use Rattle.number.specs.BeLaws.{Bytes}
use Rattle.event.specs.Meaning.{Meaning}
use Rattle.tape.specs.Events.{tape_of, meant_by, meanings_in}
use Rattle.grammar.specs.Check.{check_of}
use Rattle.grammar.specs.Fits.{fits_from}
use Rattle.grammar.specs.FitsLaws.{check_whole}
use Rattle.grammar.specs.Said as check
use Rattle.grammar.specs.Turn.{after_of}
use Rattle.grammar.specs.declared.turn.Due.TheVariants.{Root}
use Rattle.lookup.specs.Find.{found, placed, by_path, find_of}
use Rattle.lookup.proofs.FindLaws.{find_whole, check_rest}
use Rattle.lookup.specs.Path.{keys_of}
use Rattle.lookup.specs.RestLaws.{rest_long}
use Rattle.lookup.specs.Value.{value_from, behind, from_path}
use Rattle.lookup.proofs.ValueLaws.{value_split}
use Rattle.lookup.proofs.WholeLaws.{value_fits, fits_ended}

-- events that are one whole root are one value
pub whole_value : (ms : List Meaning) → fits_from Root [] ms ≡ true → value_from 0 ms ≡ ms
unfolding after_of
whole_value ms e =
    let none : behind 0 ms ≡ [] = fits_ended [] (behind 0 ms) (value_fits Root [] ms refl e).1 in
    sym (append-nil (value_from 0 ms)) ∙ ap (λ (l : List Meaning). value_from 0 ms ++ l) (sym none) ∙ value_split 0 ms

-- so the empty path gives the whole tape
pub root_found : (tape path : List ℕ) (n : ℕ) → Bytes tape → check_of tape ≡ check.whole n → keys_of path ≡ Some [] → find_of tape path ≡ found 0 (length tape)
unfolding by_path from_path placed meanings_in meant_by
root_found tape path n good ok known =
    let w = check_whole tape n ok in
    let r = check_rest tape n good ok in
    let a : meanings_in tape ≡ w.ms = rw w.events in
    let v : value_from 0 (meanings_in tape) ≡ meanings_in tape = rw a (whole_value w.ms w.fits) in
    let l : length (tape_of (meanings_in tape)) ≡ length tape = omega (arith, rest_long r) in
    find_whole tape path n ok ∙ rw (known, by_path, from_path) (ap₂ found (omega (arith, l)) (ap (λ (x : List Meaning). length (tape_of x)) v ∙ l))
