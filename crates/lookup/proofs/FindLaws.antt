-- Key by key: what is left of the path, from the value that was found.
use Rattle.std.specs.Prelude.{Bool, true, false, cond, List, [], ◌≡◌, refl, ℕ, ◌-◌, ◌≤◌, eqb, length, None, Some, Option}
use Rattle.std.proofs.lemmas.Bool.{false≢true}
use Rattle.std.proofs.Common.{true≢false, ap₂, sym, arith}
use Rattle.number.specs.BeLaws.{Bytes}
use Rattle.event.specs.Meaning.{Meaning}
use Rattle.tape.specs.Events.{tape_of, meant_by, meanings_in}
use Rattle.tape.proofs.EventsLaws.{whole_is}
use Rattle.tape.specs.Value.{number_at}
use Rattle.grammar.specs.Check.{check_of}
use Rattle.grammar.specs.FitsLaws.{check_whole}
use Rattle.grammar.specs.Said as check
use Rattle.grammar.specs.declared.answer.EventKind.{EventKind}
use Rattle.lookup.specs.Find.{found, not_found, refused, placed, by_path, by_check, find_of}
use Rattle.lookup.specs.Path.{with_key, keys_from, keys_in, keys_of, is_some}
use Rattle.lookup.specs.Rest.{Rest}
use Rattle.lookup.specs.RestLaws.{rest_long, rest_start}
use Rattle.lookup.specs.Value.{value_from, behind, into, from_path}
use Rattle.lookup.proofs.ValueLaws.{value_long}

module _ (tape key : List ℕ) (ms : List Meaning) where
  -- a step that leads nowhere
  pub by_stop : (o : Option (List (List ℕ))) → is_some o ≡ true → into key ms ≡ None → by_path tape (with_key key o) ms ≡ not_found
  unfolding is_some with_key by_path from_path placed
  by_stop None e f = absurd (false≢true e)
  by_stop (Some keys) e f = rw (f, from_path)

  -- and one that leads on
  pub by_next : (o : Option (List (List ℕ))) (ns : List Meaning) → is_some o ≡ true → into key ms ≡ Some ns → by_path tape (with_key key o) ms ≡ by_path tape o ns
  unfolding is_some with_key by_path from_path
  by_next None ns e f = absurd (false≢true e)
  by_next (Some keys) ns e f = rw (f, from_path)

-- a value ends where it begins or later
pub behind_later : {tape : List ℕ} {at end : ℕ} {ms : List Meaning} → Rest tape at ms → Rest tape end (behind 0 ms) → at ≤ end
behind_later {ms = ms} r b = omega (arith, rest_long r, rest_long b, value_long 0 ms)

-- no key is left: the value is all that its events are
pub by_end : (tape path : List ℕ) (at end key left : ℕ) (ms : List Meaning) → Rest tape at ms → Rest tape end (behind 0 ms) → left ≡ 0 → is_some (keys_from left path key) ≡ true → found at (end - at) ≡ by_path tape (keys_from left path key) ms
unfolding keys_from is_some by_path from_path placed
by_end tape path at end key left ms r b z e = rw z (go (eqb key (length path)) (rw z at e))
  where
    size : end - at ≡ length (tape_of (value_from 0 ms))
    size = omega (arith, rest_long r, rest_long b, value_long 0 ms)

    go : (x : Bool) → is_some (cond x (Some []) None) ≡ true → found at (end - at) ≡ by_path tape (cond x (Some []) None) ms
    go true f = ap₂ found (sym (rest_start r)) size
    go false f = absurd (false≢true f)

-- what the check of the tape says, then whether the path is one
module _ (tape path : List ℕ) where
  pub find_refused : (number : ℕ) (kinds : List EventKind) (place : ℕ) → check_of tape ≡ check.refused number kinds place → find_of tape path ≡ refused number kinds place
  unfolding find_of by_check
  find_refused number kinds place e = rw (e, by_check)

  pub find_whole : (n : ℕ) → check_of tape ≡ check.whole n → find_of tape path ≡ by_path tape (keys_of path) (meanings_in tape)
  unfolding find_of by_check
  find_whole n e = rw (e, by_check)

-- the events of a checked tape stand on it
pub check_rest : (tape : List ℕ) (n : ℕ) → Bytes tape → check_of tape ≡ check.whole n → Rest tape 0 (meanings_in tape)
unfolding meanings_in meant_by
check_rest tape n good e =
    let w = check_whole tape n e in
    let i = whole_is tape w.ms good w.events in
    rw w.events (record { good = good; within = omega arith; held = i.0; is = i.1 })

-- the count of a path, and its keys
module _ (tape path : List ℕ) (ms : List Meaning) where
  pub by_none : number_at path 0 ≡ None → refused 33 [] 0 ≡ by_path tape (keys_of path) ms
  unfolding keys_of keys_in by_path
  by_none e = rw (e, keys_in)

  pub by_count : (count first : ℕ) → number_at path 0 ≡ Some (count, first) → by_path tape (keys_from count path first) ms ≡ by_path tape (keys_of path) ms
  unfolding keys_of keys_in
  by_count count first e = rw (e, keys_in)

-- bytes that are no path
pub by_bad : (tape : List ℕ) (ms : List Meaning) (o : Option (List (List ℕ))) → is_some o ≡ false → refused 33 [] 0 ≡ by_path tape o ms
unfolding is_some by_path
by_bad tape ms None e = refl
by_bad tape ms (Some keys) e = absurd (true≢false e)
