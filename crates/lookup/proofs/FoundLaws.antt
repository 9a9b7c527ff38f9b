-- The part that is found is the value which the events' meaning gives, and nothing is found exactly where there is none. The part is a whole tape itself.
use Rattle.std.specs.Prelude.{Bool, true, false, ℕ, zero, suc, ◌+◌, ◌-◌, ◌≤◌, take, drop, None, Option, Some}
use mathlib.Core.List.{List, [], ◌∷◌, ◌++◌, append_assoc}
use Rattle.std.proofs.Math.Path.{◌≡◌, refl}
use Rattle.std.proofs.Common.{ap, sym, ◌∙◌, arith, length-append, drop_at, take_at}
use Rattle.std.proofs.Math.ListN.{length}
use Rattle.number.specs.BeLaws.{Bytes}
use Rattle.number.specs.Part.{part}
use Rattle.number.specs.PartLaws.{length_part}
use Rattle.event.specs.Meaning.{Meaning, array, dictionary, close, boolean, bytes, date, integer, real, text, uid}
use Rattle.tape.specs.Events.{whole, events_of, tape_of, meant_by, meanings_in}
use Rattle.tape.proofs.EventsLaws.{AllOnTape, tape_whole, tape_append}
use Rattle.written.specs.Graph.{same_bytes}
use Rattle.grammar.specs.Check.{move_of, check_of}
use Rattle.grammar.specs.Fits.{fits_from}
use Rattle.grammar.specs.FitsLaws.{check_whole, fits_check}
use Rattle.grammar.specs.Said as check
use Rattle.grammar.specs.Turn.{is_nothing, after_of, unless_key, text_turn, turn_of}
use Rattle.grammar.specs.declared.turn.Due.{Due}
use Rattle.grammar.specs.declared.turn.Due.TheVariants.{Root, Element, Key, Value, Nothing}
use Rattle.grammar.specs.declared.turn.Turn.TheVariants.{Pass}
use Rattle.lookup.specs.Find.{found, not_found, refused, placed, by_path, by_check, find_of, part_by, part_of}
use Rattle.lookup.proofs.FindLaws.{check_rest}
use Rattle.lookup.specs.Path.{keys_of}
use Rattle.lookup.specs.Rest.{Rest}
use Rattle.lookup.specs.Value.{value_from, behind, under_key, into, from_path, first_of, value_at}
use Rattle.lookup.proofs.ValueLaws.{value_split, value_tape}
use Rattle.lookup.proofs.WholeLaws.{Awaits, fits_onto, fits_open, value_fits}

-- events behind others
abbrev Behind : List Meaning → List Meaning → Type 0
Behind ms r = (p : List Meaning) × (ms ≡ p ++ r)

not_some : (r : List Meaning) → None ≡ Some r → ⊥
not_some r e = let z : ◌≡◌ {A = ℕ} 0 1 = cc in omega arith

-- a value under a key stands behind, and where pairs fit it is due there
abbrev Under : List Meaning → List Meaning → Type 0
Under ms r = Behind ms r × ((around : List Due) → fits_from Key around ms ≡ true → fits_from Value around r ≡ true)

-- a key that fits is followed by its value
key_fits : (s : List ℕ) (ms : List Meaning) (around : List Due) → fits_from Key around (text s ∷ ms) ≡ true → fits_from Value around ms ≡ true
unfolding turn_of text_turn is_nothing after_of move_of
key_fits s ms around e = sym (fits_onto Key around (text s) ms (Pass Value) Value around refl refl) ∙ e

under_is : (k : ℕ) (key : List ℕ) (ms r : List Meaning) → under_key k key ms ≡ Some r → Under ms r
unfolding under_key after_of
under_is zero key ms r e = absurd (not_some r e)
under_is (suc k) key [] r e = absurd (not_some r e)
under_is (suc k) key (text s ∷ ms) r e = go (same_bytes s key) refl (under_is k key (behind 0 ms) r)
  where
    go : (b : Bool) → same_bytes s key ≡ b → (under_key k key (behind 0 ms) ≡ Some r → Under (behind 0 ms) r) → Under (text s ∷ ms) r
    go true f ih =
        let g : Some ms ≡ Some r = rw f at e in
        let z : ms ≡ r = cc in
        ((text s ∷ [], ap (λ (l : List Meaning). text s ∷ l) z), λ around h. rw (← z) (key_fits s ms around h))
    go false f ih =
        let i = ih (rw f at e) in
        let p = i.0.0 in (
          (text s ∷ (value_from 0 ms ++ p), ap (λ (l : List Meaning). text s ∷ l) (sym (value_split 0 ms) ∙ ap (λ (l : List Meaning). value_from 0 ms ++ l) i.0.1 ∙ sym (append_assoc (value_from 0 ms) p r))),
          λ around h. i.1 around (value_fits Value around ms tt (key_fits s ms around h)).1,
        )
under_is (suc k) key (array n ∷ ms) r e = absurd (not_some r e)
under_is (suc k) key (dictionary n ∷ ms) r e = absurd (not_some r e)
under_is (suc k) key (close ∷ ms) r e = absurd (not_some r e)
under_is (suc k) key (boolean b ∷ ms) r e = absurd (not_some r e)
under_is (suc k) key (bytes s ∷ ms) r e = absurd (not_some r e)
under_is (suc k) key (date b ∷ ms) r e = absurd (not_some r e)
under_is (suc k) key (integer z ∷ ms) r e = absurd (not_some r e)
under_is (suc k) key (real b ∷ ms) r e = absurd (not_some r e)
under_is (suc k) key (uid n ∷ ms) r e = absurd (not_some r e)

-- a value among events that fit: it is due there, and they fit from it on
abbrev DueHere : List Meaning → Type 0
DueHere r = (due : Due) × (around : List Due) × Awaits due around × (fits_from due around r ≡ true)

abbrev Leads : List Meaning → List Meaning → Type 0
Leads ms r = Behind ms r × (DueHere ms → DueHere r)

-- a dictionary that fits where a value is due begins with a key
pairs_fit : (due : Due) (around : List Due) (n : Option ℕ) (ms : List Meaning) → Awaits due around → fits_from due around (dictionary n ∷ ms) ≡ true → fits_from Key (after_of due ∷ around) ms ≡ true
unfolding turn_of unless_key
pairs_fit Root around n ms a e = (fits_open Root around (dictionary n) ms Key refl e).1
pairs_fit Element around n ms a e = absurd a
pairs_fit Key around n ms a e = absurd a
pairs_fit Value around n ms a e = (fits_open Value around (dictionary n) ms Key refl e).1
pairs_fit Nothing around n ms a e = absurd a

into_leads : (key : List ℕ) (ms r : List Meaning) → into key ms ≡ Some r → Leads ms r
unfolding into
into_leads key [] r e = absurd (not_some r e)
into_leads key (dictionary n ∷ ms) r e =
    let i = under_is (length ms) key ms r e in (
      (dictionary n ∷ i.0.0, ap (λ (l : List Meaning). dictionary n ∷ l) i.0.1),
      λ h. (Value, after_of h.0 ∷ h.1, tt, i.1 (after_of h.0 ∷ h.1) (pairs_fit h.0 h.1 n ms h.2 h.3)),
    )
into_leads key (array n ∷ ms) r e = absurd (not_some r e)
into_leads key (close ∷ ms) r e = absurd (not_some r e)
into_leads key (boolean b ∷ ms) r e = absurd (not_some r e)
into_leads key (bytes s ∷ ms) r e = absurd (not_some r e)
into_leads key (date b ∷ ms) r e = absurd (not_some r e)
into_leads key (integer z ∷ ms) r e = absurd (not_some r e)
into_leads key (real b ∷ ms) r e = absurd (not_some r e)
into_leads key (text s ∷ ms) r e = absurd (not_some r e)
into_leads key (uid n ∷ ms) r e = absurd (not_some r e)

-- what is found stands among the events, where a value is due
path_leads : (keys : List (List ℕ)) (ms r : List Meaning) → from_path keys ms ≡ Some r → Leads ms r
unfolding from_path
path_leads [] ms r e = let z : ms ≡ r = cc in (([], z), λ h. rw (← z) h)
path_leads (key ∷ keys) ms r e = go (into key ms) refl (λ l. path_leads keys l r)
  where
    go : (o : Option (List Meaning)) → into key ms ≡ o → ((l : List Meaning) → from_path keys l ≡ Some r → Leads l r) → Leads ms r
    go None f ih = absurd (not_some r (rw (f, from_path) at e))
    go (Some l) f ih =
        let i = ih l (rw (f, from_path) at e) in
        let j = into_leads key ms l f in (
          (j.0.0 ++ i.0.0, j.0.1 ∙ ap (λ (x : List Meaning). j.0.0 ++ x) i.0.1 ∙ sym (append_assoc j.0.0 i.0.0 r)),
          λ h. i.1 (j.1 h),
        )

all_right : (ms ns : List Meaning) → AllOnTape (ms ++ ns) → AllOnTape ns
all_right [] ns h = h
all_right (m ∷ ms) ns h = all_right ms ns h.1

all_left : (ms ns : List Meaning) → AllOnTape (ms ++ ns) → AllOnTape ms
all_left [] ns h = tt
all_left (m ∷ ms) ns h = (h.0, all_left ms ns h.1)

-- the part of a tape that events behind others begin with
record PartAt (tape : List ℕ) (r : List Meaning) : Type 0 where
  within : length tape - length (tape_of r) + length (tape_of (value_from 0 r)) ≤ length tape
  means : events_of (part tape (length tape - length (tape_of r)) (length (tape_of (value_from 0 r)))) ≡ whole (value_from 0 r)

part_is : (tape : List ℕ) (ms r : List Meaning) → Rest tape 0 ms → Behind ms r → PartAt tape r
part_is tape ms r rest b =
    let p = b.0 in
    let v = value_from 0 r in
    let t : tape ≡ tape_of p ++ tape_of r = rest.is ∙ ap tape_of b.1 ∙ tape_append p r in
    let l : length tape ≡ length (tape_of p) + length (tape_of r) = ap length t ∙ length-append (tape_of p) (tape_of r) in
    let s : tape_of v ++ tape_of (behind 0 r) ≡ tape_of r = value_tape 0 r in
    let k : length (tape_of v) + length (tape_of (behind 0 r)) ≡ length (tape_of r) = sym (length-append (tape_of v) (tape_of (behind 0 r))) ∙ ap length s in
    let d : drop (length tape - length (tape_of r)) tape ≡ tape_of r = ap (drop (length tape - length (tape_of r))) t ∙ drop_at (tape_of p) (tape_of r) (length tape - length (tape_of r)) (omega (arith, l)) in
    let e : part tape (length tape - length (tape_of r)) (length (tape_of v)) ≡ tape_of v = ap (take (length (tape_of v))) (d ∙ sym s) ∙ take_at (tape_of v) (tape_of (behind 0 r)) (length (tape_of v)) refl in
    let held : AllOnTape r = all_right p r (rw b.1 at rest.held) in
    let own : AllOnTape v = all_left v (behind 0 r) (rw (value_split 0 r) held) in
    record { within = omega (arith, l, k); means = ap events_of e ∙ tape_whole v own }

-- Where a part is found, the path is one, the value under it is there, and the part, read as a tape, has exactly its events; and the part is
-- a complete tape, which the check accepts
pub record Holds (tape path : List ℕ) (start n : ℕ) : Type 0 where
  pub keys : List (List ℕ)
  pub value : List Meaning
  pub known : keys_of path ≡ Some keys
  pub is : value_at keys (meanings_in tape) ≡ Some value
  pub means : events_of (part tape start n) ≡ whole value
  pub within : start + n ≤ length tape
  pub complete : check_of (part tape start n) ≡ check.whole (length value)

apart : (start n number place : ℕ) (kinds : List _) → refused number kinds place ≡ found start n → ⊥
apart start n number place kinds e = let z : ◌≡◌ {A = ℕ} 0 1 = cc in omega arith

-- the events of a checked tape are a value's from the first on, and the tape is not too long
checked_due : (tape : List ℕ) (n : ℕ) → check_of tape ≡ check.whole n → DueHere (meanings_in tape)
unfolding meanings_in meant_by
checked_due tape n ok = let w = check_whole tape n ok in (Root, [], refl, rw w.events w.fits)

complete_part : (tape : List ℕ) (n : ℕ) (r : List Meaning) (start size : ℕ) → check_of tape ≡ check.whole n → DueHere r → start + size ≤ length tape → events_of (part tape start size) ≡ whole (value_from 0 r) → check_of (part tape start size) ≡ check.whole (length (value_from 0 r))
complete_part tape n r start size ok h inside means =
    fits_check (part tape start size) (value_from 0 r) (omega (arith, length_part tape start size inside, inside, (check_whole tape n ok).short)) means (value_fits h.0 h.1 r h.2 h.3).0

module _ (tape path : List ℕ) (good : Bytes tape) where
  pub found_value : (start n : ℕ) → find_of tape path ≡ found start n → Holds tape path start n
  unfolding find_of by_check by_path placed value_at first_of
  found_value start n e = checked (check_of tape) refl e
    where
      at : (k : ℕ) → check_of tape ≡ check.whole k → (keys : List (List ℕ)) → keys_of path ≡ Some keys → (o : Option (List Meaning)) → from_path keys (meanings_in tape) ≡ o → placed tape o ≡ found start n → Holds tape path start n
      at k ok keys f None g h = let z : ◌≡◌ {A = ℕ} 0 1 = cc in absurd (omega arith)
      at k ok keys f (Some r) g h =
          let l = path_leads keys (meanings_in tape) r g in
          let p = part_is tape (meanings_in tape) r (check_rest tape k good ok) l.0 in
          let a : length tape - length (tape_of r) ≡ start = cc in
          let b : length (tape_of (value_from 0 r)) ≡ n = cc in
          let means : events_of (part tape start n) ≡ whole (value_from 0 r) = rw (a, b) at p.means in
          let inside : start + n ≤ length tape = rw (a, b) at p.within in
          record { keys = keys; value = value_from 0 r; known = f; is = rw g; means = means; within = inside; complete = complete_part tape k r start n ok (l.1 (checked_due tape k ok)) inside means }

      by : (k : ℕ) → check_of tape ≡ check.whole k → (o : Option (List (List ℕ))) → keys_of path ≡ o → by_path tape o (meanings_in tape) ≡ found start n → Holds tape path start n
      by k ok None f h = absurd (apart start n 33 0 [] h)
      by k ok (Some keys) f h = at k ok keys f (from_path keys (meanings_in tape)) refl h

      checked : (c : check.Said) → check_of tape ≡ c → by_check c tape (keys_of path) ≡ found start n → Holds tape path start n
      checked (check.refused number kinds place) f h = absurd (apart start n number place kinds h)
      checked (check.whole k) f h = by k f (keys_of path) refl h

not_none : (v : List Meaning) → Some v ≡ None → ⊥
not_none v e = let z : ◌≡◌ {A = ℕ} 0 1 = cc in omega arith

-- where nothing is found, the path is one, and there is no value under it
module _ (tape path : List ℕ) where
  pub none_value : find_of tape path ≡ not_found → (keys : List (List ℕ)) × (keys_of path ≡ Some keys) × (value_at keys (meanings_in tape) ≡ None)
  unfolding find_of by_check by_path placed value_at first_of
  none_value e = checked (check_of tape) e
    where
      at : (keys : List (List ℕ)) → keys_of path ≡ Some keys → (o : Option (List Meaning)) → from_path keys (meanings_in tape) ≡ o → placed tape o ≡ not_found → (ks : List (List ℕ)) × (keys_of path ≡ Some ks) × (value_at ks (meanings_in tape) ≡ None)
      at keys f None g h = (keys, f, rw g)
      at keys f (Some r) g h = let z : ◌≡◌ {A = ℕ} 0 1 = cc in absurd (omega arith)

      by : (o : Option (List (List ℕ))) → keys_of path ≡ o → by_path tape o (meanings_in tape) ≡ not_found → (ks : List (List ℕ)) × (keys_of path ≡ Some ks) × (value_at ks (meanings_in tape) ≡ None)
      by None f h = let z : ◌≡◌ {A = ℕ} 0 1 = cc in absurd (omega arith)
      by (Some keys) f h = at keys f (from_path keys (meanings_in tape)) refl h

      checked : (c : check.Said) → by_check c tape (keys_of path) ≡ not_found → (ks : List (List ℕ)) × (keys_of path ≡ Some ks) × (value_at ks (meanings_in tape) ≡ None)
      checked (check.refused number kinds place) h = let z : ◌≡◌ {A = ℕ} 0 1 = cc in absurd (omega arith)
      checked (check.whole k) h = by (keys_of path) refl h

  -- the other way, on a tape that is one whole root
  module _ (n : ℕ) (ok : check_of tape ≡ check.whole n) (keys : List (List ℕ)) (known : keys_of path ≡ Some keys) where
    goes : find_of tape path ≡ placed tape (from_path keys (meanings_in tape))
    unfolding find_of by_check by_path
    goes = rw (ok, by_check, known)

    pub value_none : value_at keys (meanings_in tape) ≡ None → find_of tape path ≡ not_found
    unfolding placed value_at first_of
    value_none e = goes ∙ go (from_path keys (meanings_in tape)) e
      where
        go : (o : Option (List Meaning)) → first_of o ≡ None → placed tape o ≡ not_found
        go None f = refl
        go (Some r) f = absurd (not_none _ f)

    pub value_found : (v : List Meaning) → value_at keys (meanings_in tape) ≡ Some v → (start : ℕ) × (size : ℕ) × (find_of tape path ≡ found start size)
    unfolding placed value_at first_of
    value_found v e = go (from_path keys (meanings_in tape)) goes e
      where
        go : (o : Option (List Meaning)) → find_of tape path ≡ placed tape o → first_of o ≡ Some v → (start : ℕ) × (size : ℕ) × (find_of tape path ≡ found start size)
        go None f g = absurd (not_none v (sym g))
        go (Some r) f g = (_, _, f)

-- THE PART of a value, as `find_part` hands it out, is a complete tape: it can be looked into again, or written
pub part_complete : (tape path : List ℕ) (start n : ℕ) → Bytes tape → find_of tape path ≡ found start n → (k : ℕ) × (check_of (part_of tape path) ≡ check.whole k)
unfolding part_of part_by
part_complete tape path start n good e = let h = found_value tape path good start n e in (length h.value, rw (e, part_by) h.complete)
