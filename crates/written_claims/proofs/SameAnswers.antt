-- Given lengths change no answer of the writer but places on the tape: two tapes whose events are the same but for given lengths get the same answer,
-- each with its own tape's places.
use Rattle.std.specs.Prelude.{Bool, true, false, List, [], map, ◌≡◌, refl, ℕ, ◌≤◌, ◌<◌, length}
use Rattle.std.proofs.Common.{sym, ◌∙◌, arith, lit<}
use Rattle.std.proofs.Math.Path.{ap}
use Rattle.number.specs.BeLaws.{Bytes}
use Rattle.event.specs.Format.{max_length}
use Rattle.event.specs.Meaning.{Meaning}
use Rattle.event.specs.Unmeasured.{unmeasured}
use Rattle.tape.specs.Events.{Events, whole, broken, events_of, meant_by, meanings_in, start_at}
use Rattle.grammar.specs.Check.{check_of}
use Rattle.grammar.specs.MoreLaws.{stops_least}
use Rattle.grammar.specs.Said.{number_of, kinds_of, refused_at}
use Rattle.grammar.specs.Verdict.{Verdict, passes, unfinished, stops, judge_from, judge, said_by}
use Rattle.grammar.specs.VerdictLaws.{check_judged, judge_unmeasured}
use Rattle.grammar.specs.declared.answer.EventKind.{EventKind}
use Rattle.grammar.specs.declared.answer.Refusal.{Refusal}
use Rattle.grammar.specs.declared.answer.Refusal.TheVariants.{TooLong, TooDeep, BadTape, UnexpectedEventType, IncompleteRoot, TrailingEvents}
use Rattle.grammar.specs.declared.turn.Due.{Due}
use Rattle.written.specs.File.{file_for}
use Rattle.written.specs.Graph.{piece_of}
use Rattle.writer.specs.Write.{Said, long, refused, by_check, write_of}
use Rattle.written_claims.proofs.Same.{pieces_unmeasured, file_same}

-- the same but for given lengths, and both whole or both bad behind them
abbrev pub Alike : Events → Events → Type 0
Alike (whole ms) (whole ns) = map unmeasured ms ≡ map unmeasured ns
Alike (whole ms) (broken ns place) = ⊥
Alike (broken ms place) (whole ns) = ⊥
Alike (broken ms place) (broken ns other) = map unmeasured ms ≡ map unmeasured ns

judge_same : (bad : Bool) (due : Due) (around : List Due) (ms ns : List Meaning) → map unmeasured ms ≡ map unmeasured ns → judge_from bad due around ms ≡ judge_from bad due around ns
judge_same bad due around ms ns e = sym (judge_unmeasured bad due around ms) ∙ ap (judge_from bad due around) e ∙ judge_unmeasured bad due around ns

pub same_verdict : (es fs : Events) → Alike es fs → judge es ≡ judge fs
unfolding judge
same_verdict (whole ms) (whole ns) e = judge_same false _ _ ms ns e
same_verdict (whole ms) (broken ns place) e = absurd e
same_verdict (broken ms place) (whole ns) e = absurd e
same_verdict (broken ms place) (broken ns other) e = judge_same true _ _ ms ns e

same_meant : (es fs : Events) → Alike es fs → map unmeasured (meant_by es) ≡ map unmeasured (meant_by fs)
unfolding meant_by
same_meant (whole ms) (whole ns) e = e
same_meant (whole ms) (broken ns place) e = absurd e
same_meant (broken ms place) (whole ns) e = absurd e
same_meant (broken ms place) (broken ns other) e = e

-- two answers: the same; or the same refusal at the same event (behind them all: at what is none), or at the end, each by its own tape's places
pub data SameAnswer (s t : List ℕ) (x y : Said) : Type 0 where
  equal : x ≡ y → SameAnswer s t x y
  at_event : (i : ℕ) (r : Refusal) → i ≤ length (meanings_in s) → x ≡ refused (number_of r) (kinds_of r) (start_at s i) → y ≡ refused (number_of r) (kinds_of r) (start_at t i) → SameAnswer s t x y
  at_end : x ≡ refused 22 [] (length s) → y ≡ refused 22 [] (length t) → SameAnswer s t x y

-- what the writer answers to a tape that is not too long (1)
pub answered : (t : List ℕ) → Bytes t → length t ≤ max_length → (words room : ℕ) (v : Verdict) → judge (events_of t) ≡ v → write_of t words room ≡ by_check (said_by 0 (length t) (start_at t) v) (file_for (meanings_in t)) words room
unfolding write_of
answered t good short words room v e = rw (check_judged t good short, e)

-- one verdict on both, and one file
by_verdict : (s t : List ℕ) (v : Verdict) (file : List ℕ) (words room : ℕ) → ((i : ℕ) (r : Refusal) → v ≡ stops i r → i ≤ length (meanings_in s))
    → SameAnswer s t (by_check (said_by 0 (length s) (start_at s) v) file words room) (by_check (said_by 0 (length t) (start_at t) v) file words room)
unfolding said_by by_check refused_at number_of kinds_of
by_verdict s t (passes n) file words room h = equal refl
by_verdict s t unfinished file words room h = at_end refl refl
by_verdict s t (stops i r) file words room h = at_event i r (h i r refl) refl refl

-- the tape's refusals have numbers below 24
number_low : (r : Refusal) → number_of r < 24
unfolding number_of
number_low TooLong = lit< tt
number_low TooDeep = lit< tt
number_low BadTape = lit< tt
number_low (UnexpectedEventType expected found) = lit< tt
number_low IncompleteRoot = lit< tt
number_low TrailingEvents = lit< tt

abbrev number_in : Said → ℕ
number_in (long n) = 0
number_in (refused number kinds place) = number

-- two tapes that are not too long (1), and are bad (20) at the same event or nowhere
module _ (s t : List ℕ) (bs : Bytes s) (bt : Bytes t) (ls : length s ≤ max_length) (lt : length t ≤ max_length) (alike : Alike (events_of s) (events_of t)) where
  -- the check says the same of both, each by its own tape's places
  pub same_check : (v : Verdict) × (check_of s ≡ said_by 0 (length s) (start_at s) v) × (check_of t ≡ said_by 0 (length t) (start_at t) v)
  same_check = (judge (events_of s), check_judged s bs ls, rw (same_verdict (events_of s) (events_of t) alike) (check_judged t bt lt))

  pub same_written : file_for (meanings_in s) ≡ file_for (meanings_in t)
  unfolding meanings_in
  same_written =
      let m = meanings_in s in
      let n = meanings_in t in
      file_same m n (sym (pieces_unmeasured m) ∙ ap (map piece_of) (same_meant (events_of s) (events_of t) alike) ∙ pieces_unmeasured n)

  -- and the writer answers the same, for any words and room
  pub same_answer : (words room : ℕ) → SameAnswer s t (write_of s words room) (write_of t words room)
  same_answer words room =
      let v = judge (events_of s) in
      rw (answered s bs ls words room v refl, answered t bt lt words room v (sym (same_verdict (events_of s) (events_of t) alike)), ← same_written)
      (by_verdict s t v (file_for (meanings_in s)) words room (stops_least s))

  -- 24, 25 and 26 whole
  pub same_room : (words room number place : ℕ) (kinds : List EventKind) → 23 < number → write_of s words room ≡ refused number kinds place → write_of t words room ≡ refused number kinds place
  same_room words room number place kinds h e = go (same_answer words room)
    where
      go : SameAnswer s t (write_of s words room) (write_of t words room) → write_of t words room ≡ refused number kinds place
      go (equal q) = sym q ∙ e
      go (at_event i r l x y) = let z : number ≡ number_of r = ap number_in (sym e ∙ x) in absurd (omega (arith, number_low r))
      go (at_end x y) = let z : number ≡ 22 = ap number_in (sym e ∙ x) in absurd (omega arith)

  -- a file's length too
  pub same_length : (words room k : ℕ) → write_of s words room ≡ long k → write_of t words room ≡ long k
  same_length words room k e = go (same_answer words room)
    where
      apart : {number place : ℕ} {kinds : List EventKind} → long k ≡ refused number kinds place → ⊥
      apart q = let z : ◌≡◌ {A = ℕ} 0 1 = cc in omega arith

      go : SameAnswer s t (write_of s words room) (write_of t words room) → write_of t words room ≡ long k
      go (equal q) = sym q ∙ e
      go (at_event i r l x y) = absurd (apart (sym e ∙ x))
      go (at_end x y) = absurd (apart (sym e ∙ x))
