-- A tape that is whole, and whose file is not too long, is accepted. Where the writer answers with a length that is so, and the file is in the output.
use Rattle.std.specs.Prelude.{Bool, true, false, cond, List, [], ◌↔◌, ◌≡◌, refl, ℕ, ◌≤◌, ltb, length}
use Rattle.std.proofs.Common.{sym, ◌∙◌, arith, ltb-false}
use Rattle.std.proofs.lemmas.List.Edits.{sets}
use Rattle.number.specs.BeLaws.{Bytes}
use Rattle.event.specs.Format.{max_length}
use Rattle.tape.specs.Events.{whole, events_of, meanings_in}
use Rattle.tape.proofs.EventsLaws.{whole_is}
use Rattle.grammar.specs.Check.{check_of}
use Rattle.grammar.specs.FitsLaws.{fits_check}
use Rattle.grammar.specs.Said as check
use Rattle.grammar.specs.declared.answer.EventKind.{EventKind}
use Rattle.written.specs.File.{file_for}
use Rattle.writer.specs.CheckLaws.{fits_is, ready_of}
use Rattle.writer.specs.Ready.{pieces_in}
use Rattle.writer.specs.Write.{long, refused, words_for, fitted_of, by_check, write_of, output_by, output_of}
use Rattle.written_claims.specs.Accepted.{Accepted}

pub accepted_of : (t : List ℕ) (n : ℕ) → Bytes t → check_of t ≡ check.whole n → length (file_for (meanings_in t)) ≤ max_length → Accepted (meanings_in t)
unfolding pieces_in
accepted_of t n b e h =
    let r = ready_of t n b e in
    record { held = (whole_is t (meanings_in t) b r.events).0; one = r.shaped; short = h }

-- ACCEPTED, exactly where the check finds the tape whole and the file is not too long
pub accepted_exactly : (t : List ℕ) → Bytes t
    → (Accepted (meanings_in t) × (events_of t ≡ whole (meanings_in t)) × (length t ≤ max_length)) ↔ ((check_of t ≡ check.whole (length (meanings_in t))) × (length (file_for (meanings_in t)) ≤ max_length))
accepted_exactly t b = (
  (λ a. (fits_check t (meanings_in t) a.2 a.1 (fits_is (meanings_in t) ∙ a.0.one), a.0.short)),
  (λ c.
      let r = ready_of t (length (meanings_in t)) b c.0 in
      (accepted_of t (length (meanings_in t)) b c.0 c.1, r.events, r.short)),
)

-- what a length that is answered says of a file and the room for it
pub record Fitted (file : List ℕ) (room k : ℕ) : Type 0 where
  pub short : length file ≤ max_length
  pub within : k ≤ room
  pub is : k ≡ length file

apart : {A : Type 0} {k number place : ℕ} {kinds : List EventKind} → refused number kinds place ≡ long k → A
apart e = let z : ◌≡◌ {A = ℕ} 0 1 = cc in absurd (omega arith)

fitted_of_law : (file : List ℕ) (room k : ℕ) → fitted_of file room ≡ long k → Fitted file room k
unfolding fitted_of
fitted_of_law file room k = go (ltb max_length (length file)) (ltb room (length file)) refl refl
  where
    go : (b c : Bool) → ltb max_length (length file) ≡ b → ltb room (length file) ≡ c
        → cond b (refused 26 [] 0) (cond c (refused 25 [] 0) (long (length file))) ≡ long k → Fitted file room k
    go true c f g e = apart e
    go false true f g e = apart e
    go false false f g e =
        let q : length file ≡ k = cc in
        let r : length file ≤ room = ltb-false room (length file) g in
        record { short = ltb-false max_length (length file) f; within = omega arith; is = sym q }

-- what it says of a check, the words and the room
checked_long : (said : check.Said) (file : List ℕ) (words room k : ℕ) → by_check said file words room ≡ long k → (n : ℕ) × (said ≡ check.whole n) × Fitted file room k
unfolding by_check
checked_long (check.refused number kinds place) file words room k e = apart e
checked_long (check.whole n) file words room k e = go (ltb words (words_for n)) e
  where
    go : (b : Bool) → cond b (refused 24 [] 0) (fitted_of file room) ≡ long k → (m : ℕ) × (check.whole n ≡ check.whole m) × Fitted file room k
    go true e = apart e
    go false e = (n, refl, fitted_of_law file room k e)

-- what it says of a tape: how many events the check counts, that they are accepted, and the file
pub record Writes (t : List ℕ) (words : ℕ) (out : List ℕ) (k : ℕ) : Type 0 where
  pub count : ℕ
  pub checked : check_of t ≡ check.whole count
  pub accepted : Accepted (meanings_in t)
  pub is : k ≡ length (file_for (meanings_in t))
  pub within : k ≤ length out
  pub output : output_of t words out ≡ sets out 0 (file_for (meanings_in t))

pub accepts : (t : List ℕ) (words : ℕ) (out : List ℕ) (k : ℕ) → Bytes t → write_of t words (length out) ≡ long k → Writes t words out k
unfolding write_of output_of output_by
accepts t words out k b e =
    let x = checked_long (check_of t) (file_for (meanings_in t)) words (length out) k e in
    let y = x.2 in
    record { count = x.0; checked = x.1; accepted = accepted_of t x.0 b x.1 y.short; is = y.is; within = y.within; output = rw e }
