-- Two endings that say the same are the same, and none says 20.
use Rattle.std.specs.Prelude.{Err, false, cond, List, ◌≡◌, refl, ℕ, eqb}
use Rattle.std.proofs.Common.{sym, ap, ◌∙◌, arith, ne_eqb}
use Rattle.number.specs.Among.{among, among_not}
use Rattle.reader.specs.Refusals.{read_refusals, not_step_20, not_step_27}
use Rattle.reader.specs.Said.{number_of}
use Rattle.reader.specs.SaidLaws.{refusal_from, again, number_listed}
use Rattle.reader.specs.declared.refusal.Refusal.{Refusal}
use Rattle.transcribe.specs.Run.{End, ended, stopped, refused, end_of}
use Rattle.transcribe.specs.Said.{end_said, fail_said, walked_said}
use Rattle.transcribe.specs.declared.note.Failure.{Failure}
use Rattle.transcribe.specs.declared.note.Failure.TheVariants as failure
use Rattle.transcribe.specs.declared.Ending.{Ending}
use Rattle.transcribe.specs.declared.Ending.TheVariants.{Ended, Stopped, Refused, NoRoomForTape}

-- the ending that says this: 27 is the tape's
ending_from : End → Ending
ending_from ended = Ended
ending_from stopped = Stopped
ending_from (refused number values place) =
    cond (eqb number 27) (NoRoomForTape place) (Refused (refusal_from number values) place)

-- which is no number of the reader's, nor is 20
not_read_20 : among read_refusals 20 ≡ false
unfolding read_refusals among
not_read_20 = not_step_20

not_read_27 : among read_refusals 27 ≡ false
unfolding read_refusals among
not_read_27 = not_step_27

other : (r : Refusal) (n : ℕ) → among read_refusals n ≡ false → number_of r ≡ n → ⊥
other r n h = among_not read_refusals (number_of r) n (number_listed r) h

ending_again : (x : Ending) → ending_from (end_said x) ≡ x
unfolding end_said ending_from
ending_again Ended = refl
ending_again Stopped = refl
ending_again (Refused r place) = rw (ne_eqb (number_of r) 27 (other r 27 not_read_27)) (ap (λ (q : Refusal). Refused q place) (again r))
ending_again (NoRoomForTape place) = refl

pub end_said_one : (x y : Ending) → end_said x ≡ end_said y → x ≡ y
end_said_one x y e = sym (ending_again x) ∙ ap ending_from e ∙ ending_again y

-- the ending where an event is not noted
pub walked_failed : (f : Failure) → walked_said (Err f) ≡ end_of (fail_said f)
unfolding walked_said fail_said end_of
walked_failed (failure.Refused r p) = refl
walked_failed (failure.NoRoomForTape p) = refl

-- 20, an event that the tape doesn't take, is no ending's: not of any file, nor of anything lent
pub never_bad_event : (x : Ending) (values : List ℕ) (place : ℕ) → end_said x ≡ refused 20 values place → ⊥
unfolding end_said
never_bad_event Ended values place e = let z : ◌≡◌ {A = ℕ} 0 1 = cc in omega arith
never_bad_event Stopped values place e = let z : ◌≡◌ {A = ℕ} 0 1 = cc in omega arith
never_bad_event (Refused r p) values place e = other r 20 not_read_20 cc
never_bad_event (NoRoomForTape p) values place e = let z : ◌≡◌ {A = ℕ} 27 20 = cc in omega arith
