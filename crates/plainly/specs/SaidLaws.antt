-- Two endings that say the same are the same.
use Rattle.std.specs.Prelude.{cond, ◌≡◌, refl, eqb}
use Rattle.std.proofs.Common.{sym, ap, ◌∙◌, ne_eqb}
use Rattle.number.specs.Among.{among, among_not}
use Rattle.object.specs.Refusal.{object_refusals}
use Rattle.layout.specs.Refusals.{look_refusals, file_refusals}
use Rattle.reader.specs.Refusals.{step_refusals, read_refusals}
use Rattle.reader.specs.Said.{number_of}
use Rattle.reader.specs.SaidLaws.{refusal_from, again, number_listed}
use Rattle.reader.specs.declared.refusal.Refusal.{Refusal}
use Rattle.plainly.specs.Plain.{Last, whole, stopped}
use Rattle.plainly.specs.Said.{ending_said}
use Rattle.plainly.specs.declared.Ending.{Ending}
use Rattle.plainly.specs.declared.Ending.TheVariants.{Ended, Refused, OverBudget, NoRoomForTape}

-- the ending that says this: 37 is the budget's, 27 the tape's
ending_from : Last → Ending
ending_from whole = Ended
ending_from (stopped number values place) =
    cond (eqb number 37) OverBudget (cond (eqb number 27) (NoRoomForTape place) (Refused (refusal_from number values) place))

-- neither is a number of the reader's
not_37 : (r : Refusal) → number_of r ≡ 37 → ⊥
unfolding read_refusals step_refusals file_refusals look_refusals object_refusals among
not_37 r = among_not read_refusals (number_of r) 37 (number_listed r) refl

not_27 : (r : Refusal) → number_of r ≡ 27 → ⊥
unfolding read_refusals step_refusals file_refusals look_refusals object_refusals among
not_27 r = among_not read_refusals (number_of r) 27 (number_listed r) refl

ending_again : (x : Ending) → ending_from (ending_said x) ≡ x
unfolding ending_said ending_from
ending_again Ended = refl
ending_again (Refused r place) = rw (ne_eqb (number_of r) 37 (not_37 r), ne_eqb (number_of r) 27 (not_27 r)) (ap (λ (q : Refusal). Refused q place) (again r))
ending_again OverBudget = refl
ending_again (NoRoomForTape place) = refl

pub ending_said_one : (x y : Ending) → ending_said x ≡ ending_said y → x ≡ y
ending_said_one x y e = sym (ending_again x) ∙ ap ending_from e ∙ ending_again y
