-- Two answers that say the same are the same.
use Rattle.std.specs.Prelude.{cond, List, ◌≡◌, refl, ℕ, eqb, get_or}
use Rattle.std.proofs.Common.{sym, ap, ◌∙◌}
use Rattle.grammar.specs.Said.{Said, whole, refused, number_of, kinds_of, refused_at, checked_said}
use Rattle.grammar.specs.declared.answer.Checked.{Checked}
use Rattle.grammar.specs.declared.answer.Checked.TheVariants.{Whole, Refused}
use Rattle.grammar.specs.declared.answer.EventKind.{EventKind}
use Rattle.grammar.specs.declared.answer.EventKind.TheVariants.{EndCollection}
use Rattle.grammar.specs.declared.answer.Refusal.{Refusal}
use Rattle.grammar.specs.declared.answer.Refusal.TheVariants.{TooLong, TooDeep, BadTape, UnexpectedEventType, IncompleteRoot, TrailingEvents}

-- the refusal of a number and kinds
refusal_from : ℕ → List EventKind → Refusal
refusal_from n kinds =
    cond (eqb n 1) TooLong
    (cond (eqb n 15) TooDeep
    (cond (eqb n 20) BadTape
    (cond (eqb n 21) (UnexpectedEventType (get_or kinds 0 EndCollection) (get_or kinds 1 EndCollection))
    (cond (eqb n 22) IncompleteRoot
    TrailingEvents))))

again : (r : Refusal) → refusal_from (number_of r) (kinds_of r) ≡ r
unfolding number_of kinds_of refusal_from
again TooLong = refl
again TooDeep = refl
again BadTape = refl
again (UnexpectedEventType expected found) = refl
again IncompleteRoot = refl
again TrailingEvents = refl

-- the answer that says this
answer_from : Said → Checked
answer_from (whole n) = Whole n
answer_from (refused n kinds place) = Refused (refusal_from n kinds) place

answer_again : (x : Checked) → answer_from (checked_said x) ≡ x
unfolding checked_said refused_at answer_from
answer_again (Whole n) = refl
answer_again (Refused r place) = ap (λ (x : Refusal). Refused x place) (again r)

pub checked_said_one : (x y : Checked) → checked_said x ≡ checked_said y → x ≡ y
checked_said_one x y e = sym (answer_again x) ∙ ap answer_from e ∙ answer_again y
