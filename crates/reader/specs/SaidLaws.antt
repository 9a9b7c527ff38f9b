-- Two answers that say the same are the same.
use Rattle.std.specs.Prelude.{true, cond, List, ◌≡◌, refl, ℕ, eqb}
use Rattle.std.proofs.Common.{sym, ap, ◌∙◌}
use Rattle.number.specs.Among.{among}
use Rattle.object.specs.Refusal.{object_refusals}
use Rattle.layout.specs.Refusals.{look_refusals, file_refusals}
use Rattle.layout.specs.SaidLaws.{refusal_from as file_from, again as file_again, number_listed as file-listed}
use Rattle.reader.specs.Machine.{Said, event, ended, refused, Step}
use Rattle.reader.specs.Refusals.{step_refusals, read_refusals, read_refusal}
use Rattle.reader.specs.Request.{TextSaid, long, refusing}
use Rattle.reader.specs.Said.{number_of, values_of, said, step_said, text_said}
use Rattle.reader.specs.declared.answer.Answer.{Answer}
use Rattle.reader.specs.declared.answer.Answer.TheVariants.{Handed, Ended, Refused}
use Rattle.reader.specs.declared.answer.Stepped.{Stepped}
use Rattle.reader.specs.declared.refusal.Refusal.{Refusal}
use Rattle.reader.specs.declared.refusal.Refusal.TheVariants.{File, RecursiveObject, TooDeep, NoRoomForText, WrongFile}
use Rattle.reader.specs.declared.request.TextLength.{TextLength}
use Rattle.reader.specs.declared.request.TextLength.TheVariants.{Length}
use Rattle.reader.specs.declared.request.TextLength.TheVariants as text

-- the refusal of a number and values
pub refusal_from : ℕ → List ℕ → Refusal
refusal_from number values =
    cond (among file_refusals number) (File (file_from number values))
    (cond (eqb number 14) RecursiveObject
    (cond (eqb number 15) TooDeep
    (cond (eqb number 16) NoRoomForText WrongFile)))

pub again : (r : Refusal) → refusal_from (number_of r) (values_of r) ≡ r
unfolding number_of values_of refusal_from among file_refusals look_refusals object_refusals
again (File r) = rw (file-listed r) (ap File (file_again r))
again RecursiveObject = refl
again TooDeep = refl
again NoRoomForText = refl
again WrongFile = refl

-- a refusal's number is of a reader's
pub number_listed : (r : Refusal) → among read_refusals (number_of r) ≡ true
unfolding among read_refusals step_refusals number_of
number_listed (File r) = read_refusal _ (file-listed r)
number_listed RecursiveObject = refl
number_listed TooDeep = refl
number_listed NoRoomForText = refl
number_listed WrongFile = refl

-- the answer that says this
answer_from : Said → Answer
answer_from (event r) = Handed r
answer_from ended = Ended
answer_from (refused number values place) = Refused (refusal_from number values) place

answer_again : (x : Answer) → answer_from (said x) ≡ x
unfolding said answer_from
answer_again (Handed r) = refl
answer_again Ended = refl
answer_again (Refused r place) = ap (λ (x : Refusal). Refused x place) (again r)

pub said_one : (x y : Answer) → said x ≡ said y → x ≡ y
said_one x y e = sym (answer_again x) ∙ ap answer_from e ∙ answer_again y

pub step_said_one : (x y : Stepped) → step_said x ≡ step_said y → x ≡ y
unfolding step_said
step_said_one x y e =
    let s : x.reader ≡ y.reader = ap (λ (z : Step). z.state) e in
    let a : x.answer ≡ y.answer = said_one x.answer y.answer (ap (λ (z : Step). z.answer) e) in
    rw (s, a)

length_from : TextSaid → TextLength
length_from (long n) = Length n
length_from (refusing number values place) = text.Refused (refusal_from number values) place

length_again : (x : TextLength) → length_from (text_said x) ≡ x
unfolding text_said length_from
length_again (Length n) = refl
length_again (text.Refused r place) = ap (λ (x : Refusal). text.Refused x place) (again r)

pub text_said_one : (x y : TextLength) → text_said x ≡ text_said y → x ≡ y
text_said_one x y e = sym (length_again x) ∙ ap length_from e ∙ length_again y
