-- The code's answers are fixed by what they say.
use Rattle.std.specs.Prelude.{Result, Ok, Err, List, ◌≡◌, refl, ℕ, ◌<◌}
use Rattle.std.proofs.Common.{sym, ap, arith, lit<}
use Rattle.grammar.specs.Said.{number_of, refused_at, checked_said}
use Rattle.grammar.specs.Said as check
use Rattle.grammar.specs.SaidLaws.{checked_said_one}
use Rattle.grammar.specs.declared.answer.Checked.{Checked}
use Rattle.grammar.specs.declared.answer.Checked.TheVariants as checked
use Rattle.grammar.specs.declared.answer.EventKind.{EventKind}
use Rattle.grammar.specs.declared.answer.Refusal.{Refusal}
use Rattle.grammar.specs.declared.answer.Refusal.TheVariants.{TooLong, TooDeep, BadTape, UnexpectedEventType, IncompleteRoot, TrailingEvents}
use Rattle.writer.specs.Write as file
use Rattle.writer.specs.Write.{written_said}
use Rattle.writer.specs.WriteLaws.{written_said_one}
use Rattle.writer.specs.declared.answer.WriteError.{WriteError}
use Rattle.writer.specs.declared.answer.WriteError.TheVariants as written
use Rattle.builder.specs.Build.{Said, holds, refused, answer_said}
use Rattle.builder.specs.Finish.{finished_said}
use Rattle.builder.specs.declared.answer.BuildError.{BuildError}
use Rattle.builder.specs.declared.answer.BuildError.TheVariants.{Refused, NoRoom, TapeShrank}
use Rattle.builder.specs.declared.finish.FinishError.{FinishError}
use Rattle.builder.specs.declared.finish.FinishError.TheVariants as finish

-- the check's refusals have lower numbers than 27 and 32
number_low : (r : Refusal) → number_of r < 24
unfolding number_of
number_low TooLong = lit< tt
number_low TooDeep = lit< tt
number_low BadTape = lit< tt
number_low (UnexpectedEventType e f) = lit< tt
number_low IncompleteRoot = lit< tt
number_low TrailingEvents = lit< tt

number_in : Said → ℕ
number_in (holds n) = 0
number_in (refused number kinds place) = number

as_checked : Said → check.Said
as_checked (holds n) = check.whole n
as_checked (refused number kinds place) = check.refused number kinds place

as_answer : Checked → Result ℕ BuildError
as_answer (checked.Whole n) = Ok n
as_answer (checked.Refused r place) = Err (Refused r place)

apart : (n number place : ℕ) (kinds : List EventKind) → holds n ≡ refused number kinds place → ⊥
apart n number place kinds e = let z : ◌≡◌ {A = ℕ} 0 1 = cc in omega arith

pub answer_said_one : (a b : Result ℕ BuildError) → answer_said a ≡ answer_said b → a ≡ b
unfolding answer_said checked_said refused_at number_in as_checked as_answer
answer_said_one (Ok m) (Ok n) e = ap as_answer (checked_said_one (checked.Whole m) (checked.Whole n) (ap as_checked e))
answer_said_one (Ok m) (Err (Refused r p)) e = absurd (apart m _ _ _ e)
answer_said_one (Ok m) (Err (NoRoom p)) e = absurd (apart m _ _ _ e)
answer_said_one (Ok m) (Err TapeShrank) e = absurd (apart m _ _ _ e)
answer_said_one (Err (Refused r p)) (Ok n) e = absurd (apart n _ _ _ (sym e))
answer_said_one (Err (Refused r p)) (Err (Refused s q)) e = ap as_answer (checked_said_one (checked.Refused r p) (checked.Refused s q) (ap as_checked e))
answer_said_one (Err (Refused r p)) (Err (NoRoom q)) e = let f : number_of r ≡ 27 = ap number_in e in absurd (omega (arith, number_low r))
answer_said_one (Err (Refused r p)) (Err TapeShrank) e = let f : number_of r ≡ 32 = ap number_in e in absurd (omega (arith, number_low r))
answer_said_one (Err (NoRoom p)) (Ok n) e = absurd (apart n _ _ _ (sym e))
answer_said_one (Err (NoRoom p)) (Err (Refused r q)) e = let f : 27 ≡ number_of r = ap number_in e in absurd (omega (arith, number_low r))
answer_said_one (Err (NoRoom p)) (Err (NoRoom q)) e = cc
answer_said_one (Err (NoRoom p)) (Err TapeShrank) e = let f : ◌≡◌ {A = ℕ} 27 32 = ap number_in e in absurd (omega arith)
answer_said_one (Err TapeShrank) (Ok n) e = absurd (apart n _ _ _ (sym e))
answer_said_one (Err TapeShrank) (Err (Refused r q)) e = let f : 32 ≡ number_of r = ap number_in e in absurd (omega (arith, number_low r))
answer_said_one (Err TapeShrank) (Err (NoRoom q)) e = let f : ◌≡◌ {A = ℕ} 32 27 = ap number_in e in absurd (omega arith)
answer_said_one (Err TapeShrank) (Err TapeShrank) e = refl

-- what the writer says is never 32
file_number : file.Said → ℕ
file_number (file.long n) = 0
file_number (file.refused number kinds place) = number

file_low : (w : Result ℕ WriteError) → file_number (written_said w) < 27
unfolding written_said file_number
file_low (Ok n) = lit< tt
file_low (Err (written.Refused r place)) = omega (arith, number_low r)
file_low (Err written.NoRoomForWork) = lit< tt
file_low (Err written.NoRoomForOutput) = lit< tt
file_low (Err written.FileTooLong) = lit< tt

-- what is no file for the writer is none for the builder
as_finished : Result ℕ WriteError → Result ℕ FinishError
as_finished (Ok n) = Ok n
as_finished (Err e) = Err (finish.Writer e)

pub finished_said_one : (a b : Result ℕ FinishError) → finished_said a ≡ finished_said b → a ≡ b
unfolding finished_said file_number written_said as_finished
finished_said_one (Ok m) (Ok n) e = ap as_finished (written_said_one (Ok m) (Ok n) e)
finished_said_one (Ok m) (Err (finish.Writer y)) e = ap as_finished (written_said_one (Ok m) (Err y) e)
finished_said_one (Ok m) (Err finish.TapeShrank) e = let f : ◌≡◌ {A = ℕ} 0 32 = ap file_number e in absurd (omega arith)
finished_said_one (Err (finish.Writer x)) (Ok n) e = ap as_finished (written_said_one (Err x) (Ok n) e)
finished_said_one (Err (finish.Writer x)) (Err (finish.Writer y)) e = ap as_finished (written_said_one (Err x) (Err y) e)
finished_said_one (Err (finish.Writer x)) (Err finish.TapeShrank) e =
    let f : file_number (written_said (Err x)) ≡ 32 = ap file_number e in
    absurd (omega (arith, file_low (Err x)))
finished_said_one (Err finish.TapeShrank) (Ok n) e = let f : ◌≡◌ {A = ℕ} 32 0 = ap file_number e in absurd (omega arith)
finished_said_one (Err finish.TapeShrank) (Err (finish.Writer y)) e =
    let f : 32 ≡ file_number (written_said (Err y)) = ap file_number e in
    absurd (omega (arith, file_low (Err y)))
finished_said_one (Err finish.TapeShrank) (Err finish.TapeShrank) e = refl
