-- The code's answer is fixed by what it says.
use Rattle.std.specs.Prelude.{◌≡◌, ℕ, ◌<◌, List, ◌≢◌, refl, Result, Ok, Err}
use Rattle.std.proofs.Common.{sym, ap, arith, lit<}
use Rattle.grammar.specs.Said.{number_of, refused_at, checked_said}
use Rattle.grammar.specs.Said as check
use Rattle.grammar.specs.SaidLaws.{checked_said_one}
use Rattle.grammar.specs.declared.answer.Checked.{Checked}
use Rattle.grammar.specs.declared.answer.Checked.TheVariants as checked
use Rattle.grammar.specs.declared.answer.EventKind.{EventKind}
use Rattle.grammar.specs.declared.answer.Refusal.{Refusal}
use Rattle.grammar.specs.declared.answer.Refusal.TheVariants.{TooLong, TooDeep, BadTape, UnexpectedEventType, IncompleteRoot, TrailingEvents}
use Rattle.writer.specs.Write.{Said, long, refused, written_said}
use Rattle.writer.specs.declared.answer.WriteError.{WriteError}
use Rattle.writer.specs.declared.answer.WriteError.TheVariants.{Refused, NoRoomForWork, NoRoomForOutput, FileTooLong}

-- the tape's refusals have lower numbers
number_low : (r : Refusal) → number_of r < 24
unfolding number_of
number_low TooLong = lit< tt
number_low TooDeep = lit< tt
number_low BadTape = lit< tt
number_low (UnexpectedEventType e f) = lit< tt
number_low IncompleteRoot = lit< tt
number_low TrailingEvents = lit< tt

-- a refusal's number, and what a check says that says the same
number_in : Said → ℕ
number_in (long n) = 0
number_in (refused number kinds place) = number

as_checked : Said → check.Said
as_checked (long n) = check.whole n
as_checked (refused number kinds place) = check.refused number kinds place

as_written : Checked → Result ℕ WriteError
as_written (checked.Whole n) = Ok n
as_written (checked.Refused r place) = Err (Refused r place)

-- a file's length is no refusal
apart : (n number place : ℕ) (kinds : List EventKind) → long n ≢ refused number kinds place
apart n number place kinds e = let z : ◌≡◌ {A = ℕ} 0 1 = cc in omega arith

pub written_said_one : (a b : Result ℕ WriteError) → written_said a ≡ written_said b → a ≡ b
unfolding written_said checked_said refused_at number_in as_checked as_written
written_said_one (Ok m) (Ok n) e = ap as_written (checked_said_one (checked.Whole m) (checked.Whole n) (ap as_checked e))
written_said_one (Ok m) (Err (Refused r p)) e = absurd (apart m _ _ _ e)
written_said_one (Ok m) (Err NoRoomForWork) e = absurd (apart m _ _ _ e)
written_said_one (Ok m) (Err NoRoomForOutput) e = absurd (apart m _ _ _ e)
written_said_one (Ok m) (Err FileTooLong) e = absurd (apart m _ _ _ e)
written_said_one (Err (Refused r p)) (Ok n) e = absurd (apart n _ _ _ (sym e))
written_said_one (Err (Refused r p)) (Err (Refused s q)) e = ap as_written (checked_said_one (checked.Refused r p) (checked.Refused s q) (ap as_checked e))
written_said_one (Err (Refused r p)) (Err NoRoomForWork) e = let f : number_of r ≡ 24 = ap number_in e in absurd (omega (arith, number_low r))
written_said_one (Err (Refused r p)) (Err NoRoomForOutput) e = let f : number_of r ≡ 25 = ap number_in e in absurd (omega (arith, number_low r))
written_said_one (Err (Refused r p)) (Err FileTooLong) e = let f : number_of r ≡ 26 = ap number_in e in absurd (omega (arith, number_low r))
written_said_one (Err NoRoomForWork) (Ok n) e = absurd (apart n _ _ _ (sym e))
written_said_one (Err NoRoomForWork) (Err (Refused r p)) e = let f : 24 ≡ number_of r = ap number_in e in absurd (omega (arith, number_low r))
written_said_one (Err NoRoomForWork) (Err NoRoomForWork) e = refl
written_said_one (Err NoRoomForWork) (Err NoRoomForOutput) e = let f : ◌≡◌ {A = ℕ} 24 25 = ap number_in e in absurd (omega arith)
written_said_one (Err NoRoomForWork) (Err FileTooLong) e = let f : ◌≡◌ {A = ℕ} 24 26 = ap number_in e in absurd (omega arith)
written_said_one (Err NoRoomForOutput) (Ok n) e = absurd (apart n _ _ _ (sym e))
written_said_one (Err NoRoomForOutput) (Err (Refused r p)) e = let f : 25 ≡ number_of r = ap number_in e in absurd (omega (arith, number_low r))
written_said_one (Err NoRoomForOutput) (Err NoRoomForWork) e = let f : ◌≡◌ {A = ℕ} 25 24 = ap number_in e in absurd (omega arith)
written_said_one (Err NoRoomForOutput) (Err NoRoomForOutput) e = refl
written_said_one (Err NoRoomForOutput) (Err FileTooLong) e = let f : ◌≡◌ {A = ℕ} 25 26 = ap number_in e in absurd (omega arith)
written_said_one (Err FileTooLong) (Ok n) e = absurd (apart n _ _ _ (sym e))
written_said_one (Err FileTooLong) (Err (Refused r p)) e = let f : 26 ≡ number_of r = ap number_in e in absurd (omega (arith, number_low r))
written_said_one (Err FileTooLong) (Err NoRoomForWork) e = let f : ◌≡◌ {A = ℕ} 26 24 = ap number_in e in absurd (omega arith)
written_said_one (Err FileTooLong) (Err NoRoomForOutput) e = let f : ◌≡◌ {A = ℕ} 26 25 = ap number_in e in absurd (omega arith)
written_said_one (Err FileTooLong) (Err FileTooLong) e = refl
