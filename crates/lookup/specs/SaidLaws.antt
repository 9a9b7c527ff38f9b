-- The code's answer is fixed by what it says.
use Rattle.std.specs.Prelude.{Result, Ok, Err, Option, Some, None, ◌≡◌, refl, ℕ, ◌<◌}
use Rattle.std.proofs.Common.{ap, arith, lit<}
use Rattle.grammar.specs.Said.{number_of, refused_at, checked_said}
use Rattle.grammar.specs.Said as check
use Rattle.grammar.specs.SaidLaws.{checked_said_one}
use Rattle.grammar.specs.declared.answer.Checked.{Checked}
use Rattle.grammar.specs.declared.answer.Checked.TheVariants as checked
use Rattle.grammar.specs.declared.answer.Refusal.{Refusal}
use Rattle.grammar.specs.declared.answer.Refusal.TheVariants.{TooLong, TooDeep, BadTape, UnexpectedEventType, IncompleteRoot, TrailingEvents}
use Rattle.lookup.specs.Find.{Said, found, not_found, refused, part_said, found_said}
use Rattle.lookup.specs.declared.answer.FindError.{FindError}
use Rattle.lookup.specs.declared.answer.FindError.TheVariants.{Refused, BadPath}
use Rattle.lookup.specs.declared.answer.Part.{Part}

-- the tape's refusals have lower numbers than the path's, and none is 0
between : (r : Refusal) → (0 < number_of r) × (number_of r < 33)
unfolding number_of
between TooLong = (lit< tt, lit< tt)
between TooDeep = (lit< tt, lit< tt)
between BadTape = (lit< tt, lit< tt)
between (UnexpectedEventType e f) = (lit< tt, lit< tt)
between IncompleteRoot = (lit< tt, lit< tt)
between TrailingEvents = (lit< tt, lit< tt)

-- a number that tells the cases apart, and what a check says that says the same
rank : Said → ℕ
rank (found start n) = 0
rank not_found = 34
rank (refused number kinds place) = number

as_checked : Said → check.Said
as_checked (found start n) = check.whole n
as_checked not_found = check.whole 0
as_checked (refused number kinds place) = check.refused number kinds place

-- what the code answers
abbrev Found : Type 0
Found = Result (Option Part) FindError

as_found : Checked → Found
as_found (checked.Whole n) = Ok None
as_found (checked.Refused r place) = Err (Refused r place)

part_again : (a b : Part) → part_said (Some a) ≡ part_said (Some b) → a ≡ b
unfolding part_said
part_again a b e =
    let x : a.start ≡ b.start = cc in
    let y : a.length ≡ b.length = cc in
    rw (x, y)

pub found_said_one : (a b : Found) → found_said a ≡ found_said b → a ≡ b
unfolding found_said part_said checked_said refused_at rank as_checked as_found
found_said_one (Ok (Some p)) (Ok (Some q)) e = ap (λ (x : Part). Ok (Some x)) (part_again p q e)
found_said_one (Ok (Some p)) (Ok None) e = let f : ◌≡◌ {A = ℕ} 0 34 = ap rank e in absurd (omega arith)
found_said_one (Ok (Some p)) (Err (Refused r q)) e = let f : 0 ≡ number_of r = ap rank e in absurd (omega (arith, (between r).0))
found_said_one (Ok (Some p)) (Err BadPath) e = let f : ◌≡◌ {A = ℕ} 0 33 = ap rank e in absurd (omega arith)
found_said_one (Ok None) (Ok (Some q)) e = let f : ◌≡◌ {A = ℕ} 34 0 = ap rank e in absurd (omega arith)
found_said_one (Ok None) (Ok None) e = refl
found_said_one (Ok None) (Err (Refused r q)) e = let f : 34 ≡ number_of r = ap rank e in absurd (omega (arith, (between r).1))
found_said_one (Ok None) (Err BadPath) e = let f : ◌≡◌ {A = ℕ} 34 33 = ap rank e in absurd (omega arith)
found_said_one (Err (Refused r p)) (Ok (Some q)) e = let f : number_of r ≡ 0 = ap rank e in absurd (omega (arith, (between r).0))
found_said_one (Err (Refused r p)) (Ok None) e = let f : number_of r ≡ 34 = ap rank e in absurd (omega (arith, (between r).1))
found_said_one (Err (Refused r p)) (Err (Refused s q)) e = ap as_found (checked_said_one (checked.Refused r p) (checked.Refused s q) (ap as_checked e))
found_said_one (Err (Refused r p)) (Err BadPath) e = let f : number_of r ≡ 33 = ap rank e in absurd (omega (arith, (between r).1))
found_said_one (Err BadPath) (Ok (Some q)) e = let f : ◌≡◌ {A = ℕ} 33 0 = ap rank e in absurd (omega arith)
found_said_one (Err BadPath) (Ok None) e = let f : ◌≡◌ {A = ℕ} 33 34 = ap rank e in absurd (omega arith)
found_said_one (Err BadPath) (Err (Refused r q)) e = let f : 33 ≡ number_of r = ap rank e in absurd (omega (arith, (between r).1))
found_said_one (Err BadPath) (Err BadPath) e = refl
