-- `find`: what the check says, then what the path leads to.
use mathlib.Core.Path.{◌≡◌, sym, ap, ◌∙◌}
use Prim.Native.Nat.{ℕ}
use native.Mathlib.Omega.{arith}
use Rattle.number.specs.BeLaws.{bytes_of_law}
use Rattle.grammar.specs.Check.{check_of}
use Rattle.grammar.specs.Said.{whole, refused_at, checked_said}
use Rattle.lookup.specs.Find.{found_said}
use Rattle.lookup.proofs.FindLaws.{find_refused, find_whole, check_rest}
use Rattle.lookup.proofs.find.find.Goals as goal
use Rattle.lookup.proofs.find.find.Goals.{In-Whole}

-- the check finds the tape whole
checked : (x : In-Whole) → check_of x.args.tape.now ≡ whole x.in-Whole.field-0
unfolding checked_said
checked x = sym x.check_tape.ensures ∙ ap checked_said x.in-Whole.is

pub find_in-requires : goal.find_in-requires
find_in-requires c =
    check_rest _ _ (bytes_of_law c.args.tape.now (λ (i : ℕ). omega (arith, c.type_inv.tape i))) (checked (goal.at.find_in-requires c).In-Whole)

pub returns-in-Refused : goal.returns-in-Refused
unfolding found_said checked_said refused_at
returns-in-Refused c =
    (record { result_value = sym (find_refused _ _ _ _ _ (sym c.check_tape.ensures ∙ ap checked_said c.in-Refused.is)); bytes = bytes_of_law c.args.tape.now (λ (i : ℕ). omega (arith, c.type_inv.tape i)) })

pub returns-in-Whole : goal.returns-in-Whole
returns-in-Whole c =
    (record { result_value = c.find_in.ensures ∙ sym (find_whole _ _ _ (checked (goal.at.returns-in-Whole c).In-Whole)); bytes = bytes_of_law c.args.tape.now (λ (i : ℕ). omega (arith, c.type_inv.tape i)) })
