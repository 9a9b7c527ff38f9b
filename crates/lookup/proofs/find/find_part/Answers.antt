-- `find_part`: the part that is found, which lies within the tape.
use mathlib.Core.List.{List, []}
use mathlib.Core.Path.{◌≡◌, refl, sym, ap, ◌∙◌}
use Rattle.std.specs.Prelude.{Err}
use Prim.Native.Nat.{ℕ, ◌+◌, ◌≤◌}
use native.Mathlib.Nat.{add-sub_cancel_left}
use native.Mathlib.Omega.{arith}
use lib.ListN.{length}
use Rattle.lookup.specs.Find.{found_said, part_said, find_of, found, part_by, part_of}
use Rattle.lookup.specs.declared.answer.FindError.{FindError}
use Rattle.lookup.specs.declared.answer.FindError.TheVariants.{Refused, BadPath}
use Rattle.lookup.proofs.FoundLaws.{found_value}
use Rattle.lookup.proofs.find.find_part.Goals as goal
use Rattle.lookup.proofs.find.find_part.Goals.{In-Ok-Some}

told : (x : In-Ok-Some) → let a = x.args in find_of a.tape.now a.path.now ≡ found x.in-Ok-Some.part.start x.in-Ok-Some.part.length
unfolding found_said part_said
told x = sym x.find.ensures.result_value ∙ ap found_said x.in-Ok-Some.is ∙ ap part_said x.in-Ok-Some.field-0-is

inside : (x : In-Ok-Some) → x.in-Ok-Some.part.start + x.in-Ok-Some.part.length ≤ length x.args.tape.now
inside x = (found_value _ _ x.find.ensures.bytes _ _ (told x)).within

pub overflow_add-end : goal.overflow_add-end
overflow_add-end c = omega (arith, inside (goal.at.overflow_add-end c).In-Ok-Some)

pub slice_bounds-result-end : goal.slice_bounds-result-end
slice_bounds-result-end c = omega (arith, inside (goal.at.slice_bounds-result-end c).In-Ok-Some)

pub returns-in-Ok-Some : goal.returns-in-Ok-Some
unfolding part_of part_by
returns-in-Ok-Some c = rw (told (goal.at.returns-in-Ok-Some c).In-Ok-Some, part_by, add-sub_cancel_left)

pub returns-in-Ok-None : goal.returns-in-Ok-None
unfolding found_said part_said part_of part_by
returns-in-Ok-None c = rw (← c.find.ensures.result_value, c.in-Ok-None.is, c.in-Ok-None.field-0-is)

-- an error has no part
no_part : (tape : List ℕ) (e : FindError) → [] ≡ part_by tape (found_said (Err e))
unfolding found_said part_by
no_part tape (Refused r p) = refl
no_part tape BadPath = refl

pub returns-in-Err : goal.returns-in-Err
unfolding part_of
returns-in-Err c = rw (← c.find.ensures.result_value, c.in-Err.is) (no_part _ _)
