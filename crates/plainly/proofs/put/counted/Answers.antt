-- `counted` goes on behind what was appended, one event further; what the tape refuses didn't fit.
use mathlib.Core.List.{List, []}
use mathlib.Core.Path.{◌≡◌, refl}
use Prim.Native.Nat.{ℕ}
use Rattle.tape.specs.Append.{said}
use Rattle.tape.specs.declared.append.Appended.{Appended}
use Rattle.tape.specs.declared.append.Appended.TheVariants.{Held, BadEvent, NoRoom}
use Rattle.plainly.specs.One.{count_of}
use Rattle.plainly.specs.Plain.{put, refused_with}
use Rattle.plainly.specs.Said.{ending_said, went_said}
use Rattle.plainly.proofs.put.counted.Goals as goal

-- what is refused
others : (left held place : ℕ) (t : List ℕ) (x : Appended) → ((p : ℕ) → x ≡ Held p → ⊥) → put (refused_with 27 [] held) held t ≡ count_of left held t place (said x)
unfolding said count_of
others left held place t (Held n) k = absurd (k n refl)
others left held place t (BadEvent at) _ = refl
others left held place t (NoRoom at) _ = refl

pub returns-in_default : goal.returns-in_default
unfolding went_said ending_said
returns-in_default c = let a = c.args in λ t. others a.far.left a.far.held a.place t a.appended c.in_default.not-Held

pub returns : goal.returns
unfolding went_said count_of said
returns c = λ t. rw c.in-Held.is
