-- `noted` keeps what the tape answers: bytes are held, or they don't fit.
use mathlib.Core.List.{[]}
use mathlib.Core.Path.{refl, ◌≡◌}
use Prim.Native.Nat.{ℕ}
use native.Mathlib.Omega.{arith}
use Rattle.tape.specs.Append.{said}
use Rattle.tape.specs.declared.append.Appended.{Appended}
use Rattle.tape.specs.declared.append.Appended.TheVariants.{Held, BadEvent, NoRoom}
use Rattle.transcribe.specs.Note.{refused, from_tape}
use Rattle.transcribe.specs.Said.{note_said, fail_said}
use Rattle.transcribe.specs.Walk.{Unchecked}
use Rattle.transcribe.proofs.note.noted.Goals as goal

-- what holds nothing is refused
others : (at : ℕ) (x : Appended) → ((n : ℕ) → x ≡ Held n → ⊥) → Unchecked at (said x) → refused 27 [] at ≡ from_tape (said x)
unfolding said from_tape
others at (Held n) k u = absurd (k n refl)
others at (BadEvent place) k u = let z : ◌≡◌ {A = ℕ} 20 27 = u.0 in absurd (omega arith)
others at (NoRoom place) k u = rw u.1

pub returns-in_default : goal.returns-in_default
unfolding note_said fail_said
returns-in_default c = others c.args.held c.args.appended c.in_default.not-Held c.requires

pub returns : goal.returns
unfolding note_said from_tape said
returns c = rw c.in-Held.is
