-- One open container more, and one less.
use mathlib.Core.List.{List, ◌∷◌}
use mathlib.Core.Path.{◌≡◌, refl, ap}
use Prim.Native.Nat.{ℕ, zero, suc, ◌+◌, ◌-◌, ◌<◌, ◌≤◌}
use native.Mathlib.Numerals.{add-one}
use native.Mathlib.Omega.{arith}
use lib.ListN.{length, set, get_or}
use lib.Seq.{get_or-set_same, get_or-set_other}
pub use Rattle.grammar.specs.Stack.{stack}
use Rattle.grammar.specs.declared.turn.Due.{Due}
use Rattle.grammar.specs.declared.turn.Due.TheVariants.{Root}

pub length_stack : (d : ℕ) (l : List Due) → length (stack d l) ≡ d
unfolding stack
length_stack zero l = refl
length_stack (suc d) l = ap suc (length_stack d l)

stack_set : (d e : ℕ) (l : List Due) (x : Due) → d ≤ e → stack d (set l e x) ≡ stack d l
unfolding stack
stack_set zero e l x h = refl
stack_set (suc d) e l x h = rw (get_or-set_other l e d x Root (λ z. omega arith), stack_set d e l x (omega arith))

pub stack_push : (d : ℕ) (l : List Due) (x : Due) → d < length l → stack (d + 1) (set l d x) ≡ x ∷ stack d l
unfolding stack
stack_push d l x h = rw (add-one, stack, get_or-set_same l d x Root h, stack_set d d l x (omega arith))

pub stack_pop : (d : ℕ) (l : List Due) → (d ≡ 0 → ⊥) → stack d l ≡ get_or l (d - 1) Root ∷ stack (d - 1) l
unfolding stack
stack_pop zero l h = absurd (h refl)
stack_pop (suc d) l h = let e : suc d - 1 ≡ d = omega arith in rw e
