-- `pop` takes the innermost.
use mathlib.Core.List.{List}
use mathlib.Core.Path.{◌≡◌, ap, sym, ◌∙◌}
use Prim.Native.Nat.{ℕ}
use native.Mathlib.Omega.{arith}
use lib.ListN.{length}
use Rattle.grammar.proofs.Stack.{stack, length_stack, stack_pop}
use Rattle.grammar.specs.declared.turn.Due.{Due}
use Rattle.grammar.proofs.around.Around.pop.Goals as goal

-- a container is open
some : (d : ℕ) (l s : List Due) → stack d l ≡ s → (length s ≡ 0 → ⊥) → d ≡ 0 → ⊥
some d l s e h z = h (ap (λ (s : List Due). length s) (sym e) ∙ length_stack d l ∙ z)

pub overflow_sub-self : goal.overflow_sub-self
overflow_sub-self c =
    let a = c.self.inside in
    let h : a.depth ≡ 0 → ⊥ = some a.depth a.due _ c.self.view_is c.requires in
    omega arith

pub returns : goal.returns
returns c =
    let a = c.self.inside in
    sym c.self.view_is ∙ stack_pop a.depth a.due (some a.depth a.due _ c.self.view_is c.requires)
