-- `push` adds one that is innermost.
use mathlib.Core.List.{List, ◌∷◌}
use mathlib.Core.Path.{◌≡◌, ap, ◌∙◌}
use Prim.Native.Nat.{ℕ, ◌<◌}
use native.Mathlib.Omega.{arith}
use lib.ListN.{length}
use Rattle.event.specs.Format.{max_open}
use Rattle.grammar.proofs.Stack.{stack, length_stack, stack_push}
use Rattle.grammar.specs.declared.turn.Due.{Due}
use Rattle.grammar.proofs.around.Around.push.Goals as goal

-- there is room
room : (d : ℕ) (l s : List Due) → stack d l ≡ s → length s < max_open → d < max_open
room d l s e h = rw (← e, length_stack d l) at h

pub bounds-self-inside-self-inside : goal.bounds-self-inside-self-inside
bounds-self-inside-self-inside c = let a = c.self.inside in room a.depth a.due _ c.self.view_is c.requires

pub invariant_of-self : goal.invariant_of-self
invariant_of-self c =
    let a = c.self.inside in
    let h = room a.depth a.due _ c.self.view_is c.requires in
    omega arith

pub returns : goal.returns
returns c =
    let a = c.self.inside in
    let h = room a.depth a.due _ c.self.view_is c.requires in
    stack_push a.depth a.due c.args.due (omega arith) ∙ ap (λ (s : List Due). c.args.due ∷ s) c.self.view_is
