-- `negative`: -1 less the number, where there is such an integer.
use Rattle.std.specs.Prelude.{Some}
use mathlib.Core.Path.{◌≡◌, sym, ◌∙◌, ap}
use borrow.Author.Rules.{rules}
use lib.IntN.{ℤ}
use mir.Facts.{to_z-of_z}
use mir.Syntax.{w64}
use mir.Val.{SFits}
use Rattle.event.specs.declared.Event.TheVariants.{Integer}
use Rattle.event.specs.declared.Integer.TheVariants.{Signed}
use Rattle.tape.specs.Item.{plain, negative}
use Rattle.tape.specs.KindsLaws.{negative_of_law, negative_none}
use Rattle.tape.proofs.step.negative.Goals as goal

pub returns-in_err-k : goal.returns-in_err-k
unfolding negative
returns-in_err-k c = rw c.in_err-k.was c.from_residual.ensures

pub returns-in_err-z : goal.returns-in_err-z
returns-in_err-z c = rw c.in_ok-k.was (c.from_residual-in_err-z.ensures ∙ sym (negative_none _ _ (sym c.negative_of.ensures ∙ c.in_err-z.was)))

pub returns : goal.returns
returns c =
    let f : SFits w64 c.in_ok-z.z = search rules in
    let e : negative (Some (c.in_ok-k.k, c.in_ok-k.next)) ≡ plain (Integer (Signed c.in_ok-z.z)) c.in_ok-k.next =
    negative_of_law c.in_ok-k.k c.in_ok-k.next c.in_ok-z.z (sym c.negative_of.ensures ∙ c.in_ok-z.was) in
    rw c.in_ok-k.was (c.no_bytes.ensures ∙ ap (λ (y : ℤ). plain (Integer (Signed y)) c.in_ok-k.next) (to_z-of_z f) ∙ sym e)
