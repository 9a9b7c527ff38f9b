-- `are_clear`: a fold of the tests is their `and`.
use Rattle.std.proofs.Common.{Bool, true, ◌&&◌, List, [], ◌∷◌, ◌≡◌, ℕ, sym, ◌∙◌, rules}
use Rattle.std.proofs.Math.Bool.{and-true, and_assoc}
use Rattle.std.proofs.lemmas.Iterator.{YieldsList-from_slice}
use Rattle.std.proofs.lemmas.Iterator.Consumers.{fold_from_yields_List}
use Rattle.std.specs.List.{fold}
use Rattle.xml.specs.Text.{is_clear, all_clear}
use Rattle.xml.proofs.text.are_clear.Goals as goal

folded : (r : Bool) (s : List ℕ) → fold (λ r b. r && is_clear b) r s ≡ (r && all_clear s)
unfolding all_clear
folded r [] = sym (and-true r)
folded r (b ∷ s) = folded (r && is_clear b) s ∙ and_assoc r (is_clear b) (all_clear s)

pub returns : goal.returns
returns c =
    let s = c.args.s.now in
    fold_from_yields_List _ (λ r b. r && is_clear b) true _ c.fold.ensures.ran (YieldsList-from_slice s cc) (λ a x b q k. search rules) ∙ folded true s
