-- An answer of `step` is known by what it says, and the one refusal is 20 at the event's place.
use Rattle.tape.specs.declared.item.Item.{Item}
use Rattle.std.specs.Prelude.{List, ℕ, None, Option, Some}
use Rattle.std.proofs.Math.Path.{◌≡◌, refl, ap}
use Rattle.std.proofs.Common.{sym, ◌∙◌, arith}
use Rattle.tape.specs.Item.{item_at}
use Rattle.tape.specs.Said.{StepSaid, item, refused, step_said, step_at}

step_from : StepSaid → Option Item
step_from (item i) = Some i
step_from (refused number place) = None

step_again : (at : ℕ) (x : Option Item) → step_from (step_said at x) ≡ x
unfolding step_said step_from
step_again at (Some i) = refl
step_again at None = refl

pub step_said_one : (at : ℕ) (x y : Option Item) → step_said at x ≡ step_said at y → x ≡ y
step_said_one at x y e = sym (step_again at x) ∙ ap step_from e ∙ step_again at y

module _ (tape : List ℕ) (at : ℕ) where
  -- what `step` promises of its answer, and that the answer is the definition's, are the same
  pub item_said : {r : Option Item} → r ≡ item_at tape at → step_said at r ≡ step_at tape at
  unfolding step_at
  item_said e = ap (step_said at) e

  pub said_item : {r : Option Item} → step_said at r ≡ step_at tape at → r ≡ item_at tape at
  unfolding step_at
  said_item {r = r} e = step_said_one at r (item_at tape at) e

  -- bytes that aren't one whole event are refused with 20, at their place
  pub bad_refused : item_at tape at ≡ None → step_at tape at ≡ refused 20 at
  unfolding step_at step_said
  bad_refused e = rw e

  -- and nothing else is refused, nor with another number or place
  pub refused_bad : (number place : ℕ) → step_at tape at ≡ refused number place → (item_at tape at ≡ None) × (number ≡ 20) × (place ≡ at)
  unfolding step_at step_said
  refused_bad number place e = go (item_at tape at) refl e
    where
      go : (s : Option Item) → item_at tape at ≡ s → step_said at s ≡ refused number place → (item_at tape at ≡ None) × (number ≡ 20) × (place ≡ at)
      go (Some i) f g = let z : ◌≡◌ {A = ℕ} 0 1 = cc in absurd (omega arith)
      go None f g =
          let n : number ≡ 20 = cc in
          let p : place ≡ at = cc in
          (f, n, p)
