-- What a test that passed tells of its parts.
use Rattle.std.specs.Prelude.{◌≡◌, refl, Bool, true, false, cond, ◌&&◌}
use Rattle.std.proofs.lemmas.Bool.{false≢true}

-- both sides of a test that passed
pub and_left : (a b : Bool) → (a && b) ≡ true → a ≡ true
and_left true b e = refl
and_left false b e = absurd (false≢true e)

pub and_right : (a b : Bool) → (a && b) ≡ true → b ≡ true
and_right true b e = e
and_right false b e = absurd (false≢true e)

-- an answer by a test that is not the second one is the first, and one that is not the first is for no
pub cond_yes : {A : Type 0} (ok : Bool) (x y z : A) → cond ok x y ≡ z → (y ≡ z → ⊥) → (ok ≡ true) × (x ≡ z)
cond_yes true x y z e n = (refl, e)
cond_yes false x y z e n = absurd (n e)

pub cond_no : {A : Type 0} (ok : Bool) (x y z : A) → cond ok x y ≡ z → (x ≡ z → ⊥) → ok ≡ false
cond_no true x y z e n = absurd (n e)
cond_no false x y z e n = refl
