-- What an answer by a test tells.
use Rattle.std.specs.Prelude.{Bool, true, false, cond, ◌≡◌, refl}

-- the second answer is not the one given, so the test holds and the first answer is
pub first : {A : Type 0} (b : Bool) (x y z : A) → cond b x y ≡ z → (y ≡ z → ⊥) → (b ≡ true) × (x ≡ z)
first true x y z e n = (refl, e)
first false x y z e n = absurd (n e)

-- the first answer is not the one given, so the test fails and the second answer is
pub second : {A : Type 0} (b : Bool) (x y z : A) → cond b x y ≡ z → (x ≡ z → ⊥) → (b ≡ false) × (y ≡ z)
second true x y z e n = absurd (n e)
second false x y z e n = (refl, e)
