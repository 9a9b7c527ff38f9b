-- What holds of both answers of a test, each where the test gives it, holds of the answer.
use Rattle.std.specs.Prelude.{Bool, true, false, cond, ◌≡◌, refl}

pub either : {A : Type 0} (P : A → Type 0) (b : Bool) (x y : A) → (b ≡ true → P x) → (b ≡ false → P y) → P (cond b x y)
either P true x y p q = p refl
either P false x y p q = q refl
