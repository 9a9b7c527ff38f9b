-- Two answers that say the same are the same.
use Rattle.std.specs.Prelude.{cond, ◌≡◌, refl, ℕ, eqb, None, Option, Some}
use Rattle.std.proofs.Common.{ap, sym, ◌∙◌}
use Rattle.encode.specs.Said.{Said, given, refused, put_said, size_said}
use Rattle.encode.specs.declared.put.Put.{Put}
use Rattle.encode.specs.declared.put.Put.TheVariants.{Bytes, NoRoom, NoScalar}
use Rattle.encode.specs.declared.size.Size.{Size}

-- the answer that says this
put_from : Said ℕ → Put
put_from (given n) = Bytes n
put_from (refused number place) = cond (eqb number 25) NoRoom NoScalar

put_again : (at : ℕ) (x : Put) → put_from (put_said at x) ≡ x
unfolding put_said put_from
put_again at (Bytes n) = refl
put_again at NoRoom = refl
put_again at NoScalar = refl

pub put_said_one : (at : ℕ) (x y : Put) → put_said at x ≡ put_said at y → x ≡ y
put_said_one at x y e = sym (put_again at x) ∙ ap put_from e ∙ put_again at y

size_from : Said Size → Option Size
size_from (given size) = Some size
size_from (refused number place) = None

size_again : (at : ℕ) (x : Option Size) → size_from (size_said at x) ≡ x
unfolding size_said size_from
size_again at (Some size) = refl
size_again at None = refl

pub size_said_one : (at : ℕ) (x y : Option Size) → size_said at x ≡ size_said at y → x ≡ y
size_said_one at x y e = sym (size_again at x) ∙ ap size_from e ∙ size_again at y
