-- What is answered of sizes and bytes, in the numbers and places of docs/FORMAT.md, N.
use Rattle.std.specs.Prelude.{ℕ, None, Option, Some}
use Rattle.encode.specs.declared.put.Put.{Put}
use Rattle.encode.specs.declared.put.Put.TheVariants.{Bytes, NoRoom, NoScalar}
use Rattle.encode.specs.declared.size.Size.{Size}

-- what is given, or a refusal's number and place
pub data Said (A : Type 0) : Type 0 where
  given : A → Said A
  refused : ℕ → ℕ → Said A

-- 25: the memory is too short; 20: no scalar stands at a place of the tape
unfoldable pub put_said : ℕ → Put → Said ℕ
put_said at (Bytes n) = given n
put_said at NoRoom = refused 25 0
put_said at NoScalar = refused 20 at

unfoldable pub size_said : ℕ → Option Size → Said Size
size_said at (Some size) = given size
size_said at None = refused 20 at
