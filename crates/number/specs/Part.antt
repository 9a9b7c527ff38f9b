-- A part of bytes: of a file or of a tape.
use Rattle.std.specs.Prelude.{List, ℕ, take, drop}

-- the n bytes from a place on
abbrev pub part : List ℕ → ℕ → ℕ → List ℕ
part s at n = take n (drop at s)
