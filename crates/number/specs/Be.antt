-- Big-endian numbers of any width. docs/FORMAT.md, rule R1.
use Rattle.std.specs.Prelude.{List, [], ◌∷◌, ◌++◌, ℕ, zero, suc, ◌+◌, ◌*◌, ◌/◌, ◌%◌}

-- n with the bytes of a list as further digits to base 256
unfoldable pub onto : ℕ → List ℕ → ℕ
onto n [] = n
onto n (b ∷ bs) = onto (n * 256 + b) bs

-- the number whose digits to base 256 are the bytes of a list, the high one first
unfoldable pub be : List ℕ → ℕ
be s = onto 0 s

-- the w low digits of n to base 256, the high one first
unfoldable pub bytes_of : ℕ → ℕ → List ℕ
bytes_of zero n = []
bytes_of (suc w) n = bytes_of w (n / 256) ++ (n % 256 ∷ [])
