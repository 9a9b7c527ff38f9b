-- What stands at a place of UTF-16 in bytes: a unit, or a scalar value.
use Rattle.std.specs.Prelude.{◌≡◌, true, List, ◌∷◌, ◌++◌, ℕ, ◌+◌, ◌≤◌, ◌<◌, length, drop}
use Rattle.utf.specs.Unicode.{is_scalar, utf8_of, units_of, is_even, is_utf16, to_utf8}

-- the unit u begins at i
pub record UnitAt (s : List ℕ) (i u : ℕ) : Type 0 where
  pub units : units_of (drop i s) ≡ u ∷ units_of (drop (i + 2) s)
  pub even : is_even (drop i s) ≡ is_even (drop (i + 2) s)
  pub small : u < 0x10000

-- well-formed text from i on is the scalar value v, and then well-formed text from j on
pub record Front (s : List ℕ) (i v j : ℕ) : Type 0 where
  pub inside : j ≤ length s
  pub good : is_utf16 (drop j s) ≡ true
  pub bytes : to_utf8 (drop i s) ≡ utf8_of v ++ to_utf8 (drop j s)

-- the scalar value v begins at i, as one unit or two
pub record ScalarAt (s : List ℕ) (i v : ℕ) : Type 0 where
  pub scalar : is_scalar v ≡ true
  pub one : v < 0x10000 → Front s i v (i + 2)
  pub two : 0x10000 ≤ v → Front s i v (i + 4)

-- the scalar value v is in front of well-formed text, and the rest is left behind it
pub record NextScalar (s : List ℕ) (v : ℕ) (rest : List ℕ) : Type 0 where
  pub scalar : is_scalar v ≡ true
  pub shorter : length rest < length s
  pub good : is_utf16 rest ≡ true
  pub bytes : to_utf8 s ≡ utf8_of v ++ to_utf8 rest
