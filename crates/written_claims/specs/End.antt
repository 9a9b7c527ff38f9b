-- The nibble of an object's length, and the byte in front of a length.
use Rattle.std.specs.Prelude.{List, ℕ, ◌≤◌, get_or}
use Rattle.object.specs.Kind.{kind_of}
use Rattle.object.specs.declared.kind.Kind.{Kind}
use Rattle.object.specs.declared.kind.Kind.TheVariants as kind

-- 0 for what has no length
unfoldable pub nibble_in : Kind → ℕ
nibble_in kind.Null = 0
nibble_in kind.False = 0
nibble_in kind.True = 0
nibble_in kind.Fill = 0
nibble_in (kind.Unsigned width) = 0
nibble_in kind.Signed = 0
nibble_in kind.Wide = 0
nibble_in kind.ShortReal = 0
nibble_in kind.Real = 0
nibble_in kind.Date = 0
nibble_in (kind.Data nibble) = nibble
nibble_in (kind.Utf8 nibble) = nibble
nibble_in (kind.Utf16 nibble) = nibble
nibble_in (kind.Uid width) = 0
nibble_in (kind.Array nibble) = nibble
nibble_in (kind.Dictionary nibble) = nibble
nibble_in (kind.Unknown marker) = 0

unfoldable pub nibble_at : List ℕ → ℕ → ℕ
nibble_at file offset = nibble_in (kind_of (get_or file offset 0))

-- the byte before a length that stands behind the marker: 10, 11, 12 or 13
abbrev pub LengthByte : ℕ → Type 0
LengthByte b = (0x10 ≤ b) × (b ≤ 0x13)
