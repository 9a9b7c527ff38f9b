-- The bytes of an object, of the offset table's entries and of the trailer. docs/FORMAT.md, rules W7 to W13; Apple's table of objects.
use Rattle.std.specs.Prelude.{true, false, cond, List, [], ◌∷◌, ◌++◌, ℕ, ◌+◌, ◌^◌, ltb, eqb, ℤ, pos, negsuc, length, replicate}
use Rattle.number.specs.Be.{bytes_of}
use Rattle.number.specs.Signed.{bits_of}
use Rattle.number.specs.Size.{size_of}
use Rattle.event.specs.Meaning.{Meaning, array, dictionary, close, boolean, bytes, date, integer, real, text, uid}
use Rattle.utf.specs.Unicode.{is_ascii, utf16, scalars8, to_utf16}

-- the marker of an integer of 1, 2, 4 or 8 bytes (W7)
unfoldable pub size_marker : ℕ → ℕ
size_marker w = cond (eqb w 1) 0x10 (cond (eqb w 2) 0x11 (cond (eqb w 4) 0x12 0x13))

-- that marker, and the number in its own size (W7)
unfoldable pub number_bytes : ℕ → List ℕ
number_bytes n = size_marker (size_of n) ∷ bytes_of (size_of n) n

-- an integer: from 2^63 on it takes 16 bytes; a negative one is in two's complement of 8 (W8)
unfoldable pub integer_bytes : ℤ → List ℕ
integer_bytes (pos n) = cond (ltb n (2 ^ 63)) (number_bytes n) (0x14 ∷ bytes_of 16 n)
integer_bytes (negsuc k) = 0x13 ∷ bytes_of 8 (bits_of (negsuc k))

-- a length below 15 stands in the marker; else 15 stands there, and the length behind it as an integer (W9)
unfoldable pub nibble_of : ℕ → ℕ
nibble_of n = cond (ltb n 15) n 15

unfoldable pub head_bytes : ℕ → ℕ → List ℕ
head_bytes base n = (base + nibble_of n) ∷ cond (ltb n 15) [] (number_bytes n)

-- text: ASCII as it is, any other as UTF-16, whose length is in units (W10)
unfoldable pub text_bytes : List ℕ → List ℕ
text_bytes s = cond (is_ascii s) (head_bytes 0x50 (length s) ++ s) (head_bytes 0x60 (length (utf16 (scalars8 s))) ++ to_utf16 s)

-- a scalar (W8 to W11); a container's bytes are below
unfoldable pub scalar_bytes : Meaning → List ℕ
scalar_bytes (boolean false) = 0x08 ∷ []
scalar_bytes (boolean true) = 0x09 ∷ []
scalar_bytes (integer z) = integer_bytes z
scalar_bytes (real b) = 0x23 ∷ bytes_of 8 b
scalar_bytes (date b) = 0x33 ∷ bytes_of 8 b
scalar_bytes (uid n) = (0x7F + size_of n) ∷ bytes_of (size_of n) n
scalar_bytes (bytes s) = head_bytes 0x40 (length s) ++ s
scalar_bytes (text s) = text_bytes s
scalar_bytes (array n) = []
scalar_bytes (dictionary n) = []
scalar_bytes close = []

-- numbers of w bytes each, one after the other
unfoldable pub numbers_bytes : ℕ → List ℕ → List ℕ
numbers_bytes w [] = []
numbers_bytes w (n ∷ ns) = bytes_of w n ++ numbers_bytes w ns

-- an object with the numbers of its members
pub data Object : Type 0 where
  lone : Meaning → Object
  list : List ℕ → Object
  pairs : List ℕ → List ℕ → Object

-- its bytes, with references of w bytes: an array's elements; a dictionary's keys, then its values (W12)
unfoldable pub object_bytes : ℕ → Object → List ℕ
object_bytes w (lone m) = scalar_bytes m
object_bytes w (list refs) = head_bytes 0xA0 (length refs) ++ numbers_bytes w refs
object_bytes w (pairs keys values) = head_bytes 0xD0 (length keys) ++ numbers_bytes w (keys ++ values)

-- the last 32 bytes of a file (W13)
unfoldable pub trailer_bytes : ℕ → ℕ → ℕ → ℕ → ℕ → List ℕ
trailer_bytes offsets refs count root table = replicate 6 0 ++ (offsets ∷ refs ∷ (bytes_of 8 count ++ (bytes_of 8 root ++ bytes_of 8 table)))
