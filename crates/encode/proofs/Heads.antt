-- Heads, sizes and the markers of bases.
use mathlib.Core.List.{List, [], ◌∷◌}
use mathlib.Core.Path.{◌≡◌, sym, ◌∙◌}
use Prim.Native.Nat.{ℕ, ◌+◌, ◌≤◌, ◌<◌}
use native.Mathlib.Nat.{zero-add}
use native.Mathlib.Omega.{arith}
use borrow.Author.Tests.{lt-ltb, le-ltb}
use lib.ListN.{length, length-append}
use lib.Seq.{sets}
use Rattle.number.specs.Be.{bytes_of}
use Rattle.number.specs.Size.{size_of}
use Rattle.utf.proofs.Writing.{sets_append}
use Rattle.written.specs.Encoding.{size_marker, number_bytes, nibble_of, head_bytes}
use Rattle.encode.specs.Put.{base_of, headed}
use Rattle.encode.specs.Size.{head_size}
use Rattle.encode.specs.SizeLaws.{length_head}
use Rattle.encode.specs.declared.put.Base.{Base}
use Rattle.encode.specs.declared.put.Base.TheVariants.{Data, Ascii, Utf16, Array, Dictionary}

pub base_le : (b : Base) → base_of b ≤ 0xD0
unfolding base_of
base_le Data = omega arith
base_le Ascii = omega arith
base_le Utf16 = omega arith
base_le Array = omega arith
base_le Dictionary = omega arith

-- a length that stands in the marker
module _ (n : ℕ) (h : n < 15) where
  pub short_length : head_size n ≡ 1
  unfolding head_size
  short_length = rw (lt-ltb n 15 h)

  pub short_head : (base : ℕ) → head_bytes base n ≡ (base + n) ∷ []
  unfolding head_bytes nibble_of
  short_head base = rw (lt-ltb n 15 h)

-- and one that stands behind it
module _ (n : ℕ) (h : 15 ≤ n) where
  pub long_length : head_size n ≡ 2 + size_of n
  unfolding head_size
  long_length = rw (le-ltb n 15 h)

  pub long_head : (base : ℕ) → head_bytes base n ≡ (base + 15) ∷ size_marker (size_of n) ∷ bytes_of (size_of n) n
  unfolding head_bytes nibble_of number_bytes
  long_head base = rw (le-ltb n 15 h)

-- bytes behind their head
module _ (base : ℕ) (s : List ℕ) where
  pub headed_length : length (headed base s) ≡ head_size (length s) + length s
  unfolding headed
  headed_length = length-append (head_bytes base (length s)) s ∙ rw (length_head base (length s))

  pub headed_sets : (l : List ℕ) → sets (sets l 0 (head_bytes base (length s))) (head_size (length s)) s ≡ sets l 0 (headed base s)
  unfolding headed
  headed_sets l = sym (rw (zero-add, length_head base (length s)) at (sets_append (head_bytes base (length s)) s l 0))
