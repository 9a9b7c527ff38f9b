-- Laws of kinds: the ranges of markers, and the widths that stand beside kinds.
use Rattle.std.specs.Prelude.{true, ◌≡◌, ℕ, ◌-◌, ◌≤◌, ◌<◌, ltb, leb}
use Rattle.std.proofs.Math.Path.{refl}
use Rattle.std.proofs.Common.{arith, ltb-true, leb-true}
use Rattle.utf.specs.Interval.{on}
use Rattle.object.specs.Kind.{kind_of}
use Rattle.object.specs.declared.kind.Kind.TheVariants.{Null, False, True, Fill, Unsigned, Signed, Wide, ShortReal, Real, Date, Data, Utf8, Utf16, Uid, Array, Dictionary, Unknown}
use Rattle.object.specs.declared.kind.Kind.{Kind}

-- each range of markers has its kind
module _ (m : ℕ) where
  pub kind_data : 0x40 ≤ m → m < 0x50 → kind_of m ≡ Data (m - 0x40)
  unfolding kind_of
  kind_data = on kind_of (λ (x : ℕ). Data (x - 0x40)) 0x40 16 m refl

  pub kind_utf8 : 0x50 ≤ m → m < 0x60 → kind_of m ≡ Utf8 (m - 0x50)
  unfolding kind_of
  kind_utf8 = on kind_of (λ (x : ℕ). Utf8 (x - 0x50)) 0x50 16 m refl

  pub kind_utf16 : 0x60 ≤ m → m < 0x70 → kind_of m ≡ Utf16 (m - 0x60)
  unfolding kind_of
  kind_utf16 = on kind_of (λ (x : ℕ). Utf16 (x - 0x60)) 0x60 16 m refl

  pub kind_uid : 0x80 ≤ m → m < 0x88 → kind_of m ≡ Uid (m - 0x7F)
  unfolding kind_of
  kind_uid = on kind_of (λ (x : ℕ). Uid (x - 0x7F)) 0x80 8 m refl

  pub kind_array : 0xA0 ≤ m → m < 0xB0 → kind_of m ≡ Array (m - 0xA0)
  unfolding kind_of
  kind_array = on kind_of (λ (x : ℕ). Array (x - 0xA0)) 0xA0 16 m refl

  pub kind_dictionary : 0xD0 ≤ m → m < 0xE0 → kind_of m ≡ Dictionary (m - 0xD0)
  unfolding kind_of
  kind_dictionary = on kind_of (λ (x : ℕ). Dictionary (x - 0xD0)) 0xD0 16 m refl

-- the width beside a kind, and 1 where there is none
abbrev pub width_in : Kind → ℕ
width_in Null = 1
width_in False = 1
width_in True = 1
width_in Fill = 1
width_in (Unsigned width) = width
width_in Signed = 1
width_in Wide = 1
width_in ShortReal = 1
width_in Real = 1
width_in Date = 1
width_in (Data nibble) = 1
width_in (Utf8 nibble) = 1
width_in (Utf16 nibble) = 1
width_in (Uid width) = width
width_in (Array nibble) = 1
width_in (Dictionary nibble) = 1
width_in (Unknown marker) = 1

-- a width is of 1 to 8 bytes, whatever byte the marker is
pub width_pos : (m : ℕ) → m < 256 → 0 < width_in (kind_of m)
unfolding kind_of
width_pos m h = ltb-true 0 _ (on (λ (x : ℕ). ltb 0 (width_in (kind_of x))) (λ (x : ℕ). true) 0 256 m refl (omega arith) h)

pub width_le : (m : ℕ) → m < 256 → width_in (kind_of m) ≤ 8
unfolding kind_of
width_le m h = leb-true _ 8 (on (λ (x : ℕ). leb (width_in (kind_of x)) 8) (λ (x : ℕ). true) 0 256 m refl (omega arith) h)
