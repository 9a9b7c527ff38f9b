-- Reals by their bits. IEEE 754's formats are the kit's `lib.Ieee`: `of_bits` is the number of a pattern, `to_bits` the pattern of a
-- number, `nan_bits` whether a pattern is a NaN's.
use Rattle.std.specs.Prelude.{cond, ℕ, ◌+◌, ◌*◌, ◌%◌, leb, Float}
use Rattle.std.specs.Float.{binary32, binary64}
use Rattle.std.specs.Float.Ieee.{of_bits, to_bits, nan_bits, is_nan}
use Rattle.event.specs.declared.Event.{Event}
use Rattle.event.specs.declared.Event.TheVariants.{Real, Nan}

-- a pattern of 64 bits: a number as a float, a NaN by its bits
unfoldable pub real_of : ℕ → Event
real_of b = cond (nan_bits binary64 b) (Nan b) (Real (of_bits binary64 b))

-- a NaN of 32 bits made wider (docs/FORMAT.md, R11). The fraction has 23 bits; the quiet bit is its top one, which is bit 51 of the 64
unfoldable pub wide_nan : ℕ → ℕ
wide_nan b = cond (leb 0x8000_0000 b) 0x8000_0000_0000_0000 0 + 0x7FF8_0000_0000_0000 + b % 0x40_0000 * 0x2000_0000

-- any other: the float is the number of the 32 bits (R11)
unfoldable pub short_real_of : ℕ → Event
short_real_of b = cond (nan_bits binary32 b) (Nan (wide_nan b)) (Real (of_bits binary32 b))

-- the 64 bits of a float; one that is no number has the quiet NaN's
unfoldable pub float_bits : Float → ℕ
float_bits x = cond (is_nan x) 0x7FF8_0000_0000_0000 (to_bits binary64 x)
