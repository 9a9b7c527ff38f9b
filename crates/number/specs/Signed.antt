-- Signed numbers of 64 bits; `pos n` is n and `negsuc k` is -1 - k.
use Rattle.std.specs.Prelude.{cond, ℕ, ◌-◌, ltb, ℤ, pos, negsuc, None, Option, Some}

-- two's complement of 8 bytes: n below 2^63, else n - 2^64, which is -1 - (2^64 - 1 - n)
unfoldable pub signed_of : ℕ → ℤ
signed_of n = cond (ltb n 0x8000_0000_0000_0000) (pos n) (negsuc (0xffff_ffff_ffff_ffff - n))

-- the other way: a negative number has 2^64 added
unfoldable pub bits_of : ℤ → ℕ
bits_of (pos n) = n
bits_of (negsuc k) = 0xffff_ffff_ffff_ffff - k

-- what stands on the tape for an integer from 0 on, and for a negative one (docs/FORMAT.md, T2)
unfoldable pub magnitude_of : ℤ → ℕ
magnitude_of (pos n) = n
magnitude_of (negsuc k) = k

-- and back: no integer is below -2^63 (T3)
unfoldable pub negative_of : ℕ → Option ℤ
negative_of k = cond (ltb k 0x8000_0000_0000_0000) (Some (negsuc k)) None
