-- Computed numbers and days and times: both ends of what they can be.
use Rattle.std.specs.Prelude.{◌≡◌, refl, [], ◌∷◌, map, pos, negsuc}
use Rattle.calendar.specs.Cases.{at}
use Rattle.digits.specs.Ascii.{ascii}
use Rattle.digits.specs.Computed.{computed}
use Rattle.digits.specs.Digits.{decimal, signed}
use Rattle.digits.specs.Stamp.{stamp}

-- 2^63 and 2^64 - 1 among them
pub decimals : map decimal (0 ∷ 9 ∷ 10 ∷ 99 ∷ 100 ∷ 0x8000_0000_0000_0000 ∷ 0xffff_ffff_ffff_ffff ∷ []) ≡ map ascii ("0" ∷ "9" ∷ "10" ∷ "99" ∷ "100" ∷ "9223372036854775808" ∷ "18446744073709551615" ∷ [])
unfolding computed
decimals = refl

-- -1, and -2^63
pub integers : map signed (pos 0 ∷ pos 1 ∷ negsuc 0 ∷ negsuc 0x7fff_ffff_ffff_ffff ∷ []) ≡ map ascii ("0" ∷ "1" ∷ "-1" ∷ "-9223372036854775808" ∷ [])
unfolding computed
integers = refl

-- the epoch; the first second and the last
pub stamps : map stamp (at 2001 1 1 0 0 0 ∷ at 1 1 1 0 0 0 ∷ at 9999 12 31 23 59 59 ∷ []) ≡ map ascii ("2001-01-01T00:00:00Z" ∷ "0001-01-01T00:00:00Z" ∷ "9999-12-31T23:59:59Z" ∷ [])
unfolding computed
stamps = refl

-- of a day that there isn't, the low digits
pub no_day : stamp (at 12345 100 0 24 60 61) ≡ ascii "2345-00-00T24:60:61Z"
unfolding computed
no_day = refl
