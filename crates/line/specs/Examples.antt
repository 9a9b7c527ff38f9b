-- Computed lines: the listing of P10 of docs/FORMAT.md and its trace, whole; and both ends of what a line can hold.
use Rattle.std.specs.Prelude.{true, false, [], ◌∷◌, ◌++◌, map, ◌≡◌, refl, pos, negsuc, None, Some}
use Rattle.event.specs.Meaning.{array, dictionary, close, boolean, bytes, date, integer, real, text, uid}
use Rattle.digits.specs.Ascii.{ascii}
use Rattle.line.specs.Computed.{computed}
use Rattle.line.specs.Line.{line_of, trace_of, refusal_line}
use Rattle.line.specs.Put.{fixed_line}
use Rattle.line.specs.declared.put.Fixed.TheVariants.{Events, End, Stopped}

pub p10 : fixed_line Events ++ line_of (array (Some 3)) ++ line_of (integer (pos 1)) ++ line_of (text (0x61 ∷ [])) ++ line_of (integer (pos 1)) ++ line_of close ++ fixed_line End ≡ ascii "events\narray 3\nint 1\nstr 1 61\nint 1\nclose\nend\n"
unfolding computed
p10 = refl

pub p10_trace : fixed_line Events ++ trace_of 0 8 (array (Some 3)) ++ trace_of 1 12 (integer (pos 1)) ++ trace_of 2 14 (text (0x61 ∷ [])) ++ trace_of 1 12 (integer (pos 1)) ++ trace_of 0 8 close ++ fixed_line End ≡ ascii "events\narray 3 #0 @8\nint 1 #1 @12\nstr 1 61 #2 @14\nint 1 #1 @12\nclose #0 @8\nend\n"
unfolding computed
p10_trace = refl

-- the greatest number and offset
pub far : trace_of 0xffff_ffff 0xffff_ffff_ffff_ffff (bytes []) ≡ ascii "data 0 #4294967295 @18446744073709551615\n"
unfolding computed
far = refl

-- the other kinds, and a container whose length is not given
pub others : line_of (dictionary (Some 10)) ++ line_of (boolean true) ++ line_of (boolean false) ++ line_of (uid 7) ++ line_of (array None) ≡ ascii "dict 10\ntrue\nfalse\nuid 7\narray\n"
unfolding computed
others = refl

-- -2^63, -1, 0, and 2^64 - 1
pub integers : map line_of (integer (negsuc 0x7fff_ffff_ffff_ffff) ∷ integer (negsuc 0) ∷ integer (pos 0) ∷ integer (pos 0xffff_ffff_ffff_ffff) ∷ []) ≡ map ascii ("int -9223372036854775808\n" ∷ "int -1\n" ∷ "int 0\n" ∷ "int 18446744073709551615\n" ∷ [])
unfolding computed
integers = refl

-- nothing follows a length 0, not even a space
pub data_lines : map line_of (bytes [] ∷ text [] ∷ bytes (0 ∷ 0xff ∷ []) ∷ []) ≡ map ascii ("data 0\n" ∷ "str 0\n" ∷ "data 2 00ff\n" ∷ [])
unfolding computed
data_lines = refl

pub bits : line_of (real 0x3ff8_0000_0000_0000) ≡ ascii "real 3ff8000000000000\n"
unfolding computed
bits = refl

-- 0, and -0
pub epoch_lines : map (λ b. line_of (date b)) (0 ∷ 0x8000_0000_0000_0000 ∷ []) ≡ map ascii ("date 2001-01-01T00:00:00Z\n" ∷ "date 2001-01-01T00:00:00Z\n" ∷ [])
unfolding computed
epoch_lines = refl

-- the first second, and half a second before the end
pub end_lines : map (λ b. line_of (date b)) (0xC22D_63C3_7F00_0000 ∷ 0x424D_62D2_3C7F_C000 ∷ []) ≡ map ascii ("date 0001-01-01T00:00:00Z\n" ∷ "date 9999-12-31T23:59:59Z\n" ∷ [])
unfolding computed
end_lines = refl

-- the end itself, and a NaN
pub no_date_lines : map (λ b. line_of (date b)) (0x424D_62D2_3C80_0000 ∷ 0xFFF8_0000_0000_0000 ∷ []) ≡ map ascii ("date 424d62d23c800000\n" ∷ "date fff8000000000000\n" ∷ [])
unfolding computed
no_date_lines = refl

pub ends : refusal_line 14 8 ++ fixed_line Stopped ≡ ascii "refused 14 at 8\nstopped\n"
unfolding computed
ends = refl
