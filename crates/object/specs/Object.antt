-- What stands at an offset of a file: Apple's table of objects under docs/FORMAT.md, rules R8 to R15.
use Rattle.std.specs.Prelude.{true, false, cond, List, ℕ, ◌+◌, ◌*◌, ◌^◌, ltb, get_or}
use Rattle.utf.specs.Unicode.{is_utf8, is_utf16}
use Rattle.number.specs.Be.{be}
use Rattle.number.specs.Part.{part}
use Rattle.number.specs.Signed.{signed_of}
use Rattle.number.specs.Width.{bytes_in}
use Rattle.number.specs.declared.width.Width.{Width}
use Rattle.event.specs.Date.{is_date}
use Rattle.event.specs.Real.{real_of, short_real_of}
use Rattle.event.specs.declared.Event.{Event}
use Rattle.event.specs.declared.Event.TheVariants.{Boolean, Date, Integer, Uid}
use Rattle.event.specs.declared.Integer.TheVariants.{Signed, Unsigned}
use Rattle.object.specs.Content.{trailer_at, ends_before, content_at}
use Rattle.object.specs.Kind.{kind_of}
use Rattle.object.specs.Refusal.{number_of, values_of}
use Rattle.object.specs.declared.content.Content.{Content}
use Rattle.object.specs.declared.content.Content.TheVariants.{Fits, Refused}
use Rattle.object.specs.declared.kind.Kind.{Kind}
use Rattle.object.specs.declared.kind.Kind.TheVariants as kind
use Rattle.object.specs.declared.refusal.Refusal.{Refusal}
use Rattle.object.specs.declared.refusal.Refusal.TheVariants.{ObjectOffsetTooLarge, NullObjectUnimplemented, FillObjectUnimplemented, UnknownObjectType, IntegerOutOfRange, InvalidUtf8String, InvalidUtf16String, OverflowOrNanDate}

-- what is found: nothing, since the offset is at or above T; a refusal with its number and values; a scalar; data or text, with where
-- its bytes begin and how many they are; a container with its number of elements or pairs
pub data Found : Type 0 where
  outside : Found
  refused : ℕ → List ℕ → Found
  scalar : Event → Found
  bytes : ℕ → ℕ → Found
  utf8 : ℕ → ℕ → Found
  utf16 : ℕ → ℕ → Found
  array : ℕ → Found
  dictionary : ℕ → Found

unfoldable pub refused_by : Refusal → Found
refused_by r = refused (number_of r) (values_of r)

-- a scalar of fixed size is read from the bytes behind its marker, which must end at or before T (R13)
unfoldable pub fixed_at : List ℕ → ℕ → ℕ → (List ℕ → Found) → Found
fixed_at file offset width read = cond (ends_before file (offset + 1 + width)) (read (part file (offset + 1) width)) (refused_by ObjectOffsetTooLarge)

-- how each kind of fixed size is read (R9, R11)
abbrev pub unsigned_in : List ℕ → Found
unsigned_in s = scalar (Integer (Unsigned (be s)))

abbrev pub signed_in : List ℕ → Found
signed_in s = scalar (Integer (Signed (signed_of (be s))))

-- 16 bytes: an integer from 0 to 2^64 - 1; a larger one is 11
unfoldable pub wide_in : List ℕ → Found
wide_in s = cond (ltb (be s) (2 ^ 64)) (scalar (Integer (Unsigned (be s)))) (refused_by IntegerOutOfRange)

abbrev pub short_real_in : List ℕ → Found
short_real_in s = scalar (short_real_of (be s))

abbrev pub real_in : List ℕ → Found
real_in s = scalar (real_of (be s))

-- a date is finite, else 34
unfoldable pub date_of : ℕ → Found
date_of bits = cond (is_date bits) (scalar (Date bits)) (refused_by OverflowOrNanDate)

abbrev pub date_in : List ℕ → Found
date_in s = date_of (be s)

abbrev pub uid_in : List ℕ → Found
uid_in s = scalar (Uid (be s))

-- what content is, where it ends at or before T
unfoldable pub data_in : Content → Found
data_in (Refused r) = refused_by r
data_in (Fits e) = bytes e.start e.count

-- a 5x is well-formed UTF-8, else 12 (R15)
unfoldable pub utf8_in : List ℕ → Content → Found
utf8_in file (Refused r) = refused_by r
utf8_in file (Fits e) = cond (is_utf8 (part file e.start e.count)) (utf8 e.start e.count) (refused_by InvalidUtf8String)

-- a 6x is well-formed UTF-16, two bytes a unit, else 13 (R15)
unfoldable pub utf16_in : List ℕ → Content → Found
utf16_in file (Refused r) = refused_by r
utf16_in file (Fits e) = cond (is_utf16 (part file e.start (e.count * 2))) (utf16 e.start (e.count * 2)) (refused_by InvalidUtf16String)

-- an array has its number of elements, a dictionary its number of pairs
unfoldable pub array_in : Content → Found
array_in (Refused r) = refused_by r
array_in (Fits e) = array e.count

unfoldable pub dictionary_in : Content → Found
dictionary_in (Refused r) = refused_by r
dictionary_in (Fits e) = dictionary e.count

-- the table of R9; refs is the width of a reference
unfoldable pub by_kind : List ℕ → Width → ℕ → Kind → Found
by_kind file refs offset kind.Null = refused_by NullObjectUnimplemented
by_kind file refs offset kind.False = scalar (Boolean false)
by_kind file refs offset kind.True = scalar (Boolean true)
by_kind file refs offset kind.Fill = refused_by FillObjectUnimplemented
by_kind file refs offset (kind.Unsigned width) = fixed_at file offset width unsigned_in
by_kind file refs offset kind.Signed = fixed_at file offset 8 signed_in
by_kind file refs offset kind.Wide = fixed_at file offset 16 wide_in
by_kind file refs offset kind.ShortReal = fixed_at file offset 4 short_real_in
by_kind file refs offset kind.Real = fixed_at file offset 8 real_in
by_kind file refs offset kind.Date = fixed_at file offset 8 date_in
by_kind file refs offset (kind.Data nibble) = data_in (content_at file offset nibble 1)
by_kind file refs offset (kind.Utf8 nibble) = utf8_in file (content_at file offset nibble 1)
by_kind file refs offset (kind.Utf16 nibble) = utf16_in file (content_at file offset nibble 2)
by_kind file refs offset (kind.Uid width) = fixed_at file offset width uid_in
by_kind file refs offset (kind.Array nibble) = array_in (content_at file offset nibble (bytes_in refs))
by_kind file refs offset (kind.Dictionary nibble) = dictionary_in (content_at file offset nibble (2 * bytes_in refs))
by_kind file refs offset (kind.Unknown marker) = refused_by (UnknownObjectType marker)

-- an offset at or above T is 6, which the caller gives with the earlier place (R8); else the marker there decides
unfoldable pub object_at : List ℕ → Width → ℕ → Found
object_at file refs offset = cond (ltb offset (trailer_at file)) (by_kind file refs offset (kind_of (get_or file offset 0))) outside
