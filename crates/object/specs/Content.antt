-- The length of an object that has one, and the room it needs. docs/FORMAT.md, rules R12 and R13.
use Rattle.std.specs.Prelude.{Bool, true, cond, ◌&&◌, List, ℕ, ◌+◌, ◌-◌, ◌*◌, ◌%◌, ◌^◌, leb, eqb, length, get_or}
use Rattle.number.specs.Be.{be}
use Rattle.number.specs.Part.{part}
use Rattle.object.specs.declared.content.Content.{Content}
use Rattle.object.specs.declared.content.Content.TheVariants.{Fits, Refused}
use Rattle.object.specs.declared.content.Extent.{Extent}
use Rattle.object.specs.declared.refusal.Refusal.TheVariants.{ObjectOffsetTooLarge, InvalidObjectLength}

-- T (R1)
abbrev pub trailer_at : List ℕ → ℕ
trailer_at file = length file - 32

-- the byte in front of a length must be 10, 11, 12 or 13 (R12)
unfoldable pub is_length_byte : ℕ → Bool
is_length_byte byte = leb 0x10 byte && leb byte 0x13

-- its two low bits say how many bytes the length has: 1, 2, 4 or 8 (R12)
unfoldable pub length_width : ℕ → ℕ
length_width byte = 2 ^ (byte % 4)

-- a length is the marker's low half, or if that is 15 it stands behind a byte of its own; the content stands behind it (R12)
unfoldable pub extent_at : List ℕ → ℕ → ℕ → Extent
extent_at file offset nibble =
    cond (eqb nibble 15)
    (record { start = offset + 2 + length_width (get_or file (offset + 1) 0); count = be (part file (offset + 2) (length_width (get_or file (offset + 1) 0))) })
    (record { start = offset + 1; count = nibble })

-- whether a length stands where it should: in the marker, or behind its byte
unfoldable pub has_length : List ℕ → ℕ → ℕ → Bool
has_length file offset nibble = cond (eqb nibble 15) (is_length_byte (get_or file (offset + 1) 0)) true

-- what the head of an object with a length tells: where its content stands, or that the byte in front of the length is refused with 31 (R12).
-- All that has a length goes by this: data, both texts, arrays, dictionaries, and an open container that is looked at again
unfoldable pub head_at : List ℕ → ℕ → ℕ → Content
head_at file offset nibble = cond (has_length file offset nibble) (Fits (extent_at file offset nibble)) (Refused InvalidObjectLength)

-- an object must end at or before T, head and content (R13). All that has bytes behind its marker is measured by this
unfoldable pub ends_before : List ℕ → ℕ → Bool
ends_before file end = leb end (trailer_at file)

unfoldable pub measured : List ℕ → ℕ → Content → Content
measured file each (Refused r) = Refused r
measured file each (Fits e) = cond (ends_before file (e.start + e.count * each)) (Fits e) (Refused ObjectOffsetTooLarge)

-- the content of an object whose elements have a number of bytes each
unfoldable pub content_at : List ℕ → ℕ → ℕ → ℕ → Content
content_at file offset nibble each = measured file each (head_at file offset nibble)
