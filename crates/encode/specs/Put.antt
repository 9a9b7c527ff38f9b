-- Bytes that are put at the start of lent memory, and the bytes of the scalar that stands at a place of a tape.
use Rattle.std.specs.Prelude.{cond, List, [], ◌∷◌, ◌++◌, ℕ, ◌+◌, ◌-◌, ltb, leb, eqb, pos, length, get_or, None, Option, Some}
use Rattle.std.proofs.lemmas.List.Edits.{sets}
use Rattle.number.specs.Be.{bytes_of}
use Rattle.number.specs.Size.{size_of}
use Rattle.number.specs.Part.{part}
use Rattle.tape.specs.Value.{number_at}
use Rattle.utf.specs.Unicode.{to_utf16}
use Rattle.written.specs.Encoding.{integer_bytes, head_bytes}
use Rattle.encode.specs.declared.put.Base.{Base}
use Rattle.encode.specs.declared.put.Base.TheVariants.{Data, Ascii, Utf16, Array, Dictionary}
use Rattle.encode.specs.declared.put.Put.{Put}
use Rattle.encode.specs.declared.put.Put.TheVariants.{Bytes, NoRoom, NoScalar}

-- the memory afterwards: the bytes at its start where it has room for all of them, or unchanged
unfoldable pub put_into : List ℕ → List ℕ → List ℕ
put_into l s = cond (leb (length s) (length l)) (sets l 0 s) l

-- the answer: how many bytes they are, where there is room for all of them
unfoldable pub put_of : List ℕ → List ℕ → Put
put_of l s = cond (leb (length s) (length l)) (Bytes (length s)) NoRoom

-- the same of a scalar's bytes: each object has a marker, so no bytes are no scalar
unfoldable pub scalar_of : List ℕ → List ℕ → Put
scalar_of l [] = NoScalar
scalar_of l (b ∷ s) = put_of l (b ∷ s)

-- Apple's table of objects: data 4x, ASCII 5x, UTF-16 6x, array Ax, dictionary Dx
unfoldable pub base_of : Base → ℕ
base_of Data = 0x40
base_of Ascii = 0x50
base_of Utf16 = 0x60
base_of Array = 0xA0
base_of Dictionary = 0xD0

-- an object of the number that stands on the tape
unfoldable pub numbered : (ℕ → List ℕ) → Option (ℕ × ℕ) → List ℕ
numbered f (Some (n, next)) = f n
numbered f None = []

-- an integer at or above zero (W8)
unfoldable pub positive : ℕ → List ℕ
positive n = integer_bytes (pos n)

-- the negative integer -1 - n, in two's complement (W8)
unfoldable pub negative : ℕ → List ℕ
negative n = 0x13 ∷ bytes_of 8 (0xffff_ffff_ffff_ffff - n)

unfoldable pub uid_bytes : ℕ → List ℕ
uid_bytes n = (0x7F + size_of n) ∷ bytes_of (size_of n) n

-- a marker and the tape's own eight bytes, where they lie within it
unfoldable pub eight_in : List ℕ → ℕ → ℕ → List ℕ
eight_in tape at marker = cond (leb (at + 8) (length tape)) (marker ∷ part tape at 8) []

-- an object of so many bytes of the tape, where they lie within it
unfoldable pub run_in : List ℕ → (List ℕ → List ℕ) → Option (ℕ × ℕ) → List ℕ
run_in tape f (Some (n, at)) = cond (leb (at + n) (length tape)) (f (part tape at n)) []
run_in tape f None = []

-- bytes behind their head
unfoldable pub headed : ℕ → List ℕ → List ℕ
headed base s = head_bytes base (length s) ++ s

-- a text in UTF-16 behind a head of so many units; that it is a text is a matter of the tape's check
unfoldable pub in_utf16 : ℕ → List ℕ → List ℕ
in_utf16 units s = head_bytes 0x60 units ++ to_utf16 s

-- a text: 0 units say that it is ASCII
unfoldable pub text_in : List ℕ → ℕ → Option (ℕ × ℕ) → List ℕ
text_in tape units v = cond (eqb units 0) (run_in tape (headed 0x50) v) (run_in tape (in_utf16 units) v)

-- what stands behind a kind, from a place on
unfoldable pub of_kind : List ℕ → ℕ → ℕ → ℕ → List ℕ
of_kind tape kind at units =
    cond (eqb kind 0x01) (0x08 ∷ [])
    (cond (eqb kind 0x02) (0x09 ∷ [])
    (cond (eqb kind 0x03) (numbered positive (number_at tape at))
    (cond (eqb kind 0x04) (numbered negative (number_at tape at))
    (cond (eqb kind 0x05) (eight_in tape at 0x23)
    (cond (eqb kind 0x06) (eight_in tape at 0x33)
    (cond (eqb kind 0x07) (numbered uid_bytes (number_at tape at))
    (cond (eqb kind 0x08) (run_in tape (headed 0x40) (number_at tape at))
    (cond (eqb kind 0x09) (text_in tape units (number_at tape at))
    []))))))))

-- the bytes of the scalar at a place; none where no scalar stands there
unfoldable pub bytes_at : List ℕ → ℕ → ℕ → List ℕ
bytes_at tape at units = cond (ltb at (length tape)) (of_kind tape (get_or tape at 0) (at + 1) units) []
