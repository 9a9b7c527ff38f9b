-- The cases of docs/FORMAT.md, P, that are about one object, computed. The trailer is all zeros, but where its first byte is the length byte of an
-- object right before it.
use Rattle.std.specs.Prelude.{false, List, [], ◌∷◌, ◌++◌, map, ◌≡◌, refl, ℕ, ◌≤◌, negsuc, replicate}
use Rattle.std.proofs.Common.{arith, le-leb}
use Rattle.number.specs.Be.{bytes_of}
use Rattle.number.specs.declared.width.Width.TheVariants.{One}
use Rattle.number.specs.declared.width.Width.{Width}
use Rattle.event.specs.DateLaws.{largest, beyond}
use Rattle.event.specs.Format.{magic}
use Rattle.event.specs.declared.Event.TheVariants.{Boolean, Date, Integer}
use Rattle.event.specs.declared.Integer.TheVariants.{Signed, Unsigned}
use Rattle.object.specs.Computed.{computed}
use Rattle.object.specs.Content.{trailer_at}
use Rattle.object.specs.Object.{Found, refused, scalar, bytes, utf16, object_at}
use Rattle.object.specs.ObjectLaws.{object_inside}

-- what stands at an offset of a file that has these bytes before its trailer, so that T is their number; references of 1 byte
abbrev found : List ℕ → ℕ → Found
found s offset = object_at (s ++ replicate 32 0) One offset

-- P2: `10 FF` is 255
pub p2 : found (0x10 ∷ 0xFF ∷ []) 0 ≡ scalar (Integer (Unsigned 255))
unfolding computed
p2 = refl

-- P3: `13 80` and seven `00` is -9,223,372,036,854,775,808; `negsuc k` is -1 - k
pub p3 : found (0x13 ∷ 0x80 ∷ replicate 7 0) 0 ≡ scalar (Integer (Signed (negsuc 9_223_372_036_854_775_807)))
unfolding computed
p3 = refl

-- P4: `14`, eight `00`, eight `FF` is 18,446,744,073,709,551,615
pub p4 : found (0x14 ∷ replicate 8 0 ++ replicate 8 0xFF) 0 ≡ scalar (Integer (Unsigned 18_446_744_073_709_551_615))
unfolding computed
p4 = refl

-- P5: sixteen `FF` gives 11
pub p5 : found (0x14 ∷ replicate 16 0xFF) 0 ≡ refused 11 []
unfolding computed
p5 = refl

-- P6: `4F 10 02 AB CD` is data; `4F 50 02 AB CD` and `4F 14 02 AB CD` give 31
pub p6 : (found (0x4F ∷ 0x10 ∷ 0x02 ∷ 0xAB ∷ 0xCD ∷ []) 0 ≡ bytes 3 2) × (found (0x4F ∷ 0x50 ∷ 0x02 ∷ 0xAB ∷ 0xCD ∷ []) 0 ≡ refused 31 []) × (found (0x4F ∷ 0x14 ∷ 0x02 ∷ 0xAB ∷ 0xCD ∷ []) 0 ≡ refused 31 [])
unfolding computed
p6 = (refl, refl, refl)

-- P7: `61 D8 00` gives 13
pub p7 : found (0x61 ∷ 0xD8 ∷ 0x00 ∷ []) 0 ≡ refused 13 []
unfolding computed
p7 = refl

-- P8: offset 0 (T at least 5) reads `62`: text of two units, whatever follows the magic
pub p8 : (rest : List ℕ) (refs : Width) → 5 ≤ trailer_at (magic ++ rest) → object_at (magic ++ rest) refs 0 ≡ utf16 1 4
unfolding computed
p8 rest refs h = rw (object_inside (magic ++ rest) refs 0 (omega arith), le-leb 5 (trailer_at (magic ++ rest)) h)

-- T = 10: `41` at 9 would end at 11, in the trailer, and so would `10`; `08` there is false. `4F` there has its length byte in the trailer:
-- 31 where that byte is none, 6 where it is
pub crossing :
    (found (magic ++ 0x09 ∷ 0x41 ∷ []) 9 ≡ refused 6 []) ×
    (found (magic ++ 0x09 ∷ 0x10 ∷ []) 9 ≡ refused 6 []) ×
    (found (magic ++ 0x09 ∷ 0x08 ∷ []) 9 ≡ scalar (Boolean false)) ×
    (found (magic ++ 0x09 ∷ 0x4F ∷ []) 9 ≡ refused 31 []) ×
    (object_at (magic ++ 0x09 ∷ 0x4F ∷ 0x10 ∷ replicate 31 0) One 9 ≡ refused 6 [])
unfolding computed
crossing = (refl, refl, refl, refl, refl)

-- `33` and the bits at the limits: the neighbours of infinity are dates; infinities and NaNs give 34, where the object ends at or before T
pub dates :
    (map (λ (bits : ℕ). found (0x33 ∷ bytes_of 8 bits) 0) largest ≡ map (λ (bits : ℕ). scalar (Date bits)) largest) ×
    (map (λ (bits : ℕ). found (0x33 ∷ bytes_of 8 bits) 0) beyond ≡ replicate 5 (refused 34 [])) ×
    (found (0x33 ∷ 0x7F ∷ 0xF0 ∷ replicate 5 0) 0 ≡ refused 6 [])
unfolding computed
dates = (refl, refl, refl)

-- object at 9, references of 1 byte, `DF 10 1D`, T = 38, and `DF 10 1E`, T = 39: the values run past T
pub pairs : (found (magic ++ 0x00 ∷ 0xDF ∷ 0x10 ∷ 0x1D ∷ replicate 26 0) 9 ≡ refused 6 []) × (found (magic ++ 0x00 ∷ 0xDF ∷ 0x10 ∷ 0x1E ∷ replicate 27 0) 9 ≡ refused 6 [])
unfolding computed
pairs = (refl, refl)
