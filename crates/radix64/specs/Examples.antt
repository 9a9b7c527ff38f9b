-- RFC 4648, section 10: the test vectors of base 64, computed, and read again.
use Rattle.std.specs.Prelude.{[], ◌∷◌, map, ◌≡◌, refl}
use Rattle.digits.specs.Ascii.{ascii}
use Rattle.radix64.specs.Base64.{base64, unbase64}
use Rattle.radix64.specs.Computed.{computed}

pub vectors :
    map base64 (map ascii ("" ∷ "f" ∷ "fo" ∷ "foo" ∷ "foob" ∷ "fooba" ∷ "foobar" ∷ [])) ≡
    map ascii ("" ∷ "Zg==" ∷ "Zm8=" ∷ "Zm9v" ∷ "Zm9vYg==" ∷ "Zm9vYmE=" ∷ "Zm9vYmFy" ∷ [])
unfolding computed
vectors = refl

pub vectors_again :
    map unbase64 (map ascii ("" ∷ "Zg==" ∷ "Zm8=" ∷ "Zm9v" ∷ "Zm9vYg==" ∷ "Zm9vYmE=" ∷ "Zm9vYmFy" ∷ [])) ≡
    map ascii ("" ∷ "f" ∷ "fo" ∷ "foo" ∷ "foob" ∷ "fooba" ∷ "foobar" ∷ [])
unfolding computed
vectors_again = refl

-- the alphabet's ends: its first letter, its last and the one before it
pub corners : map base64 ((0x00 ∷ 0x00 ∷ 0x00 ∷ []) ∷ (0xFF ∷ 0xFF ∷ 0xFF ∷ []) ∷ (0xFB ∷ 0xEF ∷ 0xBE ∷ []) ∷ []) ≡ map ascii ("AAAA" ∷ "////" ∷ "++++" ∷ [])
unfolding computed
corners = refl
