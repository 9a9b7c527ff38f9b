-- Base 64. RFC 4648, section 4, "Base 64 Encoding", with padding. docs/FORMAT.md, X4.
use Rattle.std.specs.Prelude.{cond, List, [], ◌∷◌, ℕ, ◌+◌, ◌-◌, ◌*◌, ◌/◌, ◌%◌, ltb, eqb, get_or}
use Rattle.digits.specs.Ascii.{ascii}

-- Table 1: the letters of 0 to 63
unfoldable pub alphabet : List ℕ
alphabet = ascii "ABCDEFGHIJKLMNOPQRSTUVWXYZabcdefghijklmnopqrstuvwxyz0123456789+/"

unfoldable pub letter_of : ℕ → ℕ
letter_of v = get_or alphabet v 0

-- 24 bits at a time as four groups of six; 61 is `=`, which stands for what is missing at the end
unfoldable pub base64 : List ℕ → List ℕ
base64 [] = []
base64 (a ∷ []) = letter_of (a / 4) ∷ letter_of (a % 4 * 16) ∷ 61 ∷ 61 ∷ []
base64 (a ∷ b ∷ []) = letter_of (a / 4) ∷ letter_of (a % 4 * 16 + b / 16) ∷ letter_of (b % 16 * 4) ∷ 61 ∷ []
base64 (a ∷ b ∷ c ∷ s) = letter_of (a / 4) ∷ letter_of (a % 4 * 16 + b / 16) ∷ letter_of (b % 16 * 4 + c / 64) ∷ letter_of (c % 64) ∷ base64 s

-- ---- read again

-- the value of a letter: `+` is 62, `/` 63, then the digits, the capitals and the others
unfoldable pub six_of : ℕ → ℕ
six_of c = cond (ltb c 48) (cond (eqb c 43) 62 63) (cond (ltb c 58) (c + 4) (cond (ltb c 91) (c - 65) (c - 71)))

-- the bytes that four letters stand for, by what is missing
unfoldable pub three : ℕ → ℕ → ℕ → ℕ → List ℕ → List ℕ
three a b c d s =
    cond (eqb c 61) ((six_of a * 4 + six_of b / 16) ∷ [])
    (cond (eqb d 61) ((six_of a * 4 + six_of b / 16) ∷ (six_of b % 16 * 16 + six_of c / 4) ∷ [])
    ((six_of a * 4 + six_of b / 16) ∷ (six_of b % 16 * 16 + six_of c / 4) ∷ (six_of c % 4 * 64 + six_of d) ∷ s))

-- the bytes that letters stand for
unfoldable pub unbase64 : List ℕ → List ℕ
unbase64 [] = []
unbase64 (a ∷ []) = []
unbase64 (a ∷ b ∷ []) = []
unbase64 (a ∷ b ∷ c ∷ []) = []
unbase64 (a ∷ b ∷ c ∷ d ∷ s) = three a b c d (unbase64 s)
