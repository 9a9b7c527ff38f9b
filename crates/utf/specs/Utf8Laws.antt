-- What follows from table 3-7: text after text, ASCII in front, a bad byte.
use Rattle.std.specs.Prelude.{Bool, true, false, ◌≡◌, refl, List, [], ◌∷◌, ◌++◌, ℕ, ◌<◌, ltb, None, Option, Some}
use Rattle.std.proofs.lemmas.Bool.{false≢true}
use Rattle.std.proofs.Common.{sym, ◌∙◌, arith, ltb-true, le-leb}
use Rattle.utf.specs.Tests.{and_left, and_right}
use Rattle.utf.specs.Unicode.{Range, within, table, row_of, well_formed, is_utf8, is_ascii}

-- a first byte that a row has: the rest of the row is to come
pub first_in : (b : ℕ) (s : List ℕ) {rs : List Range} → row_of table b ≡ Some rs → well_formed [] (b ∷ s) ≡ well_formed rs s
unfolding well_formed
first_in b s e = rw (e, well_formed)

-- a first byte that no row has
pub first_out : (b : ℕ) (s : List ℕ) → row_of table b ≡ None → well_formed [] (b ∷ s) ≡ false
unfolding well_formed
first_out b s e = rw (e, well_formed)

-- a later byte within its range: the ranges after it are to come
pub next_in_law : (r : Range) (rs : List Range) (b : ℕ) (s : List ℕ) → within r b ≡ true → well_formed (r ∷ rs) (b ∷ s) ≡ well_formed rs s
unfolding well_formed
next_in_law r rs b s e = rw e

-- a later byte outside its range
pub next_out : (r : Range) (rs : List Range) (b : ℕ) (s : List ℕ) → within r b ≡ false → well_formed (r ∷ rs) (b ∷ s) ≡ false
unfolding well_formed
next_out r rs b s e = rw e

-- bytes that end what was begun, in front of others: the others decide
pub well_formed_append : (rs : List Range) (s t : List ℕ) → well_formed rs s ≡ true → well_formed rs (s ++ t) ≡ well_formed [] t
unfolding well_formed
well_formed_append [] [] t h = refl
well_formed_append (r ∷ rs) [] t h = absurd (false≢true h)
well_formed_append [] (b ∷ s) t h = go (row_of table b) refl (λ (rs : List Range). well_formed_append rs s t)
  where
    go : (o : Option (List Range)) → row_of table b ≡ o → ((rs : List Range) → well_formed rs s ≡ true → well_formed rs (s ++ t) ≡ well_formed [] t) → well_formed [] (b ∷ s ++ t) ≡ well_formed [] t
    go None e ih = absurd (false≢true (sym (first_out b s e) ∙ h))
    go (Some rs) e ih = first_in b (s ++ t) e ∙ ih rs (sym (first_in b s e) ∙ h)
well_formed_append (r ∷ rs) (b ∷ s) t h = go (within r b) refl (well_formed_append rs s t)
  where
    go : (o : Bool) → within r b ≡ o → (well_formed rs s ≡ true → well_formed rs (s ++ t) ≡ well_formed [] t) → well_formed (r ∷ rs) (b ∷ s ++ t) ≡ well_formed [] t
    go true e ih = next_in_law r rs b (s ++ t) e ∙ ih (sym (next_in_law r rs b s e) ∙ h)
    go false e ih = absurd (false≢true (sym (next_out r rs b s e) ∙ h))

-- whole text in front of bytes: the bytes decide
pub utf8_append : (s t : List ℕ) → is_utf8 s ≡ true → is_utf8 (s ++ t) ≡ is_utf8 t
unfolding is_utf8
utf8_append s t h = well_formed_append [] s t h

-- a byte that no row begins with, after whole text, makes the answer no
pub utf8_bad : (s : List ℕ) (b : ℕ) (t : List ℕ) → is_utf8 s ≡ true → row_of table b ≡ None → is_utf8 (s ++ b ∷ t) ≡ false
unfolding is_utf8
utf8_bad s b t h e = well_formed_append [] s (b ∷ t) h ∙ first_out b t e

-- an ASCII byte is a sequence by itself
pub ascii_row : (b : ℕ) → b < 0x80 → row_of table b ≡ Some []
unfolding row_of table within
ascii_row b h = rw (le-leb 0 b (omega arith), le-leb b 0x7F (omega arith))

-- an ASCII byte in front changes nothing
pub ascii_first : (b : ℕ) (s : List ℕ) → b < 0x80 → is_utf8 (b ∷ s) ≡ is_utf8 s
unfolding is_utf8
ascii_first b s h = first_in b s (ascii_row b h)

-- a list of ASCII bytes begins with one, and goes on with them
pub ascii_cons : (b : ℕ) (s : List ℕ) → is_ascii (b ∷ s) ≡ true → (b < 0x80) × (is_ascii s ≡ true)
unfolding is_ascii
ascii_cons b s h = (ltb-true b 0x80 (and_left (ltb b 0x80) (is_ascii s) h), and_right (ltb b 0x80) (is_ascii s) h)

-- ASCII is UTF-8
pub ascii_utf8 : (s : List ℕ) → is_ascii s ≡ true → is_utf8 s ≡ true
unfolding is_utf8 well_formed
ascii_utf8 [] h = refl
ascii_utf8 (b ∷ s) h = let k = ascii_cons b s h in ascii_first b s k.0 ∙ ascii_utf8 s k.1
