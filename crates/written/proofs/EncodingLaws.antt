-- How many bytes a scalar has.
use Rattle.std.specs.Prelude.{Bool, true, false, cond, List, [], ◌++◌, ◌≡◌, refl, ℕ, suc, ◌+◌, ◌*◌, ◌^◌, ◌≤◌, ◌<◌, ltb, pos, negsuc, length}
use Rattle.std.proofs.Common.{arith, length-append}
use Rattle.number.specs.BeLaws.{length_bytes_of}
use Rattle.number.specs.Size.{size_of}
use Rattle.number.specs.SizeLaws.{sized, sized_le}
use Rattle.event.specs.Meaning.{Meaning, array, dictionary, close, boolean, bytes, date, integer, real, text, uid}
use Rattle.tape.specs.Code.{bytes_for, allowed}
use Rattle.tape.specs.Seven.{seven}
use Rattle.utf.specs.ToUtf16Walk.{counted, length_utf16}
use Rattle.utf.specs.Unicode.{is_ascii, is_utf8, utf16, scalars8, to_utf16}
use Rattle.written.specs.Encoding.{number_bytes, integer_bytes, head_bytes, text_bytes, scalar_bytes}
use Rattle.written.specs.Scalar.{IsScalar}

pub length_number_law : (n : ℕ) → length (number_bytes n) ≡ 1 + size_of n
unfolding number_bytes
length_number_law n = rw length_bytes_of (omega arith)

-- a head is one byte, or that and a number
pub head_length : (base n : ℕ) → length (head_bytes base n) ≡ cond (ltb n 15) 1 (2 + size_of n)
unfolding head_bytes
head_length base n = go (ltb n 15)
  where
    go : (b : Bool) → suc (length (cond b [] (number_bytes n))) ≡ cond b 1 (2 + size_of n)
    go true = refl
    go false = rw length_number_law (omega arith)

pub head_pos : (base n : ℕ) → 0 < length (head_bytes base n)
unfolding head_bytes
head_pos base n = omega arith

pub head_le : (base n : ℕ) → length (head_bytes base n) ≤ 10
head_le base n = rw head_length (go (ltb n 15))
  where
    go : (b : Bool) → cond b 1 (2 + size_of n) ≤ 10
    go true = omega arith
    go false = omega (arith, sized_le (sized n))

-- of two ways, one
either : (P : ℕ → Type 0) (b : Bool) (s t : List ℕ) → P (length s) → P (length t) → P (length (cond b s t))
either P true s t h k = h
either P false s t h k = k

headed_pos : (base n : ℕ) (s : List ℕ) → 0 < length (head_bytes base n ++ s)
headed_pos base n s = rw length-append (omega (arith, head_pos base n))

-- no scalar is empty
pub scalar_pos : (m : Meaning) → IsScalar m → 0 < length (scalar_bytes m)
unfolding scalar_bytes integer_bytes text_bytes
scalar_pos (array n) i = absurd i
scalar_pos (dictionary n) i = absurd i
scalar_pos close i = absurd i
scalar_pos (boolean false) i = omega arith
scalar_pos (boolean true) i = omega arith
scalar_pos (bytes s) i = headed_pos 0x40 (length s) s
scalar_pos (date b) i = omega arith
scalar_pos (integer (pos n)) i = either (λ (l : ℕ). 0 < l) (ltb n (2 ^ 63)) _ _ (rw length_number_law (omega arith)) (omega arith)
scalar_pos (integer (negsuc k)) i = omega arith
scalar_pos (real b) i = omega arith
scalar_pos (text s) i = either (λ (l : ℕ). 0 < l) (is_ascii s) _ _ (headed_pos 0x50 (length s) s) (headed_pos 0x60 (length (utf16 (scalars8 s))) (to_utf16 s))
scalar_pos (uid n) i = omega arith

headed_le : (base n k : ℕ) (s : List ℕ) → length s ≤ k → length (head_bytes base n ++ s) ≤ k + 10
headed_le base n k s h = rw length-append (omega (arith, head_le base n))

text_le : (s : List ℕ) → is_utf8 s ≡ true → length (text_bytes s) ≤ 2 * length s + 10
unfolding text_bytes
text_le s h =
    let c = counted s h in
    let w : length (to_utf16 s) ≤ 2 * length s = rw length_utf16 (omega arith) in
    either (λ (l : ℕ). l ≤ 2 * length s + 10) (is_ascii s) _ _ (headed_le 0x50 (length s) (2 * length s) s (omega arith)) (headed_le 0x60 (length (utf16 (scalars8 s))) (2 * length s) (to_utf16 s) w)

-- a scalar has little more than twice the bytes of its event
pub scalar_size_le : (m : Meaning) → allowed m ≡ true → length (scalar_bytes m) ≤ 2 * length (bytes_for m) + 17
unfolding scalar_bytes integer_bytes bytes_for allowed
scalar_size_le (array n) h = omega arith
scalar_size_le (dictionary n) h = omega arith
scalar_size_le close h = omega arith
scalar_size_le (boolean false) h = omega arith
scalar_size_le (boolean true) h = omega arith
scalar_size_le (bytes s) h = simp length-append (omega (arith, head_le 0x40 (length s)))
scalar_size_le (date b) h = rw length_bytes_of (omega arith)
scalar_size_le (integer (pos n)) h = either (λ (l : ℕ). l ≤ 2 * suc (length (seven n)) + 17) (ltb n (2 ^ 63)) _ _ (rw length_number_law (omega (arith, sized_le (sized n)))) (rw length_bytes_of (omega arith))
scalar_size_le (integer (negsuc k)) h = rw length_bytes_of (omega arith)
scalar_size_le (real b) h = rw length_bytes_of (omega arith)
scalar_size_le (text s) h = rw length-append (omega (arith, text_le s h))
scalar_size_le (uid n) h = rw length_bytes_of (omega (arith, sized_le (sized n)))
