-- The sizes that the code finds are the lengths of the bytes.
use Rattle.encode.specs.declared.size.Size.{Size}
use Rattle.std.specs.Prelude.{Bool, true, List, ◌∷◌, ◌++◌, ◌⊎◌, ◌≡◌, refl, ℕ, ◌+◌, ◌^◌, ◌≤◌, ◌<◌, pos, negsuc, get_or, None, Option, Some}
use Rattle.std.proofs.Math.Bool.{false, and-false}
use Rattle.std.proofs.Common.{inl, inr, ap, ◌∙◌, length-append}
use native.Mathlib.Omega.{arith}
use borrow.Author.Tests.{lt-ltb, le-ltb, le-leb, lt-leb, ne_eqb}
use Rattle.std.proofs.Math.Dec.{ltb, leb, eqb}
use Rattle.std.proofs.Math.ListN.{length}
use Rattle.number.specs.BeLaws.{Bytes, length_bytes_of}
use Rattle.event.specs.Meaning.{Meaning, array, dictionary, close, boolean, bytes, date, integer, real, text, uid}
use Rattle.tape.specs.Code.{bytes_for, allowed, OnTape}
use Rattle.tape.proofs.FormLaws.{Stands, reads_written}
use Rattle.tape.specs.Item.{event, read_at}
use Rattle.tape.specs.Seven.{seven}
use Rattle.tape.proofs.StandsLaws.{kind_inside, kind_there, number_there, run_there}
use Rattle.tape.specs.Value.{number_at}
use Rattle.utf.specs.ToUtf16.{units_in}
use Rattle.utf.specs.ToUtf16Walk.{counted, length_utf16}
use Rattle.utf.specs.Unicode.{is_ascii, is_utf8}
use Rattle.written.specs.Encoding.{integer_bytes, head_bytes, text_bytes, scalar_bytes}
use Rattle.written.proofs.EncodingLaws.{length_number_law, head_length, head_pos, head_le}
use Rattle.written.specs.Scalar.{IsScalar, units_for}
use Rattle.encode.specs.Size.{head_size, bytes_alone, integer_size, uid_size, data_size, part_size, text_size, size_behind, size_at}

pub length_head : (base n : ℕ) → length (head_bytes base n) ≡ head_size n
unfolding head_size
length_head base n = head_length base n

pub head_some : (n : ℕ) → 0 < head_size n
head_some n = rw (length_head 0 n) at (head_pos 0 n)

pub head_size_le : (n : ℕ) → head_size n ≤ 10
head_size_le n = rw (length_head 0 n) at (head_le 0 n)

-- the bytes and units of a scalar
abbrev size_for : Meaning → Option Size
size_for m = Some (record { bytes = length (scalar_bytes m); units = units_for m })

-- what a kind and what stands behind it tell
integer_size_law : (n next : ℕ) → integer_size (Some (n, next)) ≡ size_for (integer (pos n))
unfolding integer_size scalar_bytes integer_bytes units_for
integer_size_law n next = go (ltb n (2 ^ 63)) refl
  where
    go : (b : Bool) → ltb n (2 ^ 63) ≡ b → integer_size (Some (n, next)) ≡ size_for (integer (pos n))
    go true e = rw (e, length_number_law)
    go false e = rw (e, length_bytes_of)

uid_size_law : (n next : ℕ) → uid_size (Some (n, next)) ≡ size_for (uid n)
unfolding uid_size scalar_bytes units_for
uid_size_law n next = rw length_bytes_of (ap bytes_alone (omega arith))

-- a head and bytes
length_headed : (base n : ℕ) (s : List ℕ) → length (head_bytes base n ++ s) ≡ head_size n + length s
length_headed base n s = rw (length-append, length_head)

part_size_law : (s : List ℕ) → is_utf8 s ≡ true → part_size s ≡ size_for (text s)
unfolding part_size scalar_bytes text_bytes units_for
part_size_law s h = go (is_ascii s) refl
  where
    go : (b : Bool) → is_ascii s ≡ b → part_size s ≡ size_for (text s)
    go true e = rw (e, length_headed)
    go false e =
        let c = counted s h in
        rw (e, le-ltb (length s) (units_in s) c.1, length_headed, length_utf16, ← c.0)

-- classes of kinds, by the tests of the code
module _ (tape : List ℕ) (k at : ℕ) where
  pub behind_one : 1 ≤ k → k < 3 → size_behind tape k at ≡ bytes_alone 1
  unfolding size_behind
  behind_one h g = rw (le-leb 0x01 k h, le-leb k 0x02 (omega arith))

  pub behind_nine : 4 ≤ k → k < 7 → size_behind tape k at ≡ bytes_alone 9
  unfolding size_behind
  behind_nine h g = rw (le-leb 0x01 k (omega arith), lt-leb k 0x02 (omega arith), le-leb 0x04 k h, le-leb k 0x06 (omega arith))

  pub behind_none : (k < 1) ⊎ (7 ≤ k) → (k ≡ 0x07 → ⊥) → (k ≡ 0x08 → ⊥) → (k ≡ 0x09 → ⊥) → size_behind tape k at ≡ None
  unfolding size_behind
  behind_none (inl h) f g i = let e : k ≡ 0 = omega arith in rw e
  behind_none (inr h) f g i =
      let low : leb k 0x02 ≡ false = lt-leb k 0x02 (omega arith) in
      let six : leb k 0x06 ≡ false = lt-leb k 0x06 h in
      let three : eqb k 0x03 ≡ false = ne_eqb k 0x03 (omega arith) in
      simp (low, six, and-false, three, ne_eqb k 0x07 f, ne_eqb k 0x08 g, ne_eqb k 0x09 i)

module _ (tape : List ℕ) (at : ℕ) where
  -- the kind that stands at a place decides
  pub size_of : (k : ℕ) → at < length tape → get_or tape at 0 ≡ k → size_at tape at ≡ size_behind tape k (at + 1)
  unfolding size_at
  size_of k h e = rw (lt-ltb at (length tape) h, e)

  pub size_past : length tape ≤ at → size_at tape at ≡ None
  unfolding size_at
  size_past h = rw (le-ltb at (length tape) h)

  size_there : {k : ℕ} {s : List ℕ} {next : ℕ} → Stands tape at (k ∷ s) next → size_at tape at ≡ size_behind tape k (at + 1)
  size_there {k} st = size_of k (kind_inside st) (kind_there st)

  size_run : {k next : ℕ} (s : List ℕ) → length s < 2 ^ 64 → Stands tape at (k ∷ (seven (length s) ++ s)) next →
      (data_size (length tape) (number_at tape (at + 1)) ≡ bytes_alone (head_size (length s) + length s)) × (text_size tape (number_at tape (at + 1)) ≡ part_size s)
  unfolding data_size text_size
  size_run s h st =
      let r = run_there s h st in
      let l : ltb (length tape) (r.start + length s) ≡ false = le-ltb (length tape) (r.start + length s) r.room in
      (rw (r.number, l), rw (r.number, l, r.bytes))

  module _ (next : ℕ) where
    size_written : (m : Meaning) → IsScalar m → OnTape m → Stands tape at (bytes_for m) next → size_at tape at ≡ size_for m
    unfolding bytes_for allowed size_behind scalar_bytes integer_bytes units_for
    size_written (array n) i h st = absurd i
    size_written (dictionary n) i h st = absurd i
    size_written close i h st = absurd i
    size_written (boolean false) i h st = size_there st
    size_written (boolean true) i h st = size_there st
    size_written (bytes s) i h st = size_there st ∙ (size_run s h.0 st).0 ∙ rw length_headed
    size_written (date b) i h st = size_there st ∙ rw length_bytes_of
    size_written (integer (pos n)) i h st = size_there st ∙ rw (number_there n h.0 st) (integer_size_law n next)
    size_written (integer (negsuc k)) i h st = size_there st ∙ rw length_bytes_of
    size_written (real b) i h st = size_there st ∙ rw length_bytes_of
    size_written (text s) i h st = size_there st ∙ (size_run s h.0 st).1 ∙ part_size_law s h.1
    size_written (uid n) i h st = size_there st ∙ rw (number_there n h.0 st) (uid_size_law n next)

    -- the size of a scalar that is read at a place
    pub size_scalar : (m : Meaning) → Bytes tape → read_at tape at ≡ event m next → IsScalar m → size_at tape at ≡ Some (record { bytes = length (scalar_bytes m); units = units_for m })
    size_scalar m good e i =
        let w = reads_written tape at m next good e in
        size_written m i w.held w.stands
