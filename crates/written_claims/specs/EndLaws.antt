-- What is written of an object is all of it: it ends where its bytes end, and a length behind the marker has its own marker.
use Rattle.std.specs.Prelude.{Bool, ◌≡◌, ℕ, suc, ◌+◌, ◌*◌, ◌^◌, ◌≤◌, ◌<◌, ℤ, pos, negsuc}
use Rattle.std.proofs.Math.Bool.{true, false}
use mathlib.Core.List.{List, [], ◌∷◌, ◌++◌}
use Rattle.std.proofs.Math.Path.{refl, sym}
use Rattle.std.proofs.Common.{◌∙◌, mul-add, lit≤, length-append}
use Rattle.std.proofs.Math.Nat.{add-sub_cancel_left, add-mul}
use native.Mathlib.Omega.{arith}
use borrow.Author.Tests.{ltb-true}
use Rattle.std.proofs.Math.Dec.{ltb}
use Rattle.std.proofs.Math.ListN.{length, get_or}
use Rattle.number.specs.Be.{bytes_of}
use Rattle.number.specs.BeLaws.{length_bytes_of}
use Rattle.number.specs.Signed.{bits_of}
use Rattle.number.specs.Size.{size_of}
use Rattle.number.specs.SizeLaws.{Sized, one, two, four, eight, sized, sized_pos, sized_le}
use Rattle.number.specs.Width.{bytes_in}
use Rattle.number.specs.declared.width.Width.{Width}
use Rattle.event.specs.Meaning.{Meaning, array, dictionary, close, boolean, bytes, date, integer, real, text, uid}
use Rattle.utf.specs.ToUtf16Walk.{length_utf16, counted}
use Rattle.utf.specs.Unicode.{is_ascii, is_utf8, utf16, scalars8, to_utf16}
use Rattle.object.specs.Content.{extent_at}
use Rattle.object.specs.Kind.{kind_of}
use Rattle.object.specs.KindLaws.{kind_data, kind_utf8, kind_utf16, kind_uid, kind_array, kind_dictionary}
use Rattle.object.specs.declared.kind.Kind.{Kind}
use Rattle.object.specs.declared.kind.Kind.TheVariants as kind
use Rattle.tape.specs.Code.{allowed, OnTape}
use Rattle.written.specs.Encoding.{size_marker, number_bytes, integer_bytes, nibble_of, head_bytes, text_bytes, scalar_bytes, numbers_bytes, Object, lone, list, pairs, object_bytes}
use Rattle.written.proofs.FileLaws.{length_numbers}
use Rattle.written.specs.Scalar.{IsScalar}
use Rattle.object.specs.End.{behind_all, end_by, end_at}
use Rattle.written_claims.specs.End.{nibble_in, nibble_at, LengthByte}
use Rattle.written_claims.specs.HeadLaws.{kind_nibble, headed}
use Rattle.written_claims.specs.Shown.{Fine}
use Rattle.written_claims.specs.Stands.{Stands, Whole, stands_front, stands_back, stands_byte}

marker_between : {w : ℕ} → Sized w → LengthByte (size_marker w)
unfolding size_marker
marker_between one = (lit≤ tt, lit≤ tt)
marker_between two = (lit≤ tt, lit≤ tt)
marker_between four = (lit≤ tt, lit≤ tt)
marker_between eight = (lit≤ tt, lit≤ tt)

module _ (file : List ℕ) (refs : Width) (at : ℕ) where
  -- an object of these bytes ends behind them
  pub record Ended (s : List ℕ) : Type 0 where
    pub ends : end_at file refs at ≡ at + length s
    pub marked : nibble_at file at ≡ 15 → LengthByte (get_or file (at + 1) 0)

  -- a kind without a length
  plain_ended : (marker : ℕ) (s : List ℕ) → nibble_in (kind_of marker) ≡ 0 → end_by file refs at (kind_of marker) ≡ at + suc (length s) → Whole file at (marker ∷ s) → Ended (marker ∷ s)
  unfolding end_at nibble_at
  plain_ended marker s none e wh =
      let b = stands_byte file at marker s wh.stands in
      record { ends = rw b e; marked = λ n. absurd (let z : 0 ≡ 15 = sym none ∙ rw b at n in omega arith) }

  number_ended : (marker w n : ℕ) → nibble_in (kind_of marker) ≡ 0 → end_by file refs at (kind_of marker) ≡ at + 1 + w → Whole file at (marker ∷ bytes_of w n) → Ended (marker ∷ bytes_of w n)
  number_ended marker w n none e wh = plain_ended marker (bytes_of w n) none (e ∙ rw length_bytes_of (omega arith)) wh

  sized_ended : (w n : ℕ) → Sized w → Whole file at (size_marker w ∷ bytes_of w n) → Ended (size_marker w ∷ bytes_of w n)
  unfolding size_marker end_by nibble_in kind_of
  sized_ended _ n one wh = number_ended 0x10 1 n refl refl wh
  sized_ended _ n two wh = number_ended 0x11 2 n refl refl wh
  sized_ended _ n four wh = number_ended 0x12 4 n refl refl wh
  sized_ended _ n eight wh = number_ended 0x13 8 n refl refl wh

  integer_ended : (z : ℤ) → Whole file at (integer_bytes z) → Ended (integer_bytes z)
  unfolding integer_bytes number_bytes end_by nibble_in kind_of
  integer_ended (pos n) wh = go (ltb n (2 ^ 63)) refl
    where
      go : (b : Bool) → ltb n (2 ^ 63) ≡ b → Ended (integer_bytes (pos n))
      go true e = rw e (sized_ended (size_of n) n (sized n) (rw e at wh))
      go false e = rw e (number_ended 0x14 16 n refl refl (rw e at wh))
  integer_ended (negsuc k) wh = number_ended 0x13 8 (bits_of (negsuc k)) refl refl wh

  uid_ended : (n : ℕ) → Whole file at (scalar_bytes (uid n)) → Ended (scalar_bytes (uid n))
  unfolding scalar_bytes end_by nibble_in
  uid_ended n wh =
      let w = size_of n in
      let le : w ≤ 8 = sized_le (sized n) in
      let gt : 0 < w = sized_pos (sized n) in
      let k : kind_of (0x7F + w) ≡ kind.Uid w = kind_uid (0x7F + w) (omega arith) (omega arith) ∙ rw add-sub_cancel_left in
      number_ended (0x7F + w) w n (rw k) (rw k) wh

  -- a length of 15 and more stands behind its own marker
  length_marked : (base n : ℕ) → nibble_of n ≡ 15 → Stands file at (head_bytes base n) → LengthByte (get_or file (at + 1) 0)
  unfolding head_bytes nibble_of number_bytes
  length_marked base n e st = go (ltb n 15) refl
    where
      go : (b : Bool) → ltb n 15 ≡ b → LengthByte (get_or file (at + 1) 0)
      go true f = absurd (let z : n ≡ 15 = rw f at e in omega (arith, ltb-true n 15 f))
      go false f =
          let w = size_of n in
          let s : Stands file at ((base + 15) ∷ size_marker w ∷ bytes_of w n) = rw f at st in
          let g : get_or file (at + 1) 0 ≡ size_marker w = stands_byte file (at + 1) (size_marker w) (bytes_of w n) (stands_back file at ((base + 15) ∷ []) (size_marker w ∷ bytes_of w n) s) in
          rw g (marker_between (sized n))

  -- a kind with a length, and elements of so many bytes each
  head_ended : (base n each : ℕ) (s : List ℕ) (k : ℕ → Kind) → kind_of (base + nibble_of n) ≡ k (nibble_of n) → ((m : ℕ) → nibble_in (k m) ≡ m)
      → ((m : ℕ) → end_by file refs at (k m) ≡ behind_all (extent_at file at m) each) → n < 2 ^ 64 → length s ≡ n * each → Whole file at (head_bytes base n ++ s) → Ended (head_bytes base n ++ s)
  unfolding end_at nibble_at behind_all
  head_ended base n each s k is nib by small long wh =
      let d = headed file at base n 0 s small (omega arith) wh in
      record {
        ends = rw (d.marker, is, by, d.extent, length-append) (omega arith);
        marked = λ e. length_marked base n (sym (nib (nibble_of n)) ∙ rw (d.marker, is) at e) (stands_front file at (head_bytes base n) s wh.stands);
      }

  text_ended : (s : List ℕ) → is_utf8 s ≡ true → length s < 2 ^ 64 → Whole file at (text_bytes s) → Ended (text_bytes s)
  unfolding text_bytes end_by nibble_in
  text_ended s u h wh = go (is_ascii s) refl
    where
      go : (b : Bool) → is_ascii s ≡ b → Ended (text_bytes s)
      go true e = rw e (head_ended 0x50 (length s) 1 s kind.Utf8 (kind_nibble 0x50 kind.Utf8 kind_utf8 (length s)) (λ m. refl) (λ m. refl) h (omega arith) (rw e at wh))
      go false e =
          let n = length (utf16 (scalars8 s)) in
          let c = counted s u in
          rw e (head_ended 0x60 n 2 (to_utf16 s) kind.Utf16 (kind_nibble 0x60 kind.Utf16 kind_utf16 n) (λ m. refl) (λ m. refl) (omega arith) (length_utf16 s) (rw e at wh))

  scalar_ended : (m : Meaning) → IsScalar m → OnTape m → Whole file at (scalar_bytes m) → Ended (scalar_bytes m)
  unfolding scalar_bytes end_by nibble_in kind_of allowed
  scalar_ended (array n) i h wh = absurd i
  scalar_ended (dictionary n) i h wh = absurd i
  scalar_ended close i h wh = absurd i
  scalar_ended (boolean false) i h wh = plain_ended 0x08 [] refl refl wh
  scalar_ended (boolean true) i h wh = plain_ended 0x09 [] refl refl wh
  scalar_ended (bytes s) i h wh = head_ended 0x40 (length s) 1 s kind.Data (kind_nibble 0x40 kind.Data kind_data (length s)) (λ m. refl) (λ m. refl) h.0 (omega arith) wh
  scalar_ended (date b) i h wh = number_ended 0x33 8 b refl refl wh
  scalar_ended (integer z) i h wh = integer_ended z wh
  scalar_ended (real b) i h wh = number_ended 0x23 8 b refl refl wh
  scalar_ended (text s) i h wh = text_ended s h.1 h.0 wh
  scalar_ended (uid n) i h wh = uid_ended n wh

  pub object_ended : (o : Object) → Fine (bytes_in refs) o → Whole file at (object_bytes (bytes_in refs) o) → Ended (object_bytes (bytes_in refs) o)
  unfolding object_bytes end_by nibble_in
  object_ended (lone m) h wh = scalar_ended m h.0 h.1 wh
  object_ended (list rs) h wh =
      head_ended 0xA0 (length rs) (bytes_in refs) (numbers_bytes (bytes_in refs) rs) kind.Array (kind_nibble 0xA0 kind.Array kind_array (length rs)) (λ m. refl) (λ m. refl) h.0 (length_numbers (bytes_in refs) rs) wh
  object_ended (pairs keys values) h wh =
      let w = bytes_in refs in
      let twice : length (numbers_bytes w (keys ++ values)) ≡ length keys * (2 * w) = length_numbers w (keys ++ values) ∙ rw (length-append, h.0, add-mul, let t : 2 * w ≡ w + w = omega arith in t, mul-add) in
      head_ended 0xD0 (length keys) (2 * w) (numbers_bytes w (keys ++ values)) kind.Dictionary (kind_nibble 0xD0 kind.Dictionary kind_dictionary (length keys)) (λ m. refl) (λ m. refl) h.1 twice wh
