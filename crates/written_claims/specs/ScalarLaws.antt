-- A scalar that is written is read again.
use Rattle.std.specs.Prelude.{Bool, ◌≡◌, ℕ, ◌+◌, ◌*◌, ◌^◌, ◌≤◌, ◌<◌, ℤ, pos, negsuc}
use Rattle.std.proofs.Math.Bool.{true, false}
use mathlib.Core.List.{List, [], ◌∷◌, ◌++◌}
use Rattle.std.proofs.Math.Path.{refl, ap}
use Rattle.std.proofs.Common.{◌∙◌, lt_of_lt_of_le, arith, lit<}
use Rattle.std.proofs.Math.Nat.{add-sub_cancel_left, pow-le-pow_right}
use borrow.Author.Tests.{lt-ltb, ltb-true}
use Rattle.std.proofs.Math.Dec.{ltb, lit≤}
use Rattle.std.proofs.Math.ListN.{length}
use Rattle.number.specs.Be.{be, bytes_of}
use Rattle.number.specs.BeLaws.{length_bytes_of}
use Rattle.number.specs.Signed.{signed_of, bits_of}
use Rattle.number.specs.SignedLaws.{signed_bits}
use Rattle.number.specs.Size.{size_of}
use Rattle.number.specs.SizeLaws.{Sized, one, two, four, eight, sized, sized_pos, sized_le, fits_itself}
use Rattle.number.specs.declared.width.Width.{Width}
use Rattle.event.specs.Date.{is_date}
use Rattle.event.specs.Meaning.{Meaning, array, dictionary, close, boolean, bytes, date, integer, real, text, uid, meaning_of, value_of}
use Rattle.event.specs.Real.{real_of}
use Rattle.event.specs.RealLaws.{real_bits}
use Rattle.event.specs.declared.Event.{Event}
use Rattle.event.specs.declared.Event.TheVariants.{Boolean, Date, Integer, Uid}
use Rattle.event.specs.declared.Integer.TheVariants.{Signed, Unsigned}
use Rattle.utf.specs.Unicode.{is_ascii, is_utf8, utf16, scalars8, to_utf8, to_utf16}
use Rattle.utf.specs.ChangeLaws.{to_utf16_good, to_utf8_to_utf16}
use Rattle.utf.specs.ToUtf16Walk.{length_utf16, counted}
use Rattle.number.specs.Part.{part}
use Rattle.object.specs.Kind.{kind_of}
use Rattle.object.specs.KindLaws.{kind_data, kind_utf8, kind_utf16, kind_uid}
use Rattle.object.specs.Object.{Found, fixed_at, unsigned_in, signed_in, real_in, date_of, date_in, uid_in, by_kind, object_at, wide_in, data_in, utf8_in, utf16_in}
use Rattle.object.specs.Object as found
use Rattle.object.specs.declared.kind.Kind.TheVariants as kind
use Rattle.tape.specs.Code.{InRange, allowed, OnTape}
use Rattle.written_claims.specs.HeadLaws.{marker_decides, fixed_reads, kind_nibble, headed}
use Rattle.written_claims.specs.Stands.{Whole, stands_back, stands_part, stands_number}
use Rattle.written.specs.Encoding.{size_marker, number_bytes, integer_bytes, nibble_of, head_bytes, text_bytes, scalar_bytes}
use Rattle.written.specs.Scalar.{IsScalar}

-- what is found in a file says a meaning; data and ASCII text stand there whole, and what stands as UTF-16 is not ASCII
abbrev pub Says : List ℕ → Found → Meaning → Type 0
Says file found.outside m = ⊥
Says file (found.refused number values) m = ⊥
Says file (found.scalar e) m = (s : List ℕ) → meaning_of e s ≡ m
Says file (found.bytes start n) m = (bytes (part file start n) ≡ m) × (length (part file start n) ≡ n)
Says file (found.utf8 start n) m = (text (part file start n) ≡ m) × (length (part file start n) ≡ n) × (is_ascii (part file start n) ≡ true)
Says file (found.utf16 start n) m = (text (to_utf8 (part file start n)) ≡ m) × (is_ascii (to_utf8 (part file start n)) ≡ false)
Says file (found.array n) m = ⊥
Says file (found.dictionary n) m = ⊥

-- at an offset one thing is found, whatever the width of references, and it says a meaning
pub record Reads (file : List ℕ) (at : ℕ) (m : Meaning) : Type 0 where
  pub there : Found
  pub is : (refs : Width) → object_at file refs at ≡ there
  pub says : Says file there m

bits_lt : (k : ℕ) → bits_of (negsuc k) < 2 ^ 64
unfolding bits_of
bits_lt k = omega arith

module _ (file : List ℕ) (at : ℕ) where
  -- an event that a marker gives of a number of w bytes
  number_reads : (marker w n : ℕ) (read : List ℕ → Found) (e : Event) (m : Meaning)
      → ((refs : Width) → by_kind file refs at (kind_of marker) ≡ fixed_at file at w read)
      → ((s : List ℕ) → be s ≡ n → read s ≡ found.scalar e)
      → n < 256 ^ w → ((s : List ℕ) → meaning_of e s ≡ m)
      → Whole file at (marker ∷ bytes_of w n) → Reads file at m
  number_reads marker w n read e m by gives fits means wh =
      let v : be (part file (at + 1) w) ≡ n = stands_number file (at + 1) w n fits (stands_back file at (marker ∷ []) (bytes_of w n) wh.stands) in
      record {
        there = found.scalar e;
        is = λ refs. marker_decides file refs at marker (bytes_of w n) wh ∙ by refs ∙ fixed_reads file at w read marker (bytes_of w n) (length_bytes_of w n) wh ∙ gives (part file (at + 1) w) v;
        says = means;
      }

  boolean_reads : (b : Bool) → Whole file at (scalar_bytes (boolean b)) → Reads file at (boolean b)
  unfolding scalar_bytes by_kind kind_of meaning_of
  boolean_reads false wh = record { there = found.scalar (Boolean false); is = λ refs. marker_decides file refs at 0x08 [] wh; says = λ s. refl }
  boolean_reads true wh = record { there = found.scalar (Boolean true); is = λ refs. marker_decides file refs at 0x09 [] wh; says = λ s. refl }

  real_reads : (b : ℕ) → b < 2 ^ 64 → Whole file at (scalar_bytes (real b)) → Reads file at (real b)
  unfolding scalar_bytes by_kind kind_of
  real_reads b h wh = number_reads 0x23 8 b real_in (real_of b) (real b) (λ refs. refl) (λ s v. rw v) h (λ s. real_bits b s h) wh

  date_reads : (b : ℕ) → b < 2 ^ 64 → is_date b ≡ true → Whole file at (scalar_bytes (date b)) → Reads file at (date b)
  unfolding scalar_bytes by_kind kind_of date_of meaning_of
  date_reads b h d wh = number_reads 0x33 8 b date_in (Date b) (date b) (λ refs. refl) (λ s v. rw (v, d)) h (λ s. refl) wh

  uid_reads : (n : ℕ) → n < 2 ^ 64 → Whole file at (scalar_bytes (uid n)) → Reads file at (uid n)
  unfolding scalar_bytes by_kind meaning_of
  uid_reads n h wh =
      let w = size_of n in
      let le : w ≤ 8 = sized_le (sized n) in
      let gt : 0 < w = sized_pos (sized n) in
      number_reads (0x7F + w) w n uid_in (Uid n) (uid n) (λ refs. rw (kind_uid (0x7F + w) (omega arith) (omega arith), add-sub_cancel_left)) (λ s v. rw v) (fits_itself n h) (λ s. refl) wh

  -- an integer below 2^63 of any of the four sizes
  sized_reads : (w n : ℕ) → Sized w → n < 256 ^ w → n < 2 ^ 63 → Whole file at (size_marker w ∷ bytes_of w n) → Reads file at (integer (pos n))
  unfolding size_marker by_kind kind_of meaning_of value_of signed_of
  sized_reads _ n one h g wh = number_reads 0x10 1 n unsigned_in (Integer (Unsigned n)) (integer (pos n)) (λ refs. refl) (λ s v. rw v) h (λ s. refl) wh
  sized_reads _ n two h g wh = number_reads 0x11 2 n unsigned_in (Integer (Unsigned n)) (integer (pos n)) (λ refs. refl) (λ s v. rw v) h (λ s. refl) wh
  sized_reads _ n four h g wh = number_reads 0x12 4 n unsigned_in (Integer (Unsigned n)) (integer (pos n)) (λ refs. refl) (λ s v. rw v) h (λ s. refl) wh
  sized_reads _ n eight h g wh = number_reads 0x13 8 n signed_in (Integer (Signed (signed_of n))) (integer (pos n)) (λ refs. refl) (λ s v. rw v) h (λ s. rw (lt-ltb n 0x8000_0000_0000_0000 g)) wh

  wide_reads : (n : ℕ) → n < 2 ^ 64 → Whole file at (0x14 ∷ bytes_of 16 n) → Reads file at (integer (pos n))
  unfolding by_kind kind_of wide_in meaning_of value_of
  wide_reads n h wh =
      let v : be (part file (at + 1) 16) ≡ n = stands_number file (at + 1) 16 n (lt_of_lt_of_le h (pow-le-pow_right {n = 256} (lit< tt) (let g : 8 ≤ 16 = lit≤ tt in g))) (stands_back file at (0x14 ∷ []) (bytes_of 16 n) wh.stands) in
      record {
        there = found.scalar (Integer (Unsigned n));
        is = λ refs. marker_decides file refs at 0x14 (bytes_of 16 n) wh ∙ fixed_reads file at 16 wide_in 0x14 (bytes_of 16 n) (length_bytes_of 16 n) wh ∙ rw (v, lt-ltb n (2 ^ 64) h);
        says = λ s. refl;
      }

  integer_reads : (z : ℤ) → InRange (integer z) → Whole file at (integer_bytes z) → Reads file at (integer z)
  unfolding integer_bytes number_bytes by_kind kind_of meaning_of value_of
  integer_reads (pos n) h wh = go (ltb n (2 ^ 63)) refl
    where
      go : (b : Bool) → ltb n (2 ^ 63) ≡ b → Reads file at (integer (pos n))
      go true e = sized_reads (size_of n) n (sized n) (fits_itself n h) (ltb-true n (2 ^ 63) e) (rw e at wh)
      go false e = wide_reads n h (rw e at wh)
  integer_reads (negsuc k) h wh =
      number_reads 0x13 8 (bits_of (negsuc k)) signed_in (Integer (Signed (signed_of (bits_of (negsuc k))))) (integer (negsuc k)) (λ refs. refl) (λ s v. rw v) (bits_lt k) (λ s. ap integer (signed_bits (negsuc k) (record { sfits = h }))) wh

  data_reads : (s : List ℕ) → length s < 2 ^ 64 → Whole file at (scalar_bytes (bytes s)) → Reads file at (bytes s)
  unfolding scalar_bytes by_kind data_in
  data_reads s h wh =
      let n = length s in
      let d = headed file at 0x40 n 1 s h (omega arith) wh in
      let k : kind_of (0x40 + nibble_of n) ≡ kind.Data (nibble_of n) = kind_nibble 0x40 kind.Data kind_data n in
      let p : part file (at + length (head_bytes 0x40 n)) n ≡ s = stands_part file _ s d.body in
      record { there = found.bytes (at + length (head_bytes 0x40 n)) n; is = λ refs. d.decides refs ∙ rw (k, d.content); says = (ap bytes p, ap length p) }

  ascii_reads : (s : List ℕ) → is_utf8 s ≡ true → is_ascii s ≡ true → length s < 2 ^ 64 → Whole file at (head_bytes 0x50 (length s) ++ s) → Reads file at (text s)
  unfolding by_kind utf8_in
  ascii_reads s g a h wh =
      let n = length s in
      let d = headed file at 0x50 n 1 s h (omega arith) wh in
      let k : kind_of (0x50 + nibble_of n) ≡ kind.Utf8 (nibble_of n) = kind_nibble 0x50 kind.Utf8 kind_utf8 n in
      let p : part file (at + length (head_bytes 0x50 n)) n ≡ s = stands_part file _ s d.body in
      record { there = found.utf8 (at + length (head_bytes 0x50 n)) n; is = λ refs. d.decides refs ∙ rw (k, d.content, p, g); says = (ap text p, ap length p, rw p a) }

  utf16_text_reads : (s : List ℕ) → is_utf8 s ≡ true → is_ascii s ≡ false → (n : ℕ) → length (to_utf16 s) ≡ n * 2 → n < 2 ^ 64
      → Whole file at (head_bytes 0x60 n ++ to_utf16 s) → Reads file at (text s)
  unfolding by_kind utf16_in
  utf16_text_reads s g o n l small wh =
      let d = headed file at 0x60 n 2 (to_utf16 s) small (omega arith) wh in
      let k : kind_of (0x60 + nibble_of n) ≡ kind.Utf16 (nibble_of n) = kind_nibble 0x60 kind.Utf16 kind_utf16 n in
      let p : part file (at + length (head_bytes 0x60 n)) (n * 2) ≡ to_utf16 s = rw l at (stands_part file _ (to_utf16 s) d.body) in
      record { there = found.utf16 (at + length (head_bytes 0x60 n)) (n * 2); is = λ refs. d.decides refs ∙ rw (k, d.content, p, to_utf16_good s g); says = rw (p, to_utf8_to_utf16 s g) (refl, o) }

  text_reads : (s : List ℕ) → is_utf8 s ≡ true → length s < 2 ^ 64 → Whole file at (text_bytes s) → Reads file at (text s)
  unfolding text_bytes
  text_reads s g h wh = go (is_ascii s) refl
    where
      go : (b : Bool) → is_ascii s ≡ b → Reads file at (text s)
      go true e = ascii_reads s g e h (rw e at wh)
      go false e =
          let n = length (utf16 (scalars8 s)) in
          let c = counted s g in
          utf16_text_reads s g e n (length_utf16 s) (omega arith) (rw e at wh)

-- a scalar whose bytes stand at an offset and end at or before T is read there
pub scalar_reads : (file : List ℕ) (at : ℕ) (m : Meaning) → IsScalar m → OnTape m → Whole file at (scalar_bytes m) → Reads file at m
unfolding scalar_bytes allowed
scalar_reads file at (array n) i h wh = absurd i
scalar_reads file at (dictionary n) i h wh = absurd i
scalar_reads file at close i h wh = absurd i
scalar_reads file at (boolean false) i h wh = boolean_reads file at false wh
scalar_reads file at (boolean true) i h wh = boolean_reads file at true wh
scalar_reads file at (bytes s) i h wh = data_reads file at s h.0 wh
scalar_reads file at (date b) i h wh = date_reads file at b h.0 h.1 wh
scalar_reads file at (integer z) i h wh = integer_reads file at z h.0 wh
scalar_reads file at (real b) i h wh = real_reads file at b h.0 wh
scalar_reads file at (text s) i h wh = text_reads file at s h.1 h.0 wh
scalar_reads file at (uid n) i h wh = uid_reads file at n h.0 wh
