-- The bytes of the scalar at a place of a tape are those of what is read there.
use Rattle.std.specs.Prelude.{Bool, cond, ◌≡◌, ℕ, suc, ◌+◌, ◌-◌, ◌/◌, ◌%◌, ◌≤◌, ◌<◌, ◌^◌, ltb, pos, negsuc, get_or, Some}
use Rattle.std.proofs.Math.Bool.{true, false}
use Rattle.std.proofs.Common.{true≢false, ◌∙◌, add-one, arith, drop-cons, drop-drop, drop_at}
use mathlib.Core.List.{List, [], ◌∷◌, ◌++◌, append_assoc}
use Rattle.std.proofs.Math.Path.{refl, ap, sym}
use borrow.Author.Tests.{lt-ltb, le-ltb, ne_eqb, le-leb}
use Rattle.std.proofs.Math.ListN.{length, drop, length-append, length-drop}
use Rattle.std.proofs.Math.Seq.{take_at}
use Rattle.event.specs.Meaning.{Meaning, array, dictionary, close, boolean, bytes, date, integer, real, text, uid}
use Rattle.number.specs.Be.{bytes_of}
use Rattle.number.specs.BeLaws.{Bytes, length_bytes_of}
use Rattle.number.specs.Signed.{bits_of}
use Rattle.tape.specs.Code.{bytes_for, allowed, OnTape}
use Rattle.tape.proofs.FormLaws.{reads_written}
use Rattle.tape.specs.Item.{event, read_at}
use Rattle.tape.specs.Seven.{seven}
use Rattle.tape.specs.SevenLaws.{seven_some}
use Rattle.tape.specs.Value.{number_at}
use Rattle.tape.specs.ValueLaws.{number_seven}
use Rattle.utf.specs.Unicode.{is_ascii, is_utf8, utf8, utf16_of, utf16, scalars8}
use Rattle.utf.specs.Utf8Bits.{utf8_again}
use Rattle.written.specs.Encoding.{scalar_bytes, integer_bytes, text_bytes}
use Rattle.written.specs.Scalar.{units_for, IsScalar}
use Rattle.encode.specs.Put.{numbered, positive, negative, uid_bytes, eight_in, run_in, headed, in_utf16, text_in, of_kind, bytes_at}

-- the kind that stands at a place decides
module _ (tape : List ℕ) (at units : ℕ) where
  pub bytes_of_law : (k : ℕ) → at < length tape → get_or tape at 0 ≡ k → of_kind tape k (at + 1) units ≡ bytes_at tape at units
  unfolding bytes_at
  bytes_of_law k h e = rw (lt-ltb at (length tape) h, e)

  pub bytes_past : length tape ≤ at → [] ≡ bytes_at tape at units
  unfolding bytes_at
  bytes_past h = rw (le-ltb at (length tape) h)

-- what stands from a place on is known
module _ (tape : List ℕ) (at : ℕ) where
  -- a kind: its bytes, and what stands behind it
  kind_there : (k : ℕ) (s : List ℕ) (units : ℕ) → drop at tape ≡ k ∷ s → (bytes_at tape at units ≡ of_kind tape k (at + 1) units) × (drop (at + 1) tape ≡ s)
  kind_there k s units e =
      let h : at < length tape = omega (arith, ap length e, length-drop at tape) in
      let d : get_or tape at 0 ∷ drop (suc at) tape ≡ k ∷ s = sym (drop-cons tape at 0 h) ∙ e in
      let f : get_or tape at 0 ≡ k = cc in
      let g : drop (suc at) tape ≡ s = cc in
      (sym (bytes_of_law tape at units k h f), rw add-one g)

  number_there : (n : ℕ) (q : List ℕ) → n < 2 ^ 64 → drop at tape ≡ seven n ++ q → number_at tape at ≡ Some (n, at + length (seven n))
  unfolding number_at
  number_there n q h e = rw e (number_seven at n q h)

  numbered_there : (f : ℕ → List ℕ) (n : ℕ) (q : List ℕ) → n < 2 ^ 64 → drop at tape ≡ seven n ++ q → numbered f (number_at tape at) ≡ f n
  unfolding numbered
  numbered_there f n q h e = rw (number_there n q h e)

  eight_there : (marker b : ℕ) (q : List ℕ) → drop at tape ≡ bytes_of 8 b ++ q → eight_in tape at marker ≡ marker ∷ bytes_of 8 b
  unfolding eight_in
  eight_there marker b q e =
      let n = length_bytes_of 8 b in
      let h : at + 8 ≤ length tape = omega (arith, ap length e, length-drop at tape, length-append (bytes_of 8 b) q) in
      rw (le-leb (at + 8) (length tape) h, e, take_at (bytes_of 8 b) q 8 n)

  run_there : (f : List ℕ → List ℕ) (s q : List ℕ) → length s < 2 ^ 64 → drop at tape ≡ seven (length s) ++ s ++ q → run_in tape f (number_at tape at) ≡ f s
  unfolding run_in
  run_there f s q small e =
      let n = length s in
      let w = length (seven n) in
      let e' : drop at tape ≡ seven n ++ (s ++ q) = e ∙ append_assoc (seven n) s q in
      let d : drop (at + w) tape ≡ s ++ q = sym (drop-drop w at tape) ∙ rw e' (drop_at (seven n) (s ++ q) w refl) in
      let h : at + w + n ≤ length tape = omega (arith, ap length e', length-drop at tape, length-append (seven n) (s ++ q), length-append s q, seven_some n) in
      rw (number_there n (s ++ q) small e', le-leb (at + w + n) (length tape) h, d, take_at s q n refl)

-- text that isn't ASCII has units
some_unit : (v : ℕ) → 0 < length (utf16_of v)
unfolding utf16_of
some_unit v = go (ltb v 0x10000)
  where
    go : (b : Bool) → 0 < length (cond b (v ∷ []) ((0xD800 + (v - 0x10000) / 0x400) ∷ (0xDC00 + (v - 0x10000) % 0x400) ∷ []))
    go true = omega arith
    go false = omega arith

some_units : (s : List ℕ) → is_utf8 s ≡ true → is_ascii s ≡ false → 0 < length (utf16 (scalars8 s))
unfolding is_ascii utf8 utf16
some_units s g e = go (scalars8 s) refl
  where
    go : (vs : List ℕ) → scalars8 s ≡ vs → 0 < length (utf16 vs)
    go [] f =
        let z : [] ≡ s = rw f at (utf8_again s g) in
        absurd (true≢false (rw (← z) at e))
    go (v ∷ vs) f = omega (arith, length-append (utf16_of v) (utf16 vs), some_unit v)

module _ (tape : List ℕ) (q : List ℕ) where
  text_there : (at : ℕ) (s : List ℕ) → is_utf8 s ≡ true → length s < 2 ^ 64 → drop at tape ≡ seven (length s) ++ s ++ q → text_in tape (units_for (text s)) (number_at tape at) ≡ text_bytes s
  unfolding text_in units_for text_bytes headed in_utf16
  text_there at s g h e = go (is_ascii s) refl
    where
      go : (b : Bool) → is_ascii s ≡ b → text_in tape (units_for (text s)) (number_at tape at) ≡ text_bytes s
      go true f = rw f (run_there tape at (headed 0x50) s q h e)
      go false f =
          let n = length (utf16 (scalars8 s)) in
          let z : n ≡ 0 → ⊥ = λ (k : n ≡ 0). omega (arith, some_units s g f) in
          rw (f, ne_eqb n 0 z) (run_there tape at (in_utf16 n) s q h e)

  there : (at : ℕ) (m : Meaning) → IsScalar m → OnTape m → drop at tape ≡ bytes_for m ++ q → bytes_at tape at (units_for m) ≡ scalar_bytes m
  unfolding bytes_for allowed units_for scalar_bytes integer_bytes of_kind positive negative uid_bytes headed bits_of
  there at (array n) i h e = absurd i
  there at (dictionary n) i h e = absurd i
  there at close i h e = absurd i
  there at (boolean false) i h e = (kind_there tape at 0x01 q 0 e).0
  there at (boolean true) i h e = (kind_there tape at 0x02 q 0 e).0
  there at (integer (pos n)) i h e =
      let k = kind_there tape at 0x03 (seven n ++ q) 0 e in
      k.0 ∙ numbered_there tape (at + 1) positive n q h.0 k.1
  there at (integer (negsuc n)) i h e =
      let k = kind_there tape at 0x04 (seven n ++ q) 0 e in
      k.0 ∙ numbered_there tape (at + 1) negative n q (omega (arith, h.0)) k.1
  there at (real b) i h e =
      let k = kind_there tape at 0x05 (bytes_of 8 b ++ q) 0 e in
      k.0 ∙ eight_there tape (at + 1) 0x23 b q k.1
  there at (date b) i h e =
      let k = kind_there tape at 0x06 (bytes_of 8 b ++ q) 0 e in
      k.0 ∙ eight_there tape (at + 1) 0x33 b q k.1
  there at (uid n) i h e =
      let k = kind_there tape at 0x07 (seven n ++ q) 0 e in
      k.0 ∙ numbered_there tape (at + 1) uid_bytes n q h.0 k.1
  there at (bytes s) i h e =
      let k = kind_there tape at 0x08 (seven (length s) ++ s ++ q) 0 e in
      k.0 ∙ run_there tape (at + 1) (headed 0x40) s q h.0 k.1
  there at (text s) i h e =
      let k = kind_there tape at 0x09 (seven (length s) ++ s ++ q) (units_for (text s)) e in
      k.0 ∙ text_there (at + 1) s h.1 h.0 k.1

-- a scalar that is read at a place has its bytes there
pub scalar_there : (tape : List ℕ) (at : ℕ) (m : Meaning) (next : ℕ) → read_at tape at ≡ event m next → IsScalar m → Bytes tape → bytes_at tape at (units_for m) ≡ scalar_bytes m
scalar_there tape at m next e i good =
    let w = reads_written tape at m next good e in
    there tape (drop next tape) at m i w.held w.stands.split
