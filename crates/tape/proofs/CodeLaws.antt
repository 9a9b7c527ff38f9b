-- The tape is a code: an event's bytes are read as that event, and what is read as an event is its bytes.
use Rattle.std.specs.Prelude.{true, false, ◌≡◌, refl, ℕ, suc, ◌+◌, ◌^◌, ◌≤◌, ◌<◌, leb, pos, negsuc, Some, None}
use mathlib.Core.List.{List, [], ◌∷◌, ◌++◌, append_assoc}
use Rattle.std.proofs.Math.Path.{ap, sym}
use Rattle.std.proofs.Common.{ap₂, ◌∙◌, arith, take_at}
use borrow.Author.Tests.{lt-ltb, le-leb}
use Rattle.std.proofs.Math.ListN.{length, length-append}
use Rattle.std.proofs.Math.Seq.{drop_at, get_or-append_seam}
use Rattle.event.specs.Meaning.{Meaning, array, dictionary, close, boolean, bytes, date, integer, real, text, uid, meaning_of, value_of}
use Rattle.event.specs.RealLaws.{real_bits}
use Rattle.number.specs.Be.{bytes_of}
use Rattle.number.specs.BeLaws.{be_bytes_of, length_bytes_of}
use Rattle.tape.specs.Code.{bytes_for, allowed, OnTape}
use Rattle.tape.specs.Item.{plain, bytes_at, numbered, negative, date_in, data_in, text_in, of_kind, item_at, meaning_in, event, reading_of, read_at}
use Rattle.tape.specs.Seven.{seven}
use Rattle.number.specs.Part.{part}
use Rattle.tape.specs.Value.{number_at, eight_at}
use Rattle.tape.specs.ValueLaws.{number_seven}
use Rattle.utf.specs.Unicode.{is_utf8}

-- the place behind a byte
snoc_length : (p : List ℕ) (b : ℕ) → length (p ++ (b ∷ [])) ≡ length p + 1
snoc_length p b = length-append p (b ∷ [])

-- a part that is known
part_at : (p s q : List ℕ) (at : ℕ) → length p ≡ at → part (p ++ (s ++ q)) at (length s) ≡ s
part_at p s q at e = rw (drop_at p (s ++ q) at e) (take_at s q (length s) refl)

-- a step to what stands behind a front p
module _ (p : List ℕ) where
  -- a kind, then what it has
  kind_at_law : (k : ℕ) (s : List ℕ) → item_at (p ++ (k ∷ s)) (length p) ≡ of_kind (p ++ (k ∷ s)) k (length p + 1)
  unfolding item_at
  kind_at_law k s =
      let l : length p < length (p ++ (k ∷ s)) = simp length-append (omega arith) in
      rw (lt-ltb (length p) (length (p ++ (k ∷ s))) l, get_or-append_seam p k s 0)

  -- a number behind a kind
  number_behind : (k n : ℕ) (q : List ℕ) → n < 2 ^ 64 → number_at (p ++ (k ∷ (seven n ++ q))) (length p + 1) ≡ Some (n, length p + suc (length (seven n)))
  unfolding number_at
  number_behind k n q h =
      let e : p ++ (k ∷ (seven n ++ q)) ≡ (p ++ (k ∷ [])) ++ (seven n ++ q) = sym (append_assoc p (k ∷ []) (seven n ++ q)) in
      rw (e, drop_at (p ++ (k ∷ [])) (seven n ++ q) (length p + 1) (snoc_length p k)) (number_seven (length p + 1) n q h ∙ ap (λ (j : ℕ). Some (n, j)) (omega arith))

  -- 8 bytes behind a kind
  eight_behind : (k b : ℕ) (q : List ℕ) → b < 2 ^ 64 → eight_at (p ++ (k ∷ (bytes_of 8 b ++ q))) (length p + 1) ≡ Some (b, length p + suc (length (bytes_of 8 b)))
  unfolding eight_at
  eight_behind k b q h =
      let e : p ++ (k ∷ (bytes_of 8 b ++ q)) ≡ (p ++ (k ∷ [])) ++ (bytes_of 8 b ++ q) = sym (append_assoc p (k ∷ []) (bytes_of 8 b ++ q)) in
      let n : length (bytes_of 8 b) ≡ 8 = length_bytes_of 8 b in
      let l : length p + 1 + 8 ≤ length ((p ++ (k ∷ [])) ++ (bytes_of 8 b ++ q)) = simp (length-append, n) (omega arith) in
      let f : part ((p ++ (k ∷ [])) ++ (bytes_of 8 b ++ q)) (length p + 1) 8 ≡ bytes_of 8 b = rw n at (part_at (p ++ (k ∷ [])) (bytes_of 8 b) q (length p + 1) (snoc_length p k)) in
      rw (e, le-leb (length p + 1 + 8) (length ((p ++ (k ∷ [])) ++ (bytes_of 8 b ++ q))) l, f, be_bytes_of 8 b h, n) (ap (λ (j : ℕ). Some (b, j)) (omega arith))

-- a length and so many bytes behind a kind
module _ (p : List ℕ) (k : ℕ) (s q : List ℕ) where
  run : List ℕ
  run = p ++ (k ∷ (seven (length s) ++ s ++ q))

  start : ℕ
  start = length p + suc (length (seven (length s)))

  -- the tape, split where the bytes begin
  run_split : run ≡ (p ++ (k ∷ seven (length s))) ++ (s ++ q)
  unfolding run
  run_split = simp append_assoc

  start_is : length (p ++ (k ∷ seven (length s))) ≡ start
  unfolding start
  start_is = length-append p (k ∷ seven (length s))

  run_number : length s < 2 ^ 64 → number_at run (length p + 1) ≡ Some (length s, start)
  unfolding run start
  run_number h = rw append_assoc (number_behind p k (length s) (s ++ q) h)

  kind_reads : read_at run (length p) ≡ reading_of run (of_kind run k (length p + 1))
  unfolding run read_at
  kind_reads = rw (kind_at_law p k (seven (length s) ++ s ++ q))

  run_part : part run start (length s) ≡ s
  run_part = rw run_split (part_at (p ++ (k ∷ seven (length s))) s q start start_is)

  run_room : leb (start + length s) (length run) ≡ true
  run_room = le-leb (start + length s) (length run) (rw run_split (simp (length-append (p ++ (k ∷ seven (length s))) (s ++ q), start_is, length-append s q) (omega arith)))

  run_end : start + length s ≡ length p + suc (length (seven (length s) ++ s))
  unfolding start
  run_end = simp length-append (omega arith)

-- an event's bytes are read as that event, whatever stands in front of them and behind
pub reads_back : (p : List ℕ) (m : Meaning) (q : List ℕ) → OnTape m → read_at (p ++ (bytes_for m ++ q)) (length p) ≡ event m (length p + length (bytes_for m))
unfolding run bytes_for allowed read_at reading_of of_kind plain bytes_at numbered negative date_in data_in text_in meaning_in meaning_of value_of
reads_back p (array None) q h = rw (kind_at_law p 0x0A q)
reads_back p (array (Some n)) q h = rw (kind_at_law p 0x0B (seven n ++ q), number_behind p 0x0B n q h.0)
reads_back p (dictionary None) q h = rw (kind_at_law p 0x0C q)
reads_back p (dictionary (Some n)) q h = rw (kind_at_law p 0x0D (seven n ++ q), number_behind p 0x0D n q h.0)
reads_back p close q h = rw (kind_at_law p 0x0E q)
reads_back p (boolean false) q h = rw (kind_at_law p 0x01 q)
reads_back p (boolean true) q h = rw (kind_at_law p 0x02 q)
reads_back p (integer (pos n)) q h = rw (kind_at_law p 0x03 (seven n ++ q), number_behind p 0x03 n q h.0)
reads_back p (integer (negsuc k)) q h =
    let l : k < 2 ^ 63 = omega (arith, h.0) in
    rw (kind_at_law p 0x04 (seven k ++ q), number_behind p 0x04 k q (omega arith), lt-ltb k (2 ^ 63) l)
reads_back p (real b) q h = rw (kind_at_law p 0x05 (bytes_of 8 b ++ q), eight_behind p 0x05 b q h.0) (ap (λ (m : Meaning). event m (length p + suc (length (bytes_of 8 b)))) (real_bits b _ h.0))
reads_back p (date b) q h = rw (kind_at_law p 0x06 (bytes_of 8 b ++ q), eight_behind p 0x06 b q h.0, date_in, h.1)
reads_back p (uid n) q h = rw (kind_at_law p 0x07 (seven n ++ q), number_behind p 0x07 n q h.0)
reads_back p (bytes s) q h =
    kind_reads p 0x08 s q ∙ rw (run_number p 0x08 s q h.0, run_room p 0x08 s q) (ap₂ event (ap bytes (run_part p 0x08 s q)) (run_end p 0x08 s q))
reads_back p (text s) q h =
    let e : is_utf8 (part (run p 0x09 s q) (start p 0x09 s q) (length s)) ≡ true = rw (run_part p 0x09 s q) h.1 in
    kind_reads p 0x09 s q ∙ rw (run_number p 0x09 s q h.0, run_room p 0x09 s q, e) (ap₂ event (ap text (run_part p 0x09 s q)) (run_end p 0x09 s q))

-- an event has a byte at least
pub bytes_some : (m : Meaning) → 0 < length (bytes_for m)
unfolding bytes_for
bytes_some (array None) = omega arith
bytes_some (array (Some n)) = omega arith
bytes_some (dictionary None) = omega arith
bytes_some (dictionary (Some n)) = omega arith
bytes_some close = omega arith
bytes_some (boolean false) = omega arith
bytes_some (boolean true) = omega arith
bytes_some (bytes s) = omega arith
bytes_some (date b) = omega arith
bytes_some (integer (pos n)) = omega arith
bytes_some (integer (negsuc k)) = omega arith
bytes_some (real b) = omega arith
bytes_some (text s) = omega arith
bytes_some (uid n) = omega arith
