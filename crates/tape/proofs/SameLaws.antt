-- The tape is a one-to-one code, so that values are compared by comparing bytes.
use Rattle.std.specs.Prelude.{List, [], ◌++◌, ◌≡◌, refl, ℕ, ◌+◌, ◌-◌, ◌≤◌, ◌<◌, length, drop}
use Rattle.std.proofs.Common.{ap, sym, ◌∙◌, arith, length-append, length-drop, take_at, drop_at}
use Rattle.event.specs.Meaning.{Meaning}
use Rattle.number.specs.BeLaws.{Bytes}
use Rattle.tape.specs.Code.{bytes_for, OnTape}
use Rattle.tape.proofs.CodeLaws.{reads_back, bytes_some}
use Rattle.tape.proofs.FormLaws.{reads_written}
use Rattle.tape.specs.Item.{event, read_at}
use Rattle.number.specs.Part.{part}

-- two events whose bytes begin alike are the same, and so is what follows them
pub same_front : (m n : Meaning) (q r : List ℕ) → OnTape m → OnTape n → bytes_for m ++ q ≡ bytes_for n ++ r → (m ≡ n) × (q ≡ r)
same_front m n q r f g e =
    let x : read_at (bytes_for m ++ q) 0 ≡ event m (0 + length (bytes_for m)) = reads_back [] m q f in
    let y : read_at (bytes_for n ++ r) 0 ≡ event n (0 + length (bytes_for n)) = reads_back [] n r g in
    let z : read_at (bytes_for m ++ q) 0 ≡ event n (0 + length (bytes_for n)) = rw e y in
    let s : m ≡ n = cc in
    (s, sym (drop_at (bytes_for m) q (length (bytes_for m)) refl) ∙ rw e (drop_at (bytes_for n) r (length (bytes_for m)) (rw s)))

-- two events with the same bytes are the same
pub same_event : (m n : Meaning) → OnTape m → OnTape n → bytes_for m ≡ bytes_for n → m ≡ n
same_event m n f g e = (same_front m n [] [] f g (rw e)).0

module _ (tape : List ℕ) (at : ℕ) (m : Meaning) (next : ℕ) (good : Bytes tape) (e : read_at tape at ≡ event m next) where
  -- an event lies within the tape
  pub item_within : (at < next) × (next ≤ length tape)
  item_within =
      let w = (reads_written tape at m next good e).stands in
      let l : length tape - at ≡ length (bytes_for m) + (length tape - next) = sym (length-drop at tape) ∙ ap length w.split ∙ simp (length-append, length-drop) in
      (omega (arith, w.ends, bytes_some m), omega (arith, l, w.ends, bytes_some m))

  -- and its bytes are those from its place to the next event's
  pub item_bytes : part tape at (next - at) ≡ bytes_for m
  item_bytes =
      let w = (reads_written tape at m next good e).stands in
      rw w.split (take_at (bytes_for m) (drop next tape) (next - at) (omega (arith, w.ends)))

-- two scalars are of one kind and value exactly when their bytes on the tape are the same (docs/FORMAT.md, T4)
module _ (s : List ℕ) (a : ℕ) (m : Meaning) (b : ℕ) (good : Bytes s) (e : read_at s a ≡ event m b) (t : List ℕ) (c : ℕ) (n : Meaning) (d : ℕ) (well : Bytes t) (f : read_at t c ≡ event n d) where
  pub bytes_agree : m ≡ n → part s a (b - a) ≡ part t c (d - c)
  bytes_agree h = item_bytes s a m b good e ∙ ap bytes_for h ∙ sym (item_bytes t c n d well f)

  pub values_agree : part s a (b - a) ≡ part t c (d - c) → m ≡ n
  values_agree h =
      same_event m n (reads_written s a m b good e).held (reads_written t c n d well f).held
      (sym (item_bytes s a m b good e) ∙ h ∙ item_bytes t c n d well f)
