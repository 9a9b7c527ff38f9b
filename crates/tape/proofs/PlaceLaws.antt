-- What is read at a place goes by the bytes from there on.
use Rattle.std.specs.Prelude.{List, ◌++◌, ◌≡◌, refl, ℕ, ◌+◌, ◌≤◌, length, take, drop}
use Rattle.std.proofs.Common.{sym, ap, ◌∙◌, arith, length-append, length-drop, take-append-drop, length-take-le}
use Rattle.number.specs.BeLaws.{Bytes}
use Rattle.event.specs.Meaning.{Meaning}
use Rattle.tape.specs.Code.{bytes_for}
use Rattle.tape.proofs.CodeLaws.{reads_back, bytes_some}
use Rattle.tape.proofs.FormLaws.{reads_written}
use Rattle.tape.specs.Item.{Reading, event, bad, read_at}

module _ (s t : List ℕ) (a b : ℕ) (good : Bytes s) (same : drop a s ≡ drop b t) where
  pub reads_there : (m : Meaning) (next : ℕ) → read_at s a ≡ event m next → read_at t b ≡ event m (b + length (bytes_for m))
  reads_there m next e =
      let w = reads_written s a m next good e in
      let d : drop b t ≡ bytes_for m ++ drop next s = sym same ∙ w.stands.split in
      let l : b ≤ length t = omega (arith, bytes_some m, simp (length-drop, length-append) at (ap length d)) in
      let f : t ≡ take b t ++ (bytes_for m ++ drop next s) = sym (take-append-drop b t) ∙ ap (λ (l : List ℕ). take b t ++ l) d in
      let n : length (take b t) ≡ b = length-take-le b t l in
      let r : read_at t (length (take b t)) ≡ event m (length (take b t) + length (bytes_for m)) = rw (← f) at (reads_back (take b t) m (drop next s) w.held) in
      rw n at r

-- and so is what is no event
pub bad_there : (s t : List ℕ) (a b : ℕ) → Bytes t → drop a s ≡ drop b t → read_at s a ≡ bad → read_at t b ≡ bad
bad_there s t a b good same e = go (read_at t b) refl
  where
    go : (r : Reading) → read_at t b ≡ r → read_at t b ≡ bad
    go bad f = f
    go (event m next) f =
        let r : bad ≡ event m (a + length (bytes_for m)) = sym e ∙ reads_there t s b a good (sym same) m next f in
        let z : ◌≡◌ {A = ℕ} 0 1 = cc in
        absurd (omega arith)
