-- What stands at a place of the tape: the kind, the number behind it, the bytes behind that.
use Rattle.std.specs.Prelude.{List, ◌∷◌, ◌++◌, ◌≡◌, refl, ℕ, suc, ◌+◌, ◌^◌, ◌≤◌, ◌<◌, length, get_or, drop, Some}
use Rattle.std.proofs.Common.{append_assoc, ap, sym, ◌∙◌, add-one, arith, length-append, length-drop, drop_at, drop-cons, drop-drop, take_at}
use Rattle.number.specs.BeLaws.{Bytes}
use Rattle.tape.proofs.FormLaws.{Stands}
use Rattle.number.specs.PartLaws.{bytes_drop}
use Rattle.tape.specs.Seven.{seven}
use Rattle.tape.specs.SevenLaws.{seven_long}
use Rattle.number.specs.Part.{part}
use Rattle.tape.specs.Value.{number_at}
use Rattle.tape.specs.ValueLaws.{number_seven, number_begins}

module _ {tape : List ℕ} {at k : ℕ} {s : List ℕ} {next : ℕ} (st : Stands tape at (k ∷ s) next) where
  pub kind_inside : at < length tape
  kind_inside = omega (arith, simp length-drop at (ap length st.split))

  pub kind_there : get_or tape at 0 ≡ k
  kind_there =
      let e : get_or tape at 0 ∷ drop (suc at) tape ≡ k ∷ (s ++ drop next tape) = sym (drop-cons tape at 0 kind_inside) ∙ st.split in
      cc

  -- what stands behind the kind
  behind_there : drop (at + 1) tape ≡ s ++ drop next tape
  behind_there =
      let e : get_or tape at 0 ∷ drop (suc at) tape ≡ k ∷ (s ++ drop next tape) = sym (drop-cons tape at 0 kind_inside) ∙ st.split in
      rw add-one (cc)

  pub ends_inside : next ≤ length tape
  ends_inside = omega (arith, simp (length-append, length-drop) at (ap length st.split), st.ends, kind_inside)

-- a number behind the kind
pub number_there : {tape : List ℕ} {at k next : ℕ} (n : ℕ) → n < 2 ^ 64 → Stands tape at (k ∷ seven n) next → number_at tape (at + 1) ≡ Some (n, next)
unfolding number_at
number_there {tape} {at} {k} {next} n h st = rw (behind_there st) (number_seven (at + 1) n (drop next tape) h ∙ ap (λ (j : ℕ). Some (n, j)) (omega (arith, st.ends)))

-- a length behind the kind, and so many bytes behind that
pub record Run (tape : List ℕ) (at : ℕ) (s : List ℕ) : Type 0 where
  pub start : ℕ
  pub number : number_at tape at ≡ Some (length s, start)
  pub room : start + length s ≤ length tape
  pub bytes : part tape start (length s) ≡ s

pub run_there : {tape : List ℕ} {at k next : ℕ} (s : List ℕ) → length s < 2 ^ 64 → Stands tape at (k ∷ (seven (length s) ++ s)) next → Run tape (at + 1) s
unfolding number_at
run_there {tape} {at} {k} {next} s h st =
    let n = length s in
    let d : drop (at + 1) tape ≡ seven n ++ (s ++ drop next tape) = behind_there st ∙ append_assoc (seven n) s (drop next tape) in
    let behind : drop (at + 1 + length (seven n)) tape ≡ s ++ drop next tape = sym (drop-drop (length (seven n)) (at + 1) tape) ∙ rw d (drop_at (seven n) (s ++ drop next tape) (length (seven n)) refl) in
    record {
      start = at + 1 + length (seven n);
      number = rw d (number_seven (at + 1) n (s ++ drop next tape) h);
      room = omega (arith, ends_inside st, simp length-append at st.ends);
      bytes = rw behind (take_at s (drop next tape) n refl);
    }

-- the bytes behind a length of 63 bits begin at the fifth place at least
pub number_far : (tape : List ℕ) (at n next : ℕ) → Bytes tape → number_at tape at ≡ Some (n, next) → 2 ^ 62 ≤ n → 5 ≤ next
unfolding number_at
number_far tape at n next good e h =
    let b = number_begins (drop at tape) at n next (bytes_drop at tape good) e in
    omega (arith, b.ends, seven_long n h b.fits)
