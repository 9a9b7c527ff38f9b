-- What is placed, piece by piece, and what a line answers and leaves.
use Rattle.std.specs.Prelude.{Bool, true, false, List, ◌++◌, ◌≡◌, refl, ℕ, ◌+◌, leb, length, Result, Ok, Err}
use Rattle.std.proofs.lemmas.Bool.{false≢true}
use Rattle.std.proofs.Common.{sym, ap, ◌∙◌, arith, leb-false, length-append}
use Rattle.std.proofs.lemmas.List.Edits.{sets}
use Rattle.std.proofs.Math.Seq.{length-sets}
use Rattle.digits.specs.Put.{Written, put_into}
use Rattle.digits.specs.PutLaws.{put_written, written_append}
use Rattle.xml.specs.Put.{Placed, Puts, Worded}
use Rattle.xml.specs.Simple.{all_simple}
use Rattle.xml.specs.SimpleLaws.{simple_escape, simple_passes}
use Rattle.xml.specs.Text.{barred_in}
use Rattle.xml.specs.Xml.{escape, element, worded}
use Rattle.xml.specs.declared.answer.Bar.TheVariants.{NoCharacter}
use Rattle.xml.specs.declared.answer.Bar.{Bar}

-- ---- pieces

pub placed : {l : List ℕ} {at : ℕ} {vs m : List ℕ} {end : ℕ} → Written l at vs m end → Placed l at vs m end
placed w = record { place = w.place; memory = λ h. w.memory }

-- what is put whole or not at all
pub placed_put : {l : List ℕ} {at : ℕ} {vs m : List ℕ} {end : ℕ} → m ≡ put_into l at vs → end ≡ at + length vs → Placed l at vs m end
placed_put {l} {at} {vs} e f = record { place = f; memory = λ h. e ∙ (put_written l at vs h).memory }

-- what doesn't fit
pub placed_none : {l : List ℕ} {at : ℕ} {vs : List ℕ} (size : ℕ) → size ≡ length vs → leb (at + size) (length l) ≡ false → Placed l at vs l (at + size)
placed_none {l} {at} {vs} size s e = record { place = omega (arith, s); memory = λ h. absurd (omega (arith, s, h, leb-false (at + size) (length l) e)) }

-- one piece behind another
pub placed_append : {l : List ℕ} {at : ℕ} {vs m : List ℕ} {mid : ℕ} {ws n : List ℕ} {end : ℕ} → Placed l at vs m mid → Placed m mid ws n end → Placed l at (vs ++ ws) n end
placed_append {l} {at} {vs} {m} {mid} {ws} {n} {end} v w =
    let long = length-append vs ws in
    record {
      place = omega (arith, v.place, w.place, long);
      memory = λ h.
          let a : m ≡ sets l at vs = v.memory (omega (arith, h, long)) in
          let same : length m ≡ length l = ap length a ∙ length-sets l at vs in
          let front : Written l at vs m mid = record { place = v.place; memory = a } in
          let back : Written m mid ws n end = record { place = w.place; memory = w.memory (omega (arith, h, long, same, v.place)) } in
          (written_append front back).memory;
    }

pub puts : {l : List ℕ} {at : ℕ} {line m : List ℕ} {end : ℕ} → Placed l at line m end → Puts l at line m (Ok end)
puts {end = end} p = record { end = end; is = refl; placed = p }

-- ---- text

module _ (l : List ℕ) (at : ℕ) (key : Bool) (s m : List ℕ) where
  pub worded_simple : (r : Result ℕ Bar) → all_simple s ≡ true → Puts l at (element (worded key) s) m r → Worded l at key s m r
  worded_simple r p w = record {
    stands = λ h. rw (simple_escape s p) w;
    bars = λ h. absurd (false≢true (sym (simple_passes s p) ∙ h));
  }

  pub worded_escaped : (r : Result ℕ Bar) → barred_in s ≡ false → Puts l at (element (worded key) (escape s)) m r → Worded l at key s m r
  worded_escaped r p w = record { stands = λ h. w; bars = λ h. absurd (false≢true (sym p ∙ h)) }

  pub worded_barred : barred_in s ≡ true → Worded l at key s m (Err NoCharacter)
  worded_barred p = record { stands = λ h. absurd (false≢true (sym h ∙ p)); bars = λ h. refl }
