-- The three answers of a change of text, each with the memory that it leaves, and what an answer tells.
use Rattle.std.proofs.Math.Path.{◌≡◌, refl}
use Rattle.std.proofs.Common.{sym, ap, ◌∙◌, zero-add}
use Rattle.std.specs.Prelude.{Bool, List, ℕ, ◌≤◌, ◌<◌}
use Rattle.std.proofs.Math.Bool.{true, false, cond}
use native.Mathlib.Omega.{arith}
use Rattle.std.proofs.Math.Dec.{ltb}
use Rattle.std.proofs.Math.ListN.{length}
use Rattle.std.proofs.lemmas.List.Edits.{sets, sets-eq}
use borrow.Author.Tests.{lt-ltb, le-ltb, ltb-false}
use Rattle.utf.specs.Tests.{cond_yes}
use Rattle.utf.specs.Changed.{changed_of, changed_to}
use Rattle.utf.specs.declared.changed.Changed.{Changed}
use Rattle.utf.specs.declared.changed.Changed.TheVariants.{Written, NotText, NoRoom}

-- an answer r, with the memory m after it, is the definition's
pub record Answered (ok : Bool) (text out : List ℕ) (r : Changed) (m : List ℕ) : Type 0 where
  pub answer : r ≡ changed_of ok text out
  pub memory : m ≡ changed_to ok text out

module _ (ok : Bool) (text out : List ℕ) where
  -- no text
  pub not_text : ok ≡ false → Answered ok text out NotText out
  unfolding changed_of changed_to
  not_text e = record { answer = rw e; memory = rw e }

  -- a text of n bytes that does not fit, and one that does
  module _ (n : ℕ) (e : ok ≡ true) (l : length text ≡ n) where
    pub no_room : length out < n → Answered ok text out NoRoom out
    unfolding changed_of changed_to
    no_room h =
        let k : length out < length text = omega arith in
        record { answer = rw (e, lt-ltb (length out) (length text) k); memory = rw (e, lt-ltb (length out) (length text) k) }

    pub written : n ≤ length out → Answered ok text out (Written n) (sets out 0 text)
    unfolding changed_of changed_to
    written h =
        let k : length text ≤ length out = omega arith in
        record { answer = rw (e, le-ltb (length out) (length text) k) (ap Written (sym l)); memory = rw (e, le-ltb (length out) (length text) k) (sets-eq text out 0 (omega arith) ∙ rw zero-add) }

  -- what is written fits the lent memory
  pub written_fits : (n : ℕ) → changed_of ok text out ≡ Written n → n ≤ length out
  unfolding changed_of
  written_fits n h =
      let a = cond_yes ok (cond (ltb (length out) (length text)) NoRoom (Written (length text))) NotText (Written n) h (λ (e : NotText ≡ Written n). let z : ◌≡◌ {A = ℕ} 0 1 = cc in absurd (omega arith)) in
      go (ltb (length out) (length text)) refl a.1
    where
      go : (b : Bool) → ltb (length out) (length text) ≡ b → cond b NoRoom (Written (length text)) ≡ Written n → n ≤ length out
      go true e k = let z : ◌≡◌ {A = ℕ} 0 1 = cc in absurd (omega arith)
      go false e k = let l : length text ≡ n = cc in omega (arith, ltb-false (length out) (length text) e)
