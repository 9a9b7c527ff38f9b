-- The loop that writes a text: what is written so far, with what is left behind it, is the whole text.
use mathlib.Core.Bool.{Bool, true}
use mathlib.Core.Path.{◌≡◌, refl, sym, ap, ◌∙◌}
use mathlib.Core.List.{List, [], ◌∷◌, ◌++◌}
use Prim.Native.Nat.{ℕ, suc, ◌+◌, ◌≤◌}
use native.Mathlib.Nat.{add-zero, add-suc, suc-add}
use native.Mathlib.Omega.{arith}
use lib.ListN.{length, set, length-append}
use lib.Seq.{sets, length-sets}

-- one run of stores after another
pub sets_append : (vs ws l : List ℕ) (i : ℕ) → sets l i (vs ++ ws) ≡ sets (sets l i vs) (i + length vs) ws
sets_append [] ws l i = rw add-zero
sets_append (v ∷ vs) ws l i = rw (add-suc, ← suc-add) (sets_append vs ws (set l i v) (suc i))

-- before the loop the memory is out₀; at bytes of out are written, and rest is left of s. What bytes become is `text`, where they are `good`
pub record Writing (good : List ℕ → Bool) (text : List ℕ → List ℕ) (s out₀ out rest : List ℕ) (at : ℕ) : Type 0 where
  pub valid : good rest ≡ true
  pub room : at + length (text rest) ≤ length out
  pub total : at + length (text rest) ≡ length (text s)
  pub same : sets out at (text rest) ≡ sets out₀ 0 (text s)

module _ (good : List ℕ → Bool) (text : List ℕ → List ℕ) where
  pub writing_start : (s out : List ℕ) → good s ≡ true → length (text s) ≤ length out → Writing good text s out out s 0
  writing_start s out g h = record { valid = g; room = omega arith; total = omega arith; same = refl }

  module _ (s out₀ out rest : List ℕ) (at : ℕ) (w : Writing good text s out₀ out rest at) where
    -- p comes next, and then what the bytes behind it become
    module _ (p behind : List ℕ) (e : text rest ≡ p ++ text behind) where
      size : length (text rest) ≡ length p + length (text behind)
      size = rw e (length-append p (text behind))

      pub writing_room : at + length p ≤ length out
      writing_room = omega (arith, size, w.room)

      pub writing_more : good behind ≡ true → Writing good text s out₀ (sets out at p) behind (at + length p)
      writing_more g = record {
        valid = g;
        room = rw (length-sets out at p) (omega (arith, size, w.room));
        total = omega (arith, size, w.total);
        same = sym (sets_append p (text behind) out at) ∙ rw (← e) w.same;
      }

    -- stores leave the memory as long as it was
    pub writing_length : length out ≡ length out₀
    writing_length = sym (length-sets out at (text rest)) ∙ ap length w.same ∙ length-sets out₀ 0 (text s)

    -- nothing is left to write
    pub writing_done : text rest ≡ [] → (at ≡ length (text s)) × (out ≡ sets out₀ 0 (text s))
    writing_done e = (omega (arith, ap length e, w.total), rw e at w.same)
