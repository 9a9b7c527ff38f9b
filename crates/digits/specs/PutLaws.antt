-- What was put and where it ends; pieces one behind the other.
use Rattle.std.specs.Prelude.{Bool, true, false, List, [], ◌∷◌, ◌++◌, ◌≡◌, refl, ℕ, suc, ◌+◌, ◌≤◌, ◌<◌, leb, length, set, None, Some}
use Rattle.std.proofs.Common.{sym, ap, ◌∙◌, add-zero, add-suc, suc-add, add-one, arith, le-leb, leb-true, leb-false, length-append}
use Rattle.std.proofs.Math.Decide.{dec_lt}
use Rattle.std.proofs.lemmas.Bool.{lt-leb}
use Rattle.std.proofs.lemmas.List.Edits.{sets}
use Rattle.std.proofs.Math.Seq.{length-sets}
use Rattle.digits.specs.Put.{Written, put_end, put_into}

-- two tests that say the same
pub same_test : (a b c d : ℕ) → (a ≤ b → c ≤ d) → (c ≤ d → a ≤ b) → leb a b ≡ leb c d
same_test a b c d f g =
    elim (dec_lt b a) [
      | yes p ↦ rw (lt-leb a b p, lt-leb c d (above c d (λ h. omega (arith, g h))))
      | no p ↦ rw (le-leb a b (omega arith), le-leb c d (f (omega arith)))
    ]
  where
    above : (c d : ℕ) → (c ≤ d → ⊥) → d < c
    above c d h = elim (dec_lt d c) [
      | yes p ↦ p
      | no p ↦ absurd (h (omega arith))
    ]

-- ---- whole, or nothing

-- what was written where it fits is put
pub put_whole : {out : List ℕ} {at : ℕ} {vs after : List ℕ} {end : ℕ} → Written out at vs after end → at + length vs ≤ length out → (Some end ≡ put_end out at vs) × (after ≡ put_into out at vs)
unfolding put_end put_into
put_whole w h = rw (le-leb _ _ h) (ap Some w.place, w.memory)

-- where it doesn't fit nothing is
pub put_none : (out : List ℕ) (at : ℕ) (vs : List ℕ) → length out < at + length vs → (None ≡ put_end out at vs) × (out ≡ put_into out at vs)
unfolding put_end put_into
put_none out at vs h = rw (lt-leb _ _ h) (refl, refl)

-- the same from the test of a size that was measured
pub put_fits : {out : List ℕ} {at : ℕ} {vs after : List ℕ} {end : ℕ} (size : ℕ) → size ≡ length vs → Written out at vs after end → leb (at + size) (length out) ≡ true → (Some end ≡ put_end out at vs) × (after ≡ put_into out at vs)
put_fits {out} {at} size measured w e = put_whole w (rw measured at (leb-true (at + size) (length out) e))

pub put_unfit : (out : List ℕ) (at : ℕ) (vs : List ℕ) (size : ℕ) → size ≡ length vs → leb (at + size) (length out) ≡ false → (None ≡ put_end out at vs) × (out ≡ put_into out at vs)
put_unfit out at vs size measured e = put_none out at vs (rw measured at (leb-false (at + size) (length out) e))

-- what is put where it fits is written
pub put_written : (out : List ℕ) (at : ℕ) (vs : List ℕ) → at + length vs ≤ length out → Written out at vs (put_into out at vs) (at + length vs)
unfolding put_into
put_written out at vs h = rw (le-leb _ _ h) (record { place = refl; memory = refl })

pub length_put : (out : List ℕ) (at : ℕ) (vs : List ℕ) → length (put_into out at vs) ≡ length out
unfolding put_into
length_put out at vs = go (leb (at + length vs) (length out)) refl
  where
    go : (b : Bool) → leb (at + length vs) (length out) ≡ b → length (put_into out at vs) ≡ length out
    go true e = rw e (length-sets out at vs)
    go false e = rw e

-- ---- pieces

pub written_length : {l : List ℕ} {at : ℕ} {vs m : List ℕ} {end : ℕ} → Written l at vs m end → length m ≡ length l
written_length {l} {at} {vs} w = ap length w.memory ∙ length-sets l at vs

-- nothing
pub written_nil : (l : List ℕ) (at : ℕ) → Written l at [] l at
written_nil l at = record { place = omega arith; memory = refl }

-- one store, and a piece behind it
pub written_cons : (l : List ℕ) (at v : ℕ) {vs m : List ℕ} {end : ℕ} → Written (set l at v) (at + 1) vs m end → Written l at (v ∷ vs) m end
written_cons l at v w = record { place = omega (arith, w.place); memory = rw add-one at w.memory }

sets_append : (vs ws l : List ℕ) (i : ℕ) → sets l i (vs ++ ws) ≡ sets (sets l i vs) (i + length vs) ws
sets_append [] ws l i = rw add-zero
sets_append (v ∷ vs) ws l i = rw (add-suc, ← suc-add) (sets_append vs ws (set l i v) (suc i))

-- one piece behind another
pub written_append : {l : List ℕ} {at : ℕ} {vs m : List ℕ} {mid : ℕ} {ws n : List ℕ} {end : ℕ} → Written l at vs m mid → Written m mid ws n end → Written l at (vs ++ ws) n end
written_append {l} {at} {vs} {ws = ws} v w = record {
  place = omega (arith, v.place, w.place, length-append vs ws);
  memory = w.memory ∙ rw (v.memory, v.place) (sym (sets_append vs ws l at));
}
