-- An object is among the open containers exactly where one of them is that object.
use Rattle.std.specs.Prelude.{Bool, true, false, ◌||◌, List, [], ◌∷◌, ◌≡◌, refl, ℕ, zero, suc, ◌≤◌, ◌<◌, eqb, length, get_or, take}
use Rattle.std.proofs.Common.{arith, eqb-true, eq-eqb}
use Rattle.layout.specs.Frame.{no_frame}
use Rattle.layout.specs.declared.frame.Frame.{Frame}
use Rattle.reader.specs.State.{member_of}

or_right : (b : Bool) → (b || true) ≡ true
or_right true = refl
or_right false = refl

pub member_in : (fs : List Frame) (h n i : ℕ) → i < h → h ≤ length fs → (get_or fs i no_frame).object ≡ n → member_of (take h fs) n ≡ true
unfolding member_of
member_in fs zero n i a b e = absurd (omega arith)
member_in [] (suc h) n i a b e = absurd (omega arith)
member_in (f ∷ fs) (suc h) n zero a b e = rw (eq-eqb _ _ e)
member_in (f ∷ fs) (suc h) n (suc i) a b e = rw (member_in fs h n i (omega arith) (omega arith) e) (or_right (eqb f.object n))

pub record At (fs : List Frame) (h n : ℕ) : Type 0 where
  pub depth : ℕ
  pub below : depth < h
  pub is : (get_or fs depth no_frame).object ≡ n

pub member_at : (fs : List Frame) (h n : ℕ) → member_of (take h fs) n ≡ true → At fs h n
unfolding member_of
member_at fs zero n e = let z : ◌≡◌ {A = ℕ} 0 1 = cc in absurd (omega arith)
member_at [] (suc h) n e = let z : ◌≡◌ {A = ℕ} 0 1 = cc in absurd (omega arith)
member_at (f ∷ fs) (suc h) n e = go (eqb f.object n) refl (λ m. member_at fs h n m)
  where
    go : (b : Bool) → eqb f.object n ≡ b → (member_of (take h fs) n ≡ true → At fs h n) → At (f ∷ fs) (suc h) n
    go true q ih = record { depth = 0; below = omega arith; is = eqb-true _ _ q }
    go false q ih =
        let t = ih (rw q at e) in
        record { depth = suc t.depth; below = omega arith; is = t.is }
