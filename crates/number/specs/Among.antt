-- Whether a number is among those of a list.
use Rattle.std.specs.Prelude.{Bool, true, false, cond, List, [], ◌∷◌, ◌≡◌, refl, ℕ, eqb}
use Rattle.std.proofs.Common.{true≢false, sym, ap, ◌∙◌, eqb-true}

unfoldable pub among : List ℕ → ℕ → Bool
among [] n = false
among (x ∷ xs) n = cond (eqb n x) true (among xs n)

-- a number of the list is none that isn't in it
pub among_not : (l : List ℕ) (n m : ℕ) → among l n ≡ true → among l m ≡ false → n ≡ m → ⊥
among_not l n m h k e = true≢false (sym h ∙ ap (among l) e ∙ k)

-- and is one of the list with a number more
pub among_more : (x : ℕ) (l : List ℕ) (n : ℕ) → among l n ≡ true → among (x ∷ l) n ≡ true
unfolding among
among_more x l n h = go (eqb n x)
  where
    go : (b : Bool) → cond b true (among l n) ≡ true
    go true = refl
    go false = h

-- a test that holds of all numbers of a list holds of each: so one list is computed to be part of another, or to have none of its numbers
unfoldable pub all_of : (ℕ → Bool) → List ℕ → Bool
all_of f [] = true
all_of f (x ∷ xs) = cond (f x) (all_of f xs) false

pub among_all : (f : ℕ → Bool) (l : List ℕ) (n : ℕ) → all_of f l ≡ true → among l n ≡ true → f n ≡ true
unfolding among all_of
among_all f [] n h k = absurd (true≢false (sym k))
among_all f (x ∷ xs) n h k = go (f x) (eqb n x) refl refl (among_all f xs n)
  where
    go : (s t : Bool) → f x ≡ s → eqb n x ≡ t → (all_of f xs ≡ true → among xs n ≡ true → f n ≡ true) → f n ≡ true
    go false t e d ih = absurd (true≢false (sym (rw e at h)))
    go true true e d ih = rw (eqb-true n x d) e
    go true false e d ih = ih (rw e at h) (rw d at k)
