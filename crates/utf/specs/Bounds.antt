-- Numbers between bounds, and lists of numbers below one.
use Rattle.std.specs.Prelude.{◌≡◌, refl, ◌⊎◌, Bool, true, false, ◌&&◌, List, [], ◌∷◌, ℕ, suc, ◌≤◌, ◌<◌, leb, get_or}
use Rattle.std.proofs.Common.{inl, inr, le-leb, leb-true, leb-false}
use Rattle.std.proofs.Math.Bool.{and-false}
use Rattle.std.proofs.lemmas.Bool.{lt-leb}
use Rattle.utf.specs.Tests.{and_left, and_right}

-- every element of a list is below n: `Below 256` says that a list is one of bytes, `Below 0x10000` that it is one of units
abbrev pub Below : ℕ → List ℕ → Type 0
Below n [] = Unit {0}
Below n (x ∷ xs) = (x < n) × Below n xs

-- what a lent slice of bytes tells of its elements
pub below_all : (n : ℕ) (s : List ℕ) → ((i : ℕ) → get_or s i 0 < n) → Below n s
below_all n [] h = tt
below_all n (x ∷ xs) h = (h 0, below_all n xs (λ (i : ℕ). h (suc i)))

-- a number between two bounds, or outside them, and its test
module _ (low high u : ℕ) where
  pub between : (leb low u && leb u high) ≡ true → (low ≤ u) × (u ≤ high)
  between e = (leb-true low u (and_left (leb low u) (leb u high) e), leb-true u high (and_right (leb low u) (leb u high) e))

  pub outside : (leb low u && leb u high) ≡ false → (u < low) ⊎ (high < u)
  outside e = go (leb low u) refl e
    where
      go : (b : Bool) → leb low u ≡ b → (b && leb u high) ≡ false → (u < low) ⊎ (high < u)
      go true p e = inr (leb-false u high e)
      go false p e = inl (leb-false low u p)

  pub put_between : low ≤ u → u ≤ high → (leb low u && leb u high) ≡ true
  put_between h k = rw (le-leb low u h, le-leb u high k)

  pub put_outside : (u < low) ⊎ (high < u) → (leb low u && leb u high) ≡ false
  put_outside (inl h) = rw (lt-leb low u h)
  put_outside (inr h) = rw (lt-leb u high h, and-false)
