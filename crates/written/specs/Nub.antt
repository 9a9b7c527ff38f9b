-- First occurrences.
use Rattle.std.proofs.Math.Path.{◌≡◌, refl, sym}
use Rattle.std.proofs.Common.{ap, ◌∙◌}
use Rattle.std.specs.Prelude.{Bool}
use Rattle.std.proofs.Math.Bool.{true, false, cond}
use Rattle.std.proofs.lemmas.Bool.{false≢true}
use mathlib.Core.List.{List, [], ◌∷◌, ◌++◌, append-nil, append_assoc}
use Prim.Native.Nat.{ℕ, zero, suc, ◌≤◌, ◌<◌}
use native.Mathlib.Omega.{arith}
use Rattle.std.proofs.Math.ListN.{length, get_or}

module _ {A : Type 0} (eq : A → A → Bool) where
  -- x is equal to one of the list
  unfoldable pub has : A → List A → Bool
  has x [] = false
  has x (y ∷ ys) = cond (eq x y) true (has x ys)

  -- the list with each element only where it stands first; the first argument has what is kept so far
  unfoldable pub nub_onto : List A → List A → List A
  nub_onto kept [] = kept
  nub_onto kept (x ∷ xs) = nub_onto (cond (has x kept) kept (kept ++ (x ∷ []))) xs

  unfoldable pub nub : List A → List A
  nub xs = nub_onto [] xs

  -- where x stands first, the length where it does not
  unfoldable pub index_of : A → List A → ℕ
  index_of x [] = 0
  index_of x (y ∷ ys) = cond (eq x y) 0 (suc (index_of x ys))

  -- no element equal to an earlier one
  unfoldable pub distinct : List A → Bool
  distinct [] = true
  distinct (x ∷ xs) = cond (has x xs) false (distinct xs)

  pub index_of_lt : (x : A) (xs : List A) → has x xs ≡ true → index_of x xs < length xs
  unfolding index_of has
  index_of_lt x [] h = let z : ◌≡◌ {A = ℕ} 0 1 = cc in absurd (omega arith)
  index_of_lt x (y ∷ ys) h = go (eq x y) refl (index_of_lt x ys)
    where
      go : (b : Bool) → eq x y ≡ b → (has x ys ≡ true → index_of x ys < length ys) → index_of x (y ∷ ys) < suc (length ys)
      go true e ih = simp (e, index_of) (omega arith)
      go false e ih = simp (e, index_of) (omega (arith, ih (simp (e, has) at h)))

  pub has_append : (x : A) (xs ys : List A) → has x (xs ++ ys) ≡ cond (has x xs) true (has x ys)
  unfolding has
  has_append x [] ys = refl
  has_append x (z ∷ xs) ys = go (eq x z) (has_append x xs ys)
    where
      go : (b : Bool) → has x (xs ++ ys) ≡ cond (has x xs) true (has x ys) → cond b true (has x (xs ++ ys)) ≡ cond (cond b true (has x xs)) true (has x ys)
      go true ih = refl
      go false ih = ih

  -- at a list with one element more
  distinct_snoc : (xs : List A) (x : A) → ((a b : A) → eq a b ≡ eq b a) → has x xs ≡ false → distinct xs ≡ true → distinct (xs ++ (x ∷ [])) ≡ true
  unfolding distinct has
  distinct_snoc [] x s h d = refl
  distinct_snoc (y ∷ ys) x s h d = go (eq x y) refl (has y ys) refl (distinct_snoc ys x s)
    where
      go : (b : Bool) → eq x y ≡ b → (c : Bool) → has y ys ≡ c → (has x ys ≡ false → distinct ys ≡ true → distinct (ys ++ (x ∷ [])) ≡ true) → distinct ((y ∷ ys) ++ (x ∷ [])) ≡ true
      go true e c f ih = let z : true ≡ false = simp (e, has) at h in cc
      go false e true f ih = let z : false ≡ true = simp (f, distinct) at d in cc
      go false e false f ih =
          let q : has y (ys ++ (x ∷ [])) ≡ false = has_append y ys (x ∷ []) ∙ simp (f, s y x, e) in
          rw (q, distinct) (ih (simp (e, has) at h) (simp (f, distinct) at d))

  nub_onto_distinct : (k xs : List A) → ((a b : A) → eq a b ≡ eq b a) → distinct k ≡ true → distinct (nub_onto k xs) ≡ true
  unfolding nub_onto
  nub_onto_distinct k [] s d = d
  nub_onto_distinct k (x ∷ xs) s d = nub_onto_distinct (cond (has x k) k (k ++ (x ∷ []))) xs s (go (has x k) refl)
    where
      go : (b : Bool) → has x k ≡ b → distinct (cond b k (k ++ (x ∷ []))) ≡ true
      go true e = d
      go false e = distinct_snoc k x s e d

  pub nub_distinct : (xs : List A) → ((a b : A) → eq a b ≡ eq b a) → distinct (nub xs) ≡ true
  unfolding nub distinct
  nub_distinct xs s = nub_onto_distinct [] xs s refl

  -- membership is kept, where the test is equality
  module _ (sound : (a b : A) → eq a b ≡ true → a ≡ b) where
    nub_onto_has : (x : A) (k xs : List A) → has x (nub_onto k xs) ≡ has x (k ++ xs)
    unfolding nub_onto has
    nub_onto_has x k [] = simp append-nil
    nub_onto_has x k (y ∷ ys) = nub_onto_has x (cond (has y k) k (k ++ (y ∷ []))) ys ∙ go (has y k) refl (eq x y) refl
      where
        go : (b : Bool) → has y k ≡ b → (c : Bool) → eq x y ≡ c → has x (cond b k (k ++ (y ∷ [])) ++ ys) ≡ has x (k ++ y ∷ ys)
        go false e c f = simp append_assoc
        go true e true f =
            let g : has x k ≡ true = rw (sound x y f) e in
            simp (has_append, g)
        go true e false f = simp (has_append, has, f)

    pub nub_has : (x : A) (xs : List A) → has x (nub xs) ≡ has x xs
    unfolding nub
    nub_has x xs = nub_onto_has x [] xs

  pub get_d_index_of : (sound : (a b : A) → eq a b ≡ true → a ≡ b) (x d : A) (xs : List A) → has x xs ≡ true → get_or xs (index_of x xs) d ≡ x
  unfolding index_of has
  get_d_index_of sound x d [] h = let z : false ≡ true = h in cc
  get_d_index_of sound x d (y ∷ ys) h = go (eq x y) refl (get_d_index_of sound x d ys)
    where
      go : (b : Bool) → eq x y ≡ b → (has x ys ≡ true → get_or ys (index_of x ys) d ≡ x) → get_or (y ∷ ys) (index_of x (y ∷ ys)) d ≡ x
      go true e ih = simp (e, index_of) (sym (sound x y e))
      go false e ih = simp (e, index_of) (ih (simp (e, has) at h))

  -- what is kept stays in front
  pub nub_onto_keeps : (k xs : List A) → (r : List A) × (nub_onto k xs ≡ k ++ r)
  unfolding nub_onto
  nub_onto_keeps k [] = ([], sym (append-nil k))
  nub_onto_keeps k (x ∷ xs) = go (has x k) refl (nub_onto_keeps k xs) (nub_onto_keeps (k ++ (x ∷ [])) xs)
    where
      go : (b : Bool) → has x k ≡ b → (r : List A) × (nub_onto k xs ≡ k ++ r) → (r : List A) × (nub_onto (k ++ (x ∷ [])) xs ≡ k ++ (x ∷ []) ++ r) → (r : List A) × (nub_onto (cond b k (k ++ (x ∷ []))) xs ≡ k ++ r)
      go true e p q = p
      go false e p q = (x ∷ q.0, q.1 ∙ simp append_assoc)

  pub nub_onto_append : (k xs ys : List A) → nub_onto k (xs ++ ys) ≡ nub_onto (nub_onto k xs) ys
  unfolding nub_onto
  nub_onto_append k [] ys = refl
  nub_onto_append k (x ∷ xs) ys = nub_onto_append (cond (has x k) k (k ++ (x ∷ []))) xs ys

  -- the first occurrences of a front are in front
  pub nub_append : (xs ys : List A) → (r : List A) × (nub (xs ++ ys) ≡ nub xs ++ r)
  unfolding nub
  nub_append xs ys = let p = nub_onto_keeps (nub xs) ys in (p.0, nub_onto_append [] xs ys ∙ p.1)

  pub nub_first : (x : A) (xs : List A) → eq x x ≡ true → index_of x (nub (x ∷ xs)) ≡ 0
  unfolding nub nub_onto index_of has
  nub_first x xs e = let p = nub_onto_keeps (x ∷ []) xs in rw (p.1, e)

  pub index_of_left : (x : A) (xs ys : List A) → has x xs ≡ true → index_of x (xs ++ ys) < length xs
  unfolding index_of has
  index_of_left x [] ys h = let z : ◌≡◌ {A = ℕ} 0 1 = cc in absurd (omega arith)
  index_of_left x (y ∷ xs) ys h = go (eq x y) refl (index_of_left x xs ys)
    where
      go : (b : Bool) → eq x y ≡ b → (has x xs ≡ true → index_of x (xs ++ ys) < length xs) → index_of x (y ∷ (xs ++ ys)) < suc (length xs)
      go true e ih = simp (e, index_of) (omega arith)
      go false e ih = simp (e, index_of) (omega (arith, ih (simp (e, has) at h)))

  pub index_of_right : (x : A) (xs ys : List A) → has x xs ≡ false → length xs ≤ index_of x (xs ++ ys)
  unfolding index_of has
  index_of_right x [] ys h = omega arith
  index_of_right x (y ∷ xs) ys h = go (eq x y) refl (index_of_right x xs ys)
    where
      go : (b : Bool) → eq x y ≡ b → (has x xs ≡ false → length xs ≤ index_of x (xs ++ ys)) → suc (length xs) ≤ index_of x (y ∷ (xs ++ ys))
      go true e ih = let z : true ≡ false = simp (e, has) at h in let w : ◌≡◌ {A = ℕ} 0 1 = cc in absurd (omega arith)
      go false e ih = simp (e, index_of) (omega (arith, ih (simp (e, has) at h)))

  -- what stands in a front goes before what does not
  pub nub_before : (sound : (a b : A) → eq a b ≡ true → a ≡ b) (x y : A) (xs ys : List A) → has x xs ≡ true → has y xs ≡ false → index_of x (nub (xs ++ ys)) < index_of y (nub (xs ++ ys))
  nub_before sound x y xs ys hx hy =
      let p = nub_append xs ys in
      rw p.1 (omega (arith, index_of_left x (nub xs) p.0 (nub_has sound x xs ∙ hx), index_of_right y (nub xs) p.0 (nub_has sound y xs ∙ hy)))

  pub has_get_d : (refl_eq : (a : A) → eq a a ≡ true) (xs : List A) (i : ℕ) (d : A) → i < length xs → has (get_or xs i d) xs ≡ true
  unfolding has
  has_get_d q [] i d h = absurd (omega arith)
  has_get_d q (y ∷ xs) zero d h = rw (q y)
  has_get_d q (y ∷ xs) (suc i) d h = go (eq (get_or xs i d) y) (has_get_d q xs i d (omega arith))
    where
      go : (b : Bool) → has (get_or xs i d) xs ≡ true → cond b true (has (get_or xs i d) xs) ≡ true
      go true e = refl
      go false e = e

  -- in a list of different elements each stands where it is found
  pub index_of_get_d : (refl_eq : (a : A) → eq a a ≡ true) (sound : (a b : A) → eq a b ≡ true → a ≡ b) (xs : List A) (i : ℕ) (d : A) → distinct xs ≡ true → i < length xs → index_of (get_or xs i d) xs ≡ i
  unfolding index_of distinct
  index_of_get_d q sound [] i d u h = absurd (omega arith)
  index_of_get_d q sound (y ∷ xs) zero d u h = rw (q y)
  index_of_get_d q sound (y ∷ xs) (suc i) d u h = go (has y xs) refl (eq (get_or xs i d) y) refl (index_of_get_d q sound xs i d)
    where
      go : (c : Bool) → has y xs ≡ c → (b : Bool) → eq (get_or xs i d) y ≡ b → (distinct xs ≡ true → i < length xs → index_of (get_or xs i d) xs ≡ i) → index_of (get_or xs i d) (y ∷ xs) ≡ suc i
      go true f b e ih = absurd (false≢true (simp (f, distinct) at u))
      go false f true e ih = absurd (false≢true (sym f ∙ rw (sound (get_or xs i d) y e) at (has_get_d q xs i d (omega arith))))
      go false f false e ih = rw (e, index_of) (ap suc (ih (simp (f, distinct) at u) (omega arith)))
