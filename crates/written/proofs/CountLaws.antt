-- How often a name stands in a list.
use Rattle.std.specs.Prelude.{◌≡◌, refl, Bool, true, false, cond, List, [], ◌∷◌, ◌++◌, ℕ, zero, suc, ◌+◌, ◌≤◌, ◌<◌}
use Rattle.std.proofs.Common.{◌∙◌, true≢false, arith}
use Rattle.std.proofs.lemmas.Bool.{false≢true}
use Rattle.written.specs.Graph.{Kind, arr, dic, Name, same, evens, odds, laid}
use Rattle.written.proofs.NameLaws.{In, same_sound}
use Rattle.written.specs.Nub.{has, distinct}

-- how often x stands there
unfoldable pub times : Name → List Name → ℕ
times x [] = 0
times x (y ∷ l) = cond (same x y) 1 0 + times x l

pub times_append : (x : Name) (l m : List Name) → times x (l ++ m) ≡ times x l + times x m
unfolding times
times_append x [] m = omega arith
times_append x (y ∷ l) m = omega (arith, times_append x l m)

pub times_in : (x : Name) (l : List Name) → In x l → 0 < times x l
unfolding times has
times_in x [] h = absurd (false≢true h)
times_in x (y ∷ l) h = go (same x y) refl (times_in x l)
  where
    go : (b : Bool) → same x y ≡ b → (In x l → 0 < times x l) → 0 < cond (same x y) 1 0 + times x l
    go true e ih = rw e (omega arith)
    go false e ih = rw e (omega (arith, ih (simp (e, has) at h)))

pub times_out : (x : Name) (l : List Name) → has same x l ≡ false → times x l ≡ 0
unfolding times has
times_out x [] h = refl
times_out x (y ∷ l) h = go (same x y) refl (times_out x l)
  where
    go : (b : Bool) → same x y ≡ b → (has same x l ≡ false → times x l ≡ 0) → cond (same x y) 1 0 + times x l ≡ 0
    go true e ih = absurd (true≢false (simp (e, has) at h))
    go false e ih = rw e (omega (arith, ih (simp (e, has) at h)))

pub in_times : (x : Name) (l : List Name) → 0 < times x l → In x l
in_times x l h = go (has same x l) refl
  where
    go : (b : Bool) → has same x l ≡ b → has same x l ≡ true
    go true e = e
    go false e = absurd (omega (arith, times_out x l e))

pub out_times : (x : Name) (l : List Name) → times x l ≡ 0 → has same x l ≡ false
out_times x l h = go (has same x l) refl
  where
    go : (b : Bool) → has same x l ≡ b → has same x l ≡ false
    go false e = e
    go true e = absurd (omega (arith, times_in x l e))

pub times_halves : (x : Name) (l : List Name) → times x (evens l) + times x (odds l) ≡ times x l
unfolding times evens
times_halves x [] = refl
times_halves x (y ∷ l) = omega (arith, times_halves x l)

pub times_laid : (x : Name) (k : Kind) (l : List Name) → times x (laid k l) ≡ times x l
unfolding laid
times_laid x arr l = refl
times_laid x dic l = times_append x (evens l) (odds l) ∙ times_halves x l

pub out_laid : (x : Name) (k : Kind) (l : List Name) → In x (laid k l) → In x l
out_laid x k l h = in_times x l (rw (← (times_laid x k l)) (times_in x (laid k l) h))

pub in_evens : (x : Name) (l : List Name) → In x (evens l) → In x l
in_evens x l h = in_times x l (omega (arith, times_in x (evens l) h, times_halves x l))

pub times_distinct : (x : Name) (l : List Name) → distinct same l ≡ true → times x l ≤ 1
unfolding times distinct
times_distinct x [] d = omega arith
times_distinct x (y ∷ l) d = go (same x y) refl (has same y l) refl (times_distinct x l)
  where
    go : (b : Bool) → same x y ≡ b → (c : Bool) → has same y l ≡ c → (distinct same l ≡ true → times x l ≤ 1) → cond (same x y) 1 0 + times x l ≤ 1
    go b e true f ih = absurd (false≢true (simp (f, distinct) at d))
    go true e false f ih = rw e (omega (arith, times_out x l (rw (same_sound x y e) f)))
    go false e false f ih = rw e (omega (arith, ih (simp (f, distinct) at d)))

-- the first m of a row of numbers, summed
unfoldable pub sum : ℕ → (ℕ → ℕ) → ℕ
sum zero f = 0
sum (suc m) f = f 0 + sum m (λ (j : ℕ). f (suc j))
