-- The first event of a name stands for it: numbers of events in the place of names.
use Rattle.std.specs.Prelude.{◌≡◌, Bool, cond, ℕ, zero, suc, ◌+◌, ◌≤◌, ◌<◌, length, drop}
use Rattle.std.proofs.Math.Path.{refl, sym, ap}
use Rattle.std.proofs.Common.{◌∙◌, add-suc, suc-add, add-zero, arith}
use Rattle.std.proofs.Math.Bool.{true, false}
use Rattle.std.proofs.lemmas.Bool.{false≢true}
use mathlib.Core.List.{List, [], ◌∷◌, ◌++◌, map, nil≢cons, head-eq_of_cons-eq}
use Rattle.std.proofs.Math.Nat.{zero-add}
use borrow.Author.Tests.{eqb-true, eqb-false}
use Rattle.std.proofs.Math.Dec.{eqb}
use Rattle.std.proofs.Math.ListN.{get_or}
use Rattle.written.proofs.NameLaws.{drop_lt, drop_next, same_sound, same_refl, In, in_here, in_there, in_drop}
use Rattle.written.specs.Graph.{Scalar, Kind, arr, dic, Piece, scalar, start, end, Name, val, box, same, kids, evens, odds, laid, names, spoken}
use Rattle.written.specs.Nub.{has, nub_onto, index_of, get_d_index_of}
use Rattle.written.specs.Shape.{name_of}
use Rattle.written.specs.Weigh.{event_names, rep_of}

events_drop : (i n : ℕ) (es : List Piece) → drop i (event_names n es) ≡ event_names (n + i) (drop i es)
unfolding event_names
events_drop zero n es = rw (add-zero n)
events_drop (suc i) n [] = refl
events_drop (suc i) n (p ∷ es) = rw (add-suc n i, ← suc-add n i) (events_drop i (suc n) es)

module _ (es : List Piece) where
  pub event_at_law : (i : ℕ) (p : Piece) (r : List Piece) → drop i es ≡ p ∷ r → drop i (event_names 0 es) ≡ name_of i p ∷ event_names (suc i) r
  unfolding event_names
  event_at_law i p r e = events_drop i 0 es ∙ rw (zero-add, e)

  pub event_in_law : (i : ℕ) (p : Piece) (r : List Piece) → drop i es ≡ p ∷ r → In (name_of i p) (event_names 0 es)
  event_in_law i p r e = in_drop (name_of i p) (event_names 0 es) i (event_names (suc i) r) (event_at_law i p r e)

-- what stands at the first event of a name has that name
found : (n : ℕ) (es : List Piece) (x : Name) → In x (event_names n es) → (p : Piece) × (q : List Piece) × (drop (index_of same x (event_names n es)) es ≡ p ∷ q) × (name_of (n + index_of same x (event_names n es)) p ≡ x)
unfolding event_names has index_of
found n [] x h = absurd (false≢true h)
found n (p ∷ es) x h = go (same x (name_of n p)) refl (found (suc n) es x)
  where
    go : (b : Bool) → same x (name_of n p) ≡ b
        → (In x (event_names (suc n) es) → (p : Piece) × (q : List Piece) × (drop (index_of same x (event_names (suc n) es)) es ≡ p ∷ q) × (name_of (suc n + index_of same x (event_names (suc n) es)) p ≡ x))
        → (c : Piece) × (q : List Piece) × (drop (cond b 0 (suc (index_of same x (event_names (suc n) es)))) (p ∷ es) ≡ c ∷ q) × (name_of (n + cond b 0 (suc (index_of same x (event_names (suc n) es)))) c ≡ x)
    go true e ih = (p, es, refl, rw (add-zero n) (sym (same_sound x (name_of n p) e)))
    go false e ih = rw (add-suc, ← suc-add) (ih (simp (e, has) at h))

index_le : (x : Name) (l : List Name) (i : ℕ) (q : List Name) → drop i l ≡ x ∷ q → index_of same x l ≤ i
unfolding index_of
index_le x [] zero q e = absurd (nil≢cons e)
index_le x [] (suc i) q e = absurd (nil≢cons e)
index_le x (y ∷ l) zero q e = rw (head-eq_of_cons-eq e, same_refl x) (omega arith)
index_le x (y ∷ l) (suc i) q e = go (same x y) (index_le x l i q e)
  where
    go : (b : Bool) → index_of same x l ≤ i → cond b 0 (suc (index_of same x l)) ≤ suc i
    go true h = omega arith
    go false h = omega arith

name_box : (i j : ℕ) (p : Piece) → name_of j p ≡ box i → j ≡ i
name_box i j (scalar s) e = let z : ◌≡◌ {A = ℕ} 0 1 = cc in absurd (omega arith)
name_box i j (start k) e = cc
name_box i j end e = cc

name_val : (s : Scalar) (j : ℕ) (p : Piece) → name_of j p ≡ val s → p ≡ scalar s
name_val s j (scalar t) e = cc
name_val s j (start k) e = let z : ◌≡◌ {A = ℕ} 0 1 = cc in absurd (omega arith)
name_val s j end e = let z : ◌≡◌ {A = ℕ} 0 1 = cc in absurd (omega arith)

module _ (es : List Piece) where
  pub rep_at : (x : Name) → In x (event_names 0 es) → (p : Piece) × (q : List Piece) × (drop (rep_of es x) es ≡ p ∷ q) × (name_of (rep_of es x) p ≡ x)
  unfolding rep_of
  rep_at x h = let (p, q, d, n) = found 0 es x h in (p, q, d, rw zero-add at n)

  pub rep_le : (i : ℕ) (p : Piece) (r : List Piece) → drop i es ≡ p ∷ r → rep_of es (name_of i p) ≤ i
  unfolding rep_of
  rep_le i p r e = index_le (name_of i p) (event_names 0 es) i (event_names (suc i) r) (event_at_law es i p r e)

  pub rep_lt : (x : Name) → In x (event_names 0 es) → rep_of es x < length es
  rep_lt x h = let (p, q, d, _) = rep_at x h in drop_lt es (rep_of es x) p q d

  rep_place : (i : ℕ) → In (box i) (event_names 0 es) → rep_of es (box i) ≡ i
  rep_place i h = let (p, _, _, n) = rep_at (box i) h in name_box i (rep_of es (box i)) p n

  pub rep_box : (i : ℕ) (k : Kind) (r : List Piece) → drop i es ≡ start k ∷ r → rep_of es (box i) ≡ i
  rep_box i k r e = rep_place i (event_in_law es i (start k) r e)

  pub rep_end : (i : ℕ) (r : List Piece) → drop i es ≡ end ∷ r → rep_of es (box i) ≡ i
  rep_end i r e = rep_place i (event_in_law es i end r e)

  -- an equal scalar stands there
  pub rep_same : (i : ℕ) (s : Scalar) (r : List Piece) → drop i es ≡ scalar s ∷ r → (q : List Piece) × (drop (rep_of es (val s)) es ≡ scalar s ∷ q)
  rep_same i s r e =
      let (p, q, d, n) = rep_at (val s) (event_in_law es i (scalar s) r e) in
      (q, d ∙ ap (λ (c : Piece). c ∷ q) (name_val s (rep_of es (val s)) p n))

  -- two names of the tape are the same where their first events are
  pub rep_one : (x y : Name) → In x (event_names 0 es) → In y (event_names 0 es) → eqb (rep_of es x) (rep_of es y) ≡ same x y
  unfolding rep_of
  rep_one x y h i = go (eqb (rep_of es x) (rep_of es y)) refl (same x y) refl
    where
      go : (a : Bool) → eqb (rep_of es x) (rep_of es y) ≡ a → (b : Bool) → same x y ≡ b → eqb (rep_of es x) (rep_of es y) ≡ same x y
      go true p true q = p ∙ sym q
      go false p false q = p ∙ sym q
      go true p false q =
          let l = event_names 0 es in
          let o : rep_of es x ≡ rep_of es y = eqb-true (rep_of es x) (rep_of es y) p in
          let e : x ≡ y = sym (get_d_index_of same same_sound x x l h) ∙ ap (λ (j : ℕ). get_or l j x) o ∙ get_d_index_of same same_sound y x l i in
          absurd (false≢true (sym q ∙ rw e (same_refl y)))
      go false p true q = absurd (eqb-false (rep_of es x) (rep_of es y) p (ap (rep_of es) (same_sound x y q)))

-- all of these stand in l
abbrev pub Among : List Name → List Name → Type 0
Among l [] = Unit {0}
Among l (x ∷ xs) = In x l × Among l xs

module _ (l : List Name) where
  pub among_cons : (y : Name) (xs : List Name) → Among l xs → Among (y ∷ l) xs
  among_cons y [] a = tt
  among_cons y (x ∷ xs) a = (in_there x y l a.0, among_cons y xs a.1)

  pub among_append : (xs ys : List Name) → Among l xs → Among l ys → Among l (xs ++ ys)
  among_append [] ys a b = b
  among_append (x ∷ xs) ys a b = (a.0, among_append xs ys a.1 b)

  pub among_left : (xs ys : List Name) → Among l (xs ++ ys) → Among l xs
  among_left [] ys a = tt
  among_left (x ∷ xs) ys a = (a.0, among_left xs ys a.1)

  pub among_nub : (kept xs : List Name) → Among l kept → Among l xs → Among l (nub_onto same kept xs)
  unfolding nub_onto
  among_nub kept [] a b = a
  among_nub kept (x ∷ xs) a b = among_nub (cond (has same x kept) kept (kept ++ (x ∷ []))) xs (go (has same x kept)) b.1
    where
      go : (c : Bool) → Among l (cond c kept (kept ++ (x ∷ [])))
      go true = a
      go false = among_append kept (x ∷ []) a (b.0, tt)

  mutual
    unfolding evens

    pub among_evens : (xs : List Name) → Among l xs → Among l (evens xs)
    among_evens [] a = tt
    among_evens (x ∷ xs) a = (a.0, among_odds xs a.1)

    pub among_odds : (xs : List Name) → Among l xs → Among l (odds xs)
    among_odds [] a = tt
    among_odds (x ∷ xs) a = among_evens xs a.1

  pub among_laid : (k : Kind) (xs : List Name) → Among l xs → Among l (laid k xs)
  unfolding laid
  among_laid arr xs a = a
  among_laid dic xs a = among_append (evens xs) (odds xs) (among_evens xs a) (among_odds xs a)

among_drop : (i : ℕ) (l xs : List Name) → Among (drop i l) xs → Among l xs
among_drop zero l xs a = a
among_drop (suc i) [] xs a = a
among_drop (suc i) (y ∷ l) xs a = among_cons l y xs (among_drop i l xs a)

-- members are events
pub kids_among : (d n : ℕ) (es : List Piece) → Among (event_names n es) (kids d n es)
unfolding kids event_names
kids_among d n [] = tt
kids_among zero n (scalar s ∷ es) = (in_here (val s) (event_names (suc n) es), among_cons (event_names (suc n) es) (val s) (kids 0 (suc n) es) (kids_among 0 (suc n) es))
kids_among (suc d) n (scalar s ∷ es) = among_cons (event_names (suc n) es) (val s) (kids (suc d) (suc n) es) (kids_among (suc d) (suc n) es)
kids_among zero n (start k ∷ es) = (in_here (box n) (event_names (suc n) es), among_cons (event_names (suc n) es) (box n) (kids 1 (suc n) es) (kids_among 1 (suc n) es))
kids_among (suc d) n (start k ∷ es) = among_cons (event_names (suc n) es) (box n) (kids (suc (suc d)) (suc n) es) (kids_among (suc (suc d)) (suc n) es)
kids_among zero n (end ∷ es) = tt
kids_among (suc d) n (end ∷ es) = among_cons (event_names (suc n) es) (box n) (kids d (suc n) es) (kids_among d (suc n) es)

pub kids_told : (es : List Piece) (i : ℕ) (k : Kind) (r : List Piece) → drop i es ≡ start k ∷ r → Among (event_names 0 es) (kids 0 (suc i) r)
kids_told es i k r e =
    let d = drop_next (event_names 0 es) i (box i) (event_names (suc i) r) (event_at_law es i (start k) r e) in
    among_drop (suc i) (event_names 0 es) (kids 0 (suc i) r) (rw d (kids_among 0 (suc i) r))

pub root_told : (es : List Piece) → Among (event_names 0 es) (kids 0 0 es)
root_told es = kids_among 0 0 es

pub names_told : (n : ℕ) (es : List Piece) → Among (event_names n es) (names n es)
unfolding names event_names
names_told n [] = tt
names_told n (scalar s ∷ es) = among_cons (event_names (suc n) es) (val s) (names (suc n) es) (names_told (suc n) es)
names_told n (start k ∷ es) =
    let l = event_names (suc n) es in
    let ms = kids 0 (suc n) es in
    among_cons l (box n) (laid k ms ++ names (suc n) es) (among_append l (laid k ms) (names (suc n) es) (among_laid l k ms (kids_among 0 (suc n) es)) (names_told (suc n) es))
names_told n (end ∷ es) = among_cons (event_names (suc n) es) (box n) (names (suc n) es) (names_told (suc n) es)

pub spoken_told : (n : ℕ) (es : List Piece) → Among (event_names n es) (spoken n es)
unfolding spoken event_names
spoken_told n [] = tt
spoken_told n (scalar s ∷ es) = (in_here (val s) (event_names (suc n) es), among_cons (event_names (suc n) es) (val s) (spoken (suc n) es) (spoken_told (suc n) es))
spoken_told n (start arr ∷ es) = (in_here (box n) (event_names (suc n) es), among_cons (event_names (suc n) es) (box n) (spoken (suc n) es) (spoken_told (suc n) es))
spoken_told n (start dic ∷ es) =
    let l = event_names (suc n) es in
    let ks = evens (kids 0 (suc n) es) in
    (in_here (box n) l, among_cons l (box n) (ks ++ spoken (suc n) es) (among_append l ks (spoken (suc n) es) (among_evens l (kids 0 (suc n) es) (kids_among 0 (suc n) es)) (spoken_told (suc n) es)))
spoken_told n (end ∷ es) = among_cons (event_names (suc n) es) (box n) (spoken (suc n) es) (spoken_told (suc n) es)

map_snoc : (f : Name → ℕ) (l : List Name) (x : Name) → map f l ++ (f x ∷ []) ≡ map f (l ++ (x ∷ []))
map_snoc f [] x = refl
map_snoc f (y ∷ l) x = ap (λ (r : List ℕ). f y ∷ r) (map_snoc f l x)

-- first occurrences among names, and among the events that stand for them
module _ (es : List Piece) where
  pub has_reps : (x : Name) → In x (event_names 0 es) → (kept : List Name) → Among (event_names 0 es) kept → has eqb (rep_of es x) (map (rep_of es) kept) ≡ has same x kept
  unfolding has
  has_reps x h [] a = refl
  has_reps x h (y ∷ kept) a = rw (rep_one es x y h a.0, has_reps x h kept a.1)

  pub index_reps : (x : Name) → In x (event_names 0 es) → (kept : List Name) → Among (event_names 0 es) kept → index_of eqb (rep_of es x) (map (rep_of es) kept) ≡ index_of same x kept
  unfolding index_of
  index_reps x h [] a = refl
  index_reps x h (y ∷ kept) a = rw (rep_one es x y h a.0, index_reps x h kept a.1)

  pub nub_reps : (kept xs : List Name) → Among (event_names 0 es) kept → Among (event_names 0 es) xs → nub_onto eqb (map (rep_of es) kept) (map (rep_of es) xs) ≡ map (rep_of es) (nub_onto same kept xs)
  unfolding nub_onto
  nub_reps kept [] a b = refl
  nub_reps kept (x ∷ xs) a b =
      ap (λ (c : Bool). nub_onto eqb (cond c (map (rep_of es) kept) (map (rep_of es) kept ++ (rep_of es x ∷ []))) (map (rep_of es) xs)) (has_reps x b.0 kept a)
      ∙ go (has same x kept) (λ m i. nub_reps m xs i b.1)
    where
      go : (c : Bool) → ((m : List Name) → Among (event_names 0 es) m → nub_onto eqb (map (rep_of es) m) (map (rep_of es) xs) ≡ map (rep_of es) (nub_onto same m xs))
          → nub_onto eqb (cond c (map (rep_of es) kept) (map (rep_of es) kept ++ (rep_of es x ∷ []))) (map (rep_of es) xs) ≡ map (rep_of es) (nub_onto same (cond c kept (kept ++ (x ∷ []))) xs)
      go true ih = ih kept a
      go false ih = rw (map_snoc (rep_of es) kept x) (ih (kept ++ (x ∷ [])) (among_append (event_names 0 es) kept (x ∷ []) a (b.0, tt)))
