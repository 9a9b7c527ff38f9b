-- Laws of lists, of names, and of what stands in a list of names.
use Rattle.std.specs.Prelude.{◌≡◌, refl, Bool, true, false, cond, ◌⊎◌, ℕ, zero, suc, ◌+◌, ◌*◌, ◌/◌, ◌%◌, ◌≤◌, ◌<◌, eqb, length, get_or, drop}
use Rattle.std.proofs.Common.{sym, ap, ◌∙◌, inl, inr, suc-add, add-suc, add-zero, arith, eqb-true, eq-eqb}
use Rattle.std.proofs.lemmas.Bool.{false≢true, eqb-false}
use mathlib.Core.List.{List, [], ◌∷◌, ◌++◌, map, nil≢cons, head-eq_of_cons-eq, tail-eq_of_cons-eq}
use Rattle.written.specs.Graph.{Scalar, Kind, arr, dic, Piece, scalar, start, end, Name, val, box, same_bytes, same, kids, evens, odds, laid, names}
use Rattle.written.specs.Nub.{has, has_append}

pub drop_lt {ℓ} : {A : Type ℓ} (l : List A) (i : ℕ) (x : A) (ks : List A) → drop i l ≡ x ∷ ks → i < length l
drop_lt [] zero x ks e = absurd (nil≢cons e)
drop_lt [] (suc i) x ks e = absurd (nil≢cons e)
drop_lt (y ∷ l) zero x ks e = omega arith
drop_lt (y ∷ l) (suc i) x ks e = omega (arith, drop_lt l i x ks e)

pub drop_next {ℓ} : {A : Type ℓ} (l : List A) (i : ℕ) (x : A) (ks : List A) → drop i l ≡ x ∷ ks → drop (suc i) l ≡ ks
drop_next [] zero x ks e = absurd (nil≢cons e)
drop_next [] (suc i) x ks e = absurd (nil≢cons e)
drop_next (y ∷ l) zero x ks e = tail-eq_of_cons-eq e
drop_next (y ∷ l) (suc i) x ks e = drop_next l i x ks e

pub drop_get_d {ℓ} : {A : Type ℓ} (l : List A) (i : ℕ) (x d : A) (ks : List A) → drop i l ≡ x ∷ ks → get_or l i d ≡ x
drop_get_d [] zero x d ks e = absurd (nil≢cons e)
drop_get_d [] (suc i) x d ks e = absurd (nil≢cons e)
drop_get_d (y ∷ l) zero x d ks e = head-eq_of_cons-eq e
drop_get_d (y ∷ l) (suc i) x d ks e = drop_get_d l i x d ks e

pub drop_done {ℓ} : {A : Type ℓ} (l : List A) (i : ℕ) → drop i l ≡ [] → length l ≤ i
drop_done [] i e = omega arith
drop_done (y ∷ l) zero e = absurd (nil≢cons (sym e))
drop_done (y ∷ l) (suc i) e = omega (arith, drop_done l i e)

pub get_d_map_lt {ℓ κ} : {A : Type ℓ} {B : Type κ} (f : A → B) (l : List A) (i : ℕ) (d : A) (e : B) → i < length l → get_or (map f l) i e ≡ f (get_or l i d)
get_d_map_lt f [] i d e h = absurd (omega arith)
get_d_map_lt f (y ∷ l) zero d e h = refl
get_d_map_lt f (y ∷ l) (suc i) d e h = get_d_map_lt f l i d e (omega arith)

-- each second
mutual
  unfolding evens

  pub get_d_evens : (l : List Name) (i : ℕ) (d : Name) → get_or (evens l) i d ≡ get_or l (2 * i) d
  get_d_evens [] i d = refl
  get_d_evens (x ∷ l) zero d = refl
  get_d_evens (x ∷ l) (suc i) d = get_d_odds l i d ∙ ap (λ (m : ℕ). get_or (x ∷ l) m d) (let e : suc (suc (2 * i)) ≡ 2 * suc i = omega arith in e)

  pub get_d_odds : (l : List Name) (i : ℕ) (d : Name) → get_or (odds l) i d ≡ get_or l (suc (2 * i)) d
  get_d_odds [] i d = refl
  get_d_odds (x ∷ l) i d = get_d_evens l i d

mutual
  unfolding evens

  pub length_evens : (l : List Name) → length (evens l) ≡ (length l + 1) / 2
  length_evens [] = refl
  length_evens (x ∷ l) = omega (arith, length_odds l)

  pub length_odds : (l : List Name) → length (odds l) ≡ length l / 2
  length_odds [] = refl
  length_odds (x ∷ l) = omega (arith, length_evens l)

abbrev is_start : Piece → Bool
is_start (scalar s) = false
is_start (start k) = true
is_start end = false

-- names
pub bytes_sound : (s t : Scalar) → same_bytes s t ≡ true → s ≡ t
unfolding same_bytes
bytes_sound [] [] e = refl
bytes_sound [] (y ∷ t) e = absurd (false≢true e)
bytes_sound (x ∷ s) [] e = absurd (false≢true e)
bytes_sound (x ∷ s) (y ∷ t) e = go (eqb x y) refl (bytes_sound s t)
  where
    go : (b : Bool) → eqb x y ≡ b → (same_bytes s t ≡ true → s ≡ t) → x ∷ s ≡ y ∷ t
    go true q ih = rw (eqb-true x y q, ih (simp (q, same_bytes) at e))
    go false q ih = absurd (false≢true (simp (q, same_bytes) at e))

pub bytes_refl : (s : Scalar) → same_bytes s s ≡ true
unfolding same_bytes
bytes_refl [] = refl
bytes_refl (x ∷ s) = rw (eq-eqb x x refl) (bytes_refl s)

pub same_sound : (x y : Name) → same x y ≡ true → x ≡ y
unfolding same
same_sound (val s) (val t) e = ap val (bytes_sound s t e)
same_sound (val s) (box q) e = absurd (false≢true e)
same_sound (box p) (val t) e = absurd (false≢true e)
same_sound (box p) (box q) e = ap box (eqb-true p q e)

pub same_refl : (x : Name) → same x x ≡ true
unfolding same
same_refl (val s) = bytes_refl s
same_refl (box p) = eq-eqb p p refl

pub same_comm : (x y : Name) → same x y ≡ same y x
same_comm x y = go (same x y) refl (same y x) refl
  where
    go : (b : Bool) → same x y ≡ b → (c : Bool) → same y x ≡ c → same x y ≡ same y x
    go true e true d = e ∙ sym d
    go true e false d = absurd (false≢true (sym d ∙ rw (same_sound x y e) (same_refl y)))
    go false e true d = absurd (false≢true (sym e ∙ rw (same_sound y x d) (same_refl x)))
    go false e false d = e ∙ sym d

-- x stands in l
abbrev pub In : Name → List Name → Type 0
In x l = has same x l ≡ true

pub in_here : (x : Name) (l : List Name) → In x (x ∷ l)
unfolding has
in_here x l = rw (same_refl x)

pub in_there : (x y : Name) (l : List Name) → In x l → In x (y ∷ l)
unfolding has
in_there x y l h = go (same x y)
  where
    go : (b : Bool) → cond b true (has same x l) ≡ true
    go true = refl
    go false = h

pub in_left : (x : Name) (l m : List Name) → In x l → In x (l ++ m)
in_left x l m h = has_append same x l m ∙ rw h

pub in_right : (x : Name) (l m : List Name) → In x m → In x (l ++ m)
in_right x l m h = has_append same x l m ∙ go (has same x l)
  where
    go : (b : Bool) → cond b true (has same x m) ≡ true
    go true = refl
    go false = h

pub in_append : (x : Name) (l m : List Name) → In x (l ++ m) → In x l ⊎ In x m
in_append x l m h = go (has same x l) refl
  where
    go : (b : Bool) → has same x l ≡ b → In x l ⊎ In x m
    go true e = inl e
    go false e = inr (rw e at (sym (has_append same x l m) ∙ h))

-- at i
pub in_drop : (x : Name) (l : List Name) (i : ℕ) (ks : List Name) → drop i l ≡ x ∷ ks → In x l
in_drop x [] zero ks e = absurd (nil≢cons e)
in_drop x [] (suc i) ks e = absurd (nil≢cons e)
in_drop x (y ∷ l) zero ks e = rw (head-eq_of_cons-eq e) (in_here x l)
in_drop x (y ∷ l) (suc i) ks e = in_there x y l (in_drop x l i ks e)

or_comm : (a b : Bool) → cond a true b ≡ true → cond b true a ≡ true
or_comm true true e = refl
or_comm true false e = refl
or_comm false b e = rw e

in_swap : (x : Name) (l m : List Name) → In x (l ++ m) → In x (m ++ l)
in_swap x l m h = has_append same x m l ∙ or_comm (has same x l) (has same x m) (sym (has_append same x l m) ∙ h)

in_halves : (x : Name) (l : List Name) → In x l → In x (evens l ++ odds l)
unfolding evens has
in_halves x [] h = h
in_halves x (y ∷ l) h = go (same x y) refl (in_halves x l)
  where
    go : (b : Bool) → same x y ≡ b → (In x l → In x (evens l ++ odds l)) → In x (y ∷ (odds l ++ evens l))
    go true e ih = rw e
    go false e ih = rw e (in_swap x (evens l) (odds l) (ih (simp (e, has) at h)))

pub in_laid : (x : Name) (k : Kind) (l : List Name) → In x l → In x (laid k l)
unfolding laid
in_laid x arr l h = h
in_laid x dic l h = in_halves x l h

pub scalar_start : {s : Scalar} {k : Kind} → scalar s ≡ start k → ⊥
scalar_start e = false≢true (ap is_start e)

pub end_start : {k : Kind} → end ≡ start k → ⊥
end_start e = false≢true (ap is_start e)

-- a container's members are among the names
pub kids_in_names : (es : List Piece) (n p : ℕ) (k : Kind) (post : List Piece) (x : Name) → drop p es ≡ start k ∷ post → In x (kids 0 (suc (n + p)) post) → In x (names n es)
unfolding names
kids_in_names [] n zero k post x e h = absurd (nil≢cons e)
kids_in_names [] n (suc p) k post x e h = absurd (nil≢cons e)
kids_in_names (scalar s ∷ es) n zero k post x e h = absurd (scalar_start (head-eq_of_cons-eq e))
kids_in_names (start k' ∷ es) n zero k post x e h = in_left x (laid k' (kids 0 (suc n) es)) (names (suc n) es) (in_laid x k' (kids 0 (suc n) es) (rw (tail-eq_of_cons-eq e) (rw add-zero at h)))
kids_in_names (end ∷ es) n zero k post x e h = absurd (end_start (head-eq_of_cons-eq e))
kids_in_names (scalar s ∷ es) n (suc p) k post x e h = kids_in_names es (suc n) p k post x e (rw suc-add (rw add-suc at h))
kids_in_names (start k' ∷ es) n (suc p) k post x e h = in_right x (laid k' (kids 0 (suc n) es)) (names (suc n) es) (kids_in_names es (suc n) p k post x e (rw suc-add (rw add-suc at h)))
kids_in_names (end ∷ es) n (suc p) k post x e h = kids_in_names es (suc n) p k post x e (rw suc-add (rw add-suc at h))

-- the number at place i where keys and values are taken in turn
pub in_turn_law : (f : Name → ℕ) (l : List Name) (i : ℕ) (x : Name) (ks : List Name) → drop i l ≡ x ∷ ks → cond (eqb (i % 2) 0) (get_or (map f (evens l)) (i / 2) 0) (get_or (map f (odds l)) (i / 2) 0) ≡ f x
in_turn_law f l i x ks e = go (eqb (i % 2) 0) refl
  where
    lt : i < length l
    lt = drop_lt l i x ks e

    go : (b : Bool) → eqb (i % 2) 0 ≡ b → cond b (get_or (map f (evens l)) (i / 2) 0) (get_or (map f (odds l)) (i / 2) 0) ≡ f x
    go true q =
        let p : i % 2 ≡ 0 = eqb-true (i % 2) 0 q in
        let r : 2 * (i / 2) ≡ i = omega arith in
        get_d_map_lt f (evens l) (i / 2) x 0 (omega (arith, length_evens l, lt)) ∙ ap f (get_d_evens l (i / 2) x ∙ ap (λ (m : ℕ). get_or l m x) r ∙ drop_get_d l i x x ks e)
    go false q =
        let p : i % 2 ≡ 0 → ⊥ = eqb-false (i % 2) 0 q in
        let r : suc (2 * (i / 2)) ≡ i = omega arith in
        get_d_map_lt f (odds l) (i / 2) x 0 (omega (arith, length_odds l, lt)) ∙ ap f (get_d_odds l (i / 2) x ∙ ap (λ (m : ℕ). get_or l m x) r ∙ drop_get_d l i x x ks e)
