-- Sums over different names are sums along the events: each name at its first event.
use Rattle.std.specs.Prelude.{◌≡◌, Bool, ◌⊎◌, get_or}
use Rattle.std.proofs.Math.Path.{refl, sym}
use Rattle.std.proofs.Common.{ap, ◌∙◌, true≢false, inl, inr, suc-add, add-suc, add-zero, drop-cons}
use Rattle.std.proofs.Math.Bool.{true, false, cond}
use Rattle.std.proofs.lemmas.Bool.{false≢true}
use mathlib.Core.List.{List, [], ◌∷◌, ◌++◌, nil≢cons, head-eq_of_cons-eq}
use Prim.Native.Nat.{ℕ, zero, suc, ◌+◌, ◌≤◌, ◌<◌}
use Rattle.std.proofs.Math.Nat.{zero-add}
use native.Mathlib.Omega.{arith}
use borrow.Author.Tests.{eqb-true, eqb-false, ne_eqb, lt-ltb, le-ltb, ltb-true, ltb-false}
use Rattle.std.proofs.Math.Dec.{ltb, eqb}
use Rattle.std.proofs.Math.ListN.{length, drop}
use Rattle.written.proofs.CountLaws.{in_evens}
use Rattle.written.proofs.EmissionLaws.{spoken_here, spoken_there, in_emission, from_emission}
use Rattle.written.specs.Graph.{arr, dic, Piece, scalar, start, end, Name, val, box, same, kids, evens, spoken, emission}
use Rattle.written.proofs.NameLaws.{In, in_here, in_there, in_append, same_sound, same_refl, drop_lt, drop_next, drop_done, drop_get_d}
use Rattle.written.specs.Nub.{has, distinct, index_of_lt, get_d_index_of}
use Rattle.written.specs.Shape.{name_of, is_end}
use Rattle.written.specs.Weigh.{event_names, rep_of}

-- event i has name x, and is no end
pub record Stands (all : List Piece) (i : ℕ) (x : Name) : Type 0 where
  pub piece : Piece
  pub post : List Piece
  pub there : drop i all ≡ piece ∷ post
  pub named : name_of i piece ≡ x
  pub opens : is_end piece ≡ false

length_names : (n : ℕ) (es : List Piece) → length (event_names n es) ≡ length es
unfolding event_names
length_names n [] = refl
length_names n (p ∷ es) = ap suc (length_names (suc n) es)

get_d_names : (n : ℕ) (es : List Piece) (i : ℕ) (d : Name) (p : Piece) → i < length es → get_or (event_names n es) i d ≡ name_of (n + i) (get_or es i p)
unfolding event_names
get_d_names n [] i d p h = absurd (omega arith)
get_d_names n (q ∷ es) zero d p h = rw add-zero
get_d_names n (q ∷ es) (suc i) d p h = rw (add-suc, ← suc-add n i) (get_d_names (suc n) es i d p (omega arith))

names_in : (n : ℕ) (es : List Piece) (i : ℕ) → i < length es → (p : Piece) → In (name_of (n + i) (get_or es i p)) (event_names n es)
unfolding event_names
names_in n [] i h p = absurd (omega arith)
names_in n (q ∷ es) zero h p = rw add-zero (in_here (name_of n q) (event_names (suc n) es))
names_in n (q ∷ es) (suc i) h p = rw (add-suc, ← suc-add n i) (in_there _ (name_of n q) (event_names (suc n) es) (names_in (suc n) es i (omega arith) p))

abbrev is_val : Name → Bool
is_val (val s) = true
is_val (box p) = false

abbrev box_in : Name → ℕ
box_in (val s) = 0
box_in (box p) = p

-- a container's name has its place
box_place : (p i : ℕ) (q : Piece) → name_of i q ≡ box p → i ≡ p
box_place p i (scalar s) e = absurd (true≢false (ap is_val e))
box_place p i (start k) e = ap box_in e
box_place p i end e = ap box_in e

module _ (all : List Piece) where
  rep_at : (i : ℕ) (x : Name) (a : Stands all i x) → (rep_of all x < length all) × (name_of (rep_of all x) (get_or all (rep_of all x) a.piece) ≡ x)
  unfolding rep_of
  rep_at i x a =
      let h : i < length all = drop_lt all i a.piece a.post a.there in
      let n : In x (event_names 0 all) = rw (zero-add, drop_get_d all i a.piece a.piece a.post a.there, a.named) at (names_in 0 all i h a.piece) in
      let l : rep_of all x < length all = omega (arith, index_of_lt same x (event_names 0 all) n, length_names 0 all) in
      (l, rw zero-add at (sym (get_d_names 0 all (rep_of all x) x a.piece l)) ∙ get_d_index_of same same_sound x x (event_names 0 all) n)

  -- a container's first event is its start
  pub rep_box : (p : ℕ) → Stands all p (box p) → rep_of all (box p) ≡ p
  rep_box p a = box_place p (rep_of all (box p)) (get_or all (rep_of all (box p)) a.piece) (rep_at p (box p) a).1

  -- the first event of a name has that name
  pub rep_stands : (i : ℕ) (x : Name) → Stands all i x → Stands all (rep_of all x) x
  rep_stands i (box p) a =
      let e = box_place p i a.piece a.named in
      rw (rep_box p (rw e at a)) (rw e at a)
  rep_stands i (val s) a = go (get_or all (rep_of all (val s)) a.piece) r.1 (drop-cons all (rep_of all (val s)) a.piece r.0)
    where
      r : (rep_of all (val s) < length all) × (name_of (rep_of all (val s)) (get_or all (rep_of all (val s)) a.piece) ≡ val s)
      r = rep_at i (val s) a

      go : (q : Piece) → name_of (rep_of all (val s)) q ≡ val s → drop (rep_of all (val s)) all ≡ q ∷ drop (suc (rep_of all (val s))) all → Stands all (rep_of all (val s)) (val s)
      go (scalar t) e d = record { piece = scalar t; post = _; there = d; named = e; opens = refl }
      go (start k) e d = absurd (false≢true (ap is_val e))
      go end e d = absurd (false≢true (ap is_val e))

  -- what is spoken stands somewhere
  abbrev pub Told : Name → Type 0
  Told x = (i : ℕ) × Stands all i x

  told_head : (x : Name) (n : ℕ) (q : Piece) (r : List Piece) (l : List Name) → drop n all ≡ q ∷ r → is_end q ≡ false → (In x l → Told x) → In x (name_of n q ∷ l) → Told x
  unfolding has
  told_head x n q r l d o f h = go (same x (name_of n q)) refl h
    where
      go : (b : Bool) → same x (name_of n q) ≡ b → cond b true (has same x l) ≡ true → Told x
      go true e g = (n, record { piece = q; post = r; there = d; named = sym (same_sound x (name_of n q) e); opens = o })
      go false e g = f g

  kids_told : (x : Name) (d n : ℕ) (es : List Piece) → drop n all ≡ es → In x (kids d n es) → Told x
  unfolding kids has
  kids_told x d n [] e h = absurd (false≢true h)
  kids_told x zero n (scalar s ∷ es) e h = told_head x n (scalar s) es (kids 0 (suc n) es) e refl (kids_told x 0 (suc n) es (drop_next all n (scalar s) es e)) h
  kids_told x (suc d) n (scalar s ∷ es) e h = kids_told x (suc d) (suc n) es (drop_next all n (scalar s) es e) h
  kids_told x zero n (start k ∷ es) e h = told_head x n (start k) es (kids 1 (suc n) es) e refl (kids_told x 1 (suc n) es (drop_next all n (start k) es e)) h
  kids_told x (suc d) n (start k ∷ es) e h = kids_told x (suc (suc d)) (suc n) es (drop_next all n (start k) es e) h
  kids_told x zero n (end ∷ es) e h = absurd (false≢true h)
  kids_told x (suc d) n (end ∷ es) e h = kids_told x d (suc n) es (drop_next all n end es e) h

  spoken_told : (x : Name) (n : ℕ) (es : List Piece) → drop n all ≡ es → In x (spoken n es) → Told x
  unfolding spoken has
  spoken_told x n [] e h = absurd (false≢true h)
  spoken_told x n (scalar s ∷ es) e h = told_head x n (scalar s) es (spoken (suc n) es) e refl (spoken_told x (suc n) es (drop_next all n (scalar s) es e)) h
  spoken_told x n (start arr ∷ es) e h = told_head x n (start arr) es (spoken (suc n) es) e refl (spoken_told x (suc n) es (drop_next all n (start arr) es e)) h
  spoken_told x n (start dic ∷ es) e h =
      told_head x n (start dic) es (evens (kids 0 (suc n) es) ++ spoken (suc n) es) e refl (λ i. go (spoken_told x (suc n) es (drop_next all n (start dic) es e)) (in_append x (evens (kids 0 (suc n) es)) (spoken (suc n) es) i)) h
    where
      go : (In x (spoken (suc n) es) → Told x) → In x (evens (kids 0 (suc n) es)) ⊎ In x (spoken (suc n) es) → Told x
      go f (inl i) = kids_told x 0 (suc n) es (drop_next all n (start dic) es e) (in_evens x (kids 0 (suc n) es) i)
      go f (inr i) = f i
  spoken_told x n (end ∷ es) e h = spoken_told x (suc n) es (drop_next all n end es e) h

  pub emission_told : (x : Name) → In x (emission all) → Told x
  emission_told x h = spoken_told x 0 all refl (from_emission all x h)

-- what stands somewhere is spoken
stands_spoken : (es : List Piece) (n i : ℕ) (x : Name) (q : Piece) (post : List Piece) → drop i es ≡ q ∷ post → name_of (n + i) q ≡ x → is_end q ≡ false → In x (spoken n es)
stands_spoken [] n zero x q post e m o = absurd (nil≢cons e)
stands_spoken [] n (suc i) x q post e m o = absurd (nil≢cons e)
stands_spoken (p ∷ es) n zero x q post e m o =
    let c : p ≡ q = head-eq_of_cons-eq e in
    rw (← m, ← c, add-zero) (spoken_here n p es (rw c o))
stands_spoken (p ∷ es) n (suc i) x q post e m o = spoken_there x n p es (stands_spoken es (suc n) i x q post e (rw suc-add (rw add-suc at m)) o)

pub told_emission : (es : List Piece) (i : ℕ) (x : Name) → Stands es i x → In x (emission es)
told_emission es i x a = in_emission es x (stands_spoken es 0 i x a.piece a.post a.there (rw zero-add a.named) a.opens)

-- it is the first event of its name, and no end
unfoldable pub is_first : List Piece → ℕ → Piece → Bool
is_first all n p = cond (is_end p) false (eqb (rep_of all (name_of n p)) n)

nothing : (b : Bool) → ◌≡◌ {A = ℕ} (cond b 0 0) 0
nothing true = refl
nothing false = refl

module _ (g : Name → ℕ) where
  -- the sum over a list
  unfoldable pub sum_of : List Name → ℕ
  sum_of [] = 0
  sum_of (x ∷ l) = g x + sum_of l

  module _ (all : List Piece) where
    -- the sum of those in l, each at its first event
    unfoldable pub part_of : List Name → ℕ → Piece → ℕ
    part_of l n p = cond (is_first all n p) (cond (has same (name_of n p) l) (g (name_of n p)) 0) 0

    unfoldable pub along : List Name → ℕ → List Piece → ℕ
    along l n [] = 0
    along l n (p ∷ r) = part_of l n p + along l (suc n) r

    along_none : (n : ℕ) (r : List Piece) → along [] n r ≡ 0
    unfolding along part_of has
    along_none n [] = refl
    along_none n (p ∷ r) = rw (along_none (suc n) r, nothing (is_first all n p))

    -- one more, that is not in l
    part_more : (x : Name) (l : List Name) → has same x l ≡ false → (n : ℕ) (p : Piece) → part_of (x ∷ l) n p ≡ part_of (x ∷ []) n p + part_of l n p
    unfolding part_of has
    part_more x l h n p = go (is_first all n p) (same (name_of n p) x) refl
      where
        go : (b c : Bool) → same (name_of n p) x ≡ c → cond b (cond (cond c true (has same (name_of n p) l)) (g (name_of n p)) 0) 0 ≡ cond b (cond (cond c true false) (g (name_of n p)) 0) 0 + cond b (cond (has same (name_of n p) l) (g (name_of n p)) 0) 0
        go false c e = refl
        go true true e = let f : has same (name_of n p) l ≡ false = rw (same_sound (name_of n p) x e) h in rw f (omega arith)
        go true false e = omega arith

    along_more : (x : Name) (l : List Name) → has same x l ≡ false → (n : ℕ) (r : List Piece) → along (x ∷ l) n r ≡ along (x ∷ []) n r + along l n r
    unfolding along
    along_more x l h n [] = refl
    along_more x l h n (p ∷ r) = omega (arith, part_more x l h n p, along_more x l h (suc n) r)

    -- one alone
    part_one : (x : Name) → Stands all (rep_of all x) x → (n : ℕ) (p : Piece) (r : List Piece) → drop n all ≡ p ∷ r → part_of (x ∷ []) n p ≡ cond (eqb (rep_of all x) n) (g x) 0
    unfolding part_of has is_first
    part_one x a n p r d = go (eqb (rep_of all x) n) refl
      where
        go : (b : Bool) → eqb (rep_of all x) n ≡ b → part_of (x ∷ []) n p ≡ cond b (g x) 0
        go true e =
            let q : rep_of all x ≡ n = eqb-true (rep_of all x) n e in
            let t : drop n all ≡ a.piece ∷ a.post = rw q at a.there in
            let c : a.piece ≡ p = head-eq_of_cons-eq (sym t ∙ d) in
            let m : name_of n p ≡ x = rw (← c, ← q) a.named in
            let o : is_end p ≡ false = rw (← c) a.opens in
            rw (o, m, e, same_refl x)
        go false e = other (is_end p) (same (name_of n p) x) refl
          where
            other : (b c : Bool) → same (name_of n p) x ≡ c → cond (cond b false (eqb (rep_of all (name_of n p)) n)) (cond (cond c true false) (g (name_of n p)) 0) 0 ≡ 0
            other true c f = refl
            other false true f = rw (same_sound (name_of n p) x f, e)
            other false false f = nothing (eqb (rep_of all (name_of n p)) n)

    along_one : (x : Name) → Stands all (rep_of all x) x → (n : ℕ) (r : List Piece) → drop n all ≡ r → along (x ∷ []) n r ≡ cond (ltb (rep_of all x) n) 0 (g x)
    unfolding along
    along_one x a n [] d =
        let h : rep_of all x < n = omega (arith, drop_done all n d, drop_lt all (rep_of all x) a.piece a.post a.there) in
        rw (lt-ltb (rep_of all x) n h)
    along_one x a n (p ∷ r) d = rw (part_one x a n p r d, along_one x a (suc n) r (drop_next all n p r d)) (go (ltb (rep_of all x) n) refl (eqb (rep_of all x) n) refl)
      where
        go : (b : Bool) → ltb (rep_of all x) n ≡ b → (c : Bool) → eqb (rep_of all x) n ≡ c → cond c (g x) 0 + cond (ltb (rep_of all x) (suc n)) 0 (g x) ≡ cond b 0 (g x)
        go true e c f =
            let h : rep_of all x < n = ltb-true (rep_of all x) n e in
            let z : false ≡ c = sym (ne_eqb (rep_of all x) n (omega arith)) ∙ f in
            rw (← z, lt-ltb (rep_of all x) (suc n) (omega arith))
        go false e true f =
            let h : rep_of all x ≡ n = eqb-true (rep_of all x) n f in
            rw (lt-ltb (rep_of all x) (suc n) (omega arith)) (omega arith)
        go false e false f =
            let h : n ≤ rep_of all x = ltb-false (rep_of all x) n e in
            let k : rep_of all x ≡ n → ⊥ = eqb-false (rep_of all x) n f in
            rw (le-ltb (rep_of all x) (suc n) (omega arith)) (omega arith)

    -- THE SUM: different names, each of which stands somewhere
    pub sum_along : (l : List Name) → distinct same l ≡ true → ((x : Name) → In x l → Told all x) → sum_of l ≡ along l 0 all
    unfolding sum_of distinct
    sum_along [] u t = sym (along_none 0 all)
    sum_along (x ∷ l) u t = go (has same x l) refl (λ v. sum_along l v (λ y i. t y (in_there y x l i)))
      where
        go : (b : Bool) → has same x l ≡ b → (distinct same l ≡ true → sum_of l ≡ along l 0 all) → g x + sum_of l ≡ along (x ∷ l) 0 all
        go true e ih = absurd (false≢true (simp (e, distinct) at u))
        go false e ih =
            let a = t x (in_here x l) in
            let o : along (x ∷ []) 0 all ≡ g x = along_one x (rep_stands all a.0 x a.1) 0 all refl ∙ rw (le-ltb (rep_of all x) 0 (omega arith)) in
            omega (arith, o, along_more x l e 0 all, ih (simp (e, distinct) at u))

    -- an event's part, where all that stands somewhere is in the list
    pub part_all : (l : List Name) → ((i : ℕ) (x : Name) → Stands all i x → In x l) → (n : ℕ) (p : Piece) (r : List Piece) → drop n all ≡ p ∷ r → part_of l n p ≡ cond (is_first all n p) (g (name_of n p)) 0
    unfolding part_of is_first
    part_all l f n p r d = go (is_end p) refl
      where
        go : (b : Bool) → is_end p ≡ b → cond (cond b false (eqb (rep_of all (name_of n p)) n)) (cond (has same (name_of n p) l) (g (name_of n p)) 0) 0 ≡ cond (cond b false (eqb (rep_of all (name_of n p)) n)) (g (name_of n p)) 0
        go true e = refl
        go false e = rw (f n (name_of n p) (record { piece = p; post = r; there = d; named = refl; opens = e }))
