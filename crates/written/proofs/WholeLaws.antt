-- Laws of events that are one value.
use Rattle.std.specs.Prelude.{◌≡◌, refl, Bool, true, false, cond, ℕ, zero, suc, ◌%◌, ltb, length, get_or, drop}
use Rattle.std.proofs.Common.{ap, arith}
use Rattle.std.proofs.lemmas.Bool.{false≢true}
use mathlib.Core.List.{List, [], ◌∷◌, nil≢cons, head-eq_of_cons-eq, tail-eq_of_cons-eq}
use Rattle.written.specs.Graph.{Kind, arr, Piece, scalar, start, end, Name, val, box, kids}
use Rattle.written.proofs.NameLaws.{scalar_start, end_start}
use Rattle.written.specs.Shape.{Due, element, key, value, later, inside, takes, opens, closes, fits, whole}

-- both sides of a test that passed
pub passed : (a b : Bool) → cond a b false ≡ true → (a ≡ true) × (b ≡ true)
passed true b e = (refl, e)
passed false b e = absurd (false≢true e)

pub begun : (a b c : Bool) → cond a (cond b c false) false ≡ true → c ≡ true
begun a b c e = (passed b c (passed a (cond b c false) e).1).1

-- the root is all that stands outside of every container
pub none_outside : (top : ℕ) (es : List Piece) (cs : List Due) (n : ℕ) → fits top cs es ≡ true → kids (length cs) n es ≡ []
unfolding fits kids
none_outside top [] [] n e = refl
none_outside top [] (c ∷ cs) n e = absurd (false≢true e)
none_outside top (x ∷ es) [] n e = absurd (false≢true e)
none_outside top (scalar s ∷ es) (c ∷ cs) n e = none_outside top es (later c ∷ cs) (suc n) (passed (takes c s) _ e).1
none_outside top (start k ∷ es) (c ∷ cs) n e = none_outside top es (inside k ∷ later c ∷ cs) (suc n) (begun (opens c) (ltb (suc (length cs)) top) _ e)
none_outside top (end ∷ es) (c ∷ cs) n e = none_outside top es cs (suc n) (passed (closes c) _ e).1

pub root_only : (top : ℕ) (es : List Piece) → whole top es ≡ true → (x : Name) × (kids 0 0 es ≡ x ∷ [])
unfolding whole fits kids
root_only top [] e = absurd (false≢true e)
root_only top (scalar s ∷ []) e = (val s, refl)
root_only top (scalar s ∷ (x ∷ es)) e = absurd (false≢true e)
root_only top (start k ∷ es) e = (box 0, ap (λ (l : List Name). box 0 ∷ l) (none_outside top es (inside k ∷ []) 1 (passed (ltb 0 top) _ e).1))
root_only top (end ∷ es) e = absurd (false≢true e)

-- a dictionary has as many values as keys
abbrev pub Parity : Due → ℕ → Type 0
Parity element m = Unit {0}
Parity key m = m % 2 ≡ 0
Parity value m = m % 2 ≡ 1

parity_next : (c : Due) (m : ℕ) → Parity (later c) m → Parity c (suc m)
parity_next element m p = tt
parity_next key m p = omega arith
parity_next value m p = omega arith

pub parity : (top : ℕ) (es : List Piece) (cs : List Due) (j n : ℕ) → fits top cs es ≡ true → Parity (get_or cs j element) (length (kids j n es))
unfolding fits kids
parity top [] [] j n e = tt
parity top [] (c ∷ cs) j n e = absurd (false≢true e)
parity top (x ∷ es) [] j n e = absurd (false≢true e)
parity top (scalar s ∷ es) (c ∷ cs) zero n e = parity_next c (length (kids 0 (suc n) es)) (parity top es (later c ∷ cs) 0 (suc n) (passed (takes c s) _ e).1)
parity top (scalar s ∷ es) (c ∷ cs) (suc j) n e = parity top es (later c ∷ cs) (suc j) (suc n) (passed (takes c s) _ e).1
parity top (start k ∷ es) (c ∷ cs) zero n e = parity_next c (length (kids 1 (suc n) es)) (parity top es (inside k ∷ later c ∷ cs) 1 (suc n) (begun (opens c) (ltb (suc (length cs)) top) _ e))
parity top (start k ∷ es) (c ∷ cs) (suc j) n e = parity top es (inside k ∷ later c ∷ cs) (suc (suc j)) (suc n) (begun (opens c) (ltb (suc (length cs)) top) _ e)
parity top (end ∷ es) (element ∷ cs) zero n e = tt
parity top (end ∷ es) (key ∷ cs) zero n e = refl
parity top (end ∷ es) (value ∷ cs) zero n e = absurd (false≢true e)
parity top (end ∷ es) (c ∷ cs) (suc j) n e = parity top es cs j (suc n) (passed (closes c) _ e).1

abbrev kind_in : Piece → Kind
kind_in (scalar s) = arr
kind_in (start k) = k
kind_in end = arr

-- a dictionary that begins anywhere has as many values as keys
same_start : (k a : Kind) (post es : List Piece) (j : ℕ) → start a ∷ es ≡ start k ∷ post → Parity (inside a) (length (kids 0 j es)) → Parity (inside k) (length (kids 0 j post))
same_start k a post es j d v =
    let q : a ≡ k = ap kind_in (head-eq_of_cons-eq d) in
    let t : es ≡ post = tail-eq_of_cons-eq d in
    rw (← q, ← t) v

fits_parity : (top : ℕ) (es : List Piece) (cs : List Due) (p j : ℕ) (k : Kind) (post : List Piece) → fits top cs es ≡ true → drop p es ≡ start k ∷ post → Parity (inside k) (length (kids 0 j post))
unfolding fits
fits_parity top [] cs zero j k post e d = absurd (nil≢cons d)
fits_parity top [] cs (suc p) j k post e d = absurd (nil≢cons d)
fits_parity top (x ∷ es) [] p j k post e d = absurd (false≢true e)
fits_parity top (scalar s ∷ es) (c ∷ cs) zero j k post e d = absurd (scalar_start (head-eq_of_cons-eq d))
fits_parity top (scalar s ∷ es) (c ∷ cs) (suc p) j k post e d = fits_parity top es (later c ∷ cs) p j k post (passed (takes c s) _ e).1 d
fits_parity top (start a ∷ es) (c ∷ cs) zero j k post e d =
    same_start k a post es j d (parity top es (inside a ∷ later c ∷ cs) 0 j (begun (opens c) (ltb (suc (length cs)) top) _ e))
fits_parity top (start a ∷ es) (c ∷ cs) (suc p) j k post e d =
    fits_parity top es (inside a ∷ later c ∷ cs) p j k post (begun (opens c) (ltb (suc (length cs)) top) _ e) d
fits_parity top (end ∷ es) (c ∷ cs) zero j k post e d = absurd (end_start (head-eq_of_cons-eq d))
fits_parity top (end ∷ es) (c ∷ cs) (suc p) j k post e d = fits_parity top es cs p j k post (passed (closes c) _ e).1 d

pub whole_parity : (top : ℕ) (es : List Piece) (p j : ℕ) (k : Kind) (post : List Piece) → whole top es ≡ true → drop p es ≡ start k ∷ post → Parity (inside k) (length (kids 0 j post))
unfolding whole
whole_parity top [] p j k post e d = absurd (false≢true e)
whole_parity top (scalar s ∷ es) zero j k post e d = absurd (scalar_start (head-eq_of_cons-eq d))
whole_parity top (scalar s ∷ es) (suc p) j k post e d = fits_parity top es [] p j k post e d
whole_parity top (start a ∷ es) zero j k post e d = same_start k a post es j d (parity top es (inside a ∷ []) 0 j (passed (ltb 0 top) _ e).1)
whole_parity top (start a ∷ es) (suc p) j k post e d = fits_parity top es (inside a ∷ []) p j k post (passed (ltb 0 top) _ e).1 d
whole_parity top (end ∷ es) p j k post e d = absurd (false≢true e)
