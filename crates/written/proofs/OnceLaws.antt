-- Each container is named once: a count along the events.
use Rattle.std.specs.Prelude.{◌≡◌, refl, Bool, true, false, cond, ℕ, zero, suc, ◌+◌, ◌≤◌, ◌<◌, ltb, eqb, length, drop}
use Rattle.std.proofs.Common.{ap, ◌∙◌, suc-add, add-suc, arith, eqb-true, eq-eqb, ne_eqb}
use Rattle.std.proofs.lemmas.Bool.{false≢true}
use mathlib.Core.List.{List, [], ◌∷◌, ◌++◌, nil≢cons, head-eq_of_cons-eq}
use Rattle.written.proofs.CountLaws.{times, times_append, times_laid, sum}
use Rattle.written.specs.Graph.{Kind, Piece, scalar, start, end, Name, box, same, kids, laid, names}
use Rattle.written.proofs.NameLaws.{scalar_start, end_start}
use Rattle.written.specs.Shape.{Due, later, inside, takes, opens, closes, fits, whole}
use Rattle.written.proofs.WholeLaws.{passed, begun, none_outside}

-- the containers
unfoldable pub starts : ℕ → List Piece → List Name
starts n [] = []
starts n (scalar s ∷ es) = starts (suc n) es
starts n (start k ∷ es) = box n ∷ starts (suc n) es
starts n (end ∷ es) = starts (suc n) es

starts_low : (p n : ℕ) (es : List Piece) → p < n → times (box p) (starts n es) ≡ 0
unfolding times starts same
starts_low p n [] h = refl
starts_low p n (scalar s ∷ es) h = starts_low p (suc n) es (omega arith)
starts_low p n (start k ∷ es) h = rw (ne_eqb p n (omega arith)) (omega (arith, starts_low p (suc n) es (omega arith)))
starts_low p n (end ∷ es) h = starts_low p (suc n) es (omega arith)

pub starts_once : (p n : ℕ) (es : List Piece) → times (box p) (starts n es) ≤ 1
unfolding times starts same
starts_once p n [] = omega arith
starts_once p n (scalar s ∷ es) = starts_once p (suc n) es
starts_once p n (start k ∷ es) = go (eqb p n) refl (starts_once p (suc n) es)
  where
    go : (b : Bool) → eqb p n ≡ b → times (box p) (starts (suc n) es) ≤ 1 → cond (eqb p n) 1 0 + times (box p) (starts (suc n) es) ≤ 1
    go true e ih = rw e (omega (arith, starts_low p (suc n) es (let q : p ≡ n = eqb-true p n e in omega arith)))
    go false e ih = rw e (omega (arith, ih))
starts_once p n (end ∷ es) = starts_once p (suc n) es

pub starts_all : (p n : ℕ) (es : List Piece) (k : Kind) (post : List Piece) → drop p es ≡ start k ∷ post → 0 < times (box (n + p)) (starts n es)
unfolding times starts same
starts_all zero n [] k post e = absurd (nil≢cons e)
starts_all (suc p) n [] k post e = absurd (nil≢cons e)
starts_all zero n (scalar s ∷ es) k post e = absurd (scalar_start (head-eq_of_cons-eq e))
starts_all zero n (start k' ∷ es) k post e = rw (eq-eqb (n + 0) n (omega arith)) (omega arith)
starts_all zero n (end ∷ es) k post e = absurd (end_start (head-eq_of_cons-eq e))
starts_all (suc p) n (scalar s ∷ es) k post e = rw (add-suc, ← suc-add) (starts_all p (suc n) es k post e)
starts_all (suc p) n (start k' ∷ es) k post e = let h : 0 < times (box (n + suc p)) (starts (suc n) es) = rw (add-suc, ← (suc-add n p)) (starts_all p (suc n) es k post e) in omega arith
starts_all (suc p) n (end ∷ es) k post e = rw (add-suc, ← suc-add) (starts_all p (suc n) es k post e)

-- members come later than what they are seen from
pub kids_low : (p d n : ℕ) (es : List Piece) → p < n → times (box p) (kids d n es) ≡ 0
unfolding times kids same
kids_low p d n [] h = refl
kids_low p zero n (scalar s ∷ es) h = omega (arith, kids_low p 0 (suc n) es (omega arith))
kids_low p (suc d) n (scalar s ∷ es) h = kids_low p (suc d) (suc n) es (omega arith)
kids_low p zero n (start k ∷ es) h = rw (ne_eqb p n (omega arith)) (omega (arith, kids_low p 1 (suc n) es (omega arith)))
kids_low p (suc d) n (start k ∷ es) h = kids_low p (suc (suc d)) (suc n) es (omega arith)
kids_low p zero n (end ∷ es) h = refl
kids_low p (suc d) n (end ∷ es) h = kids_low p d (suc n) es (omega arith)

pub names_low : (p n : ℕ) (es : List Piece) → p < n → times (box p) (names n es) ≡ 0
unfolding times names
names_low p n [] h = refl
names_low p n (scalar s ∷ es) h = names_low p (suc n) es (omega arith)
names_low p n (start k ∷ es) h = times_append (box p) (laid k (kids 0 (suc n) es)) (names (suc n) es) ∙ omega (arith, times_laid (box p) k (kids 0 (suc n) es), kids_low p 0 (suc n) es (omega arith), names_low p (suc n) es (omega arith))
names_low p n (end ∷ es) h = names_low p (suc n) es (omega arith)

-- what the open containers have yet to name, and what the later ones name, are the containers that come
tally : (top p : ℕ) (es : List Piece) (cs : List Due) (n : ℕ) → fits top cs es ≡ true → sum (length cs) (λ (j : ℕ). times (box p) (kids j n es)) + times (box p) (names n es) ≡ times (box p) (starts n es)
unfolding fits sum kids names starts times same
tally top p [] [] n e = refl
tally top p [] (c ∷ cs) n e = absurd (false≢true e)
tally top p (x ∷ es) [] n e = absurd (false≢true e)
tally top p (scalar s ∷ es) (c ∷ cs) n e = omega (arith, tally top p es (later c ∷ cs) (suc n) (passed (takes c s) _ e).1)
tally top p (start k ∷ es) (c ∷ cs) n e =
    omega (arith, tally top p es (inside k ∷ later c ∷ cs) (suc n) (begun (opens c) (ltb (suc (length cs)) top) _ e), times_append (box p) (laid k (kids 0 (suc n) es)) (names (suc n) es), times_laid (box p) k (kids 0 (suc n) es))
tally top p (end ∷ es) (c ∷ cs) n e = omega (arith, tally top p es cs (suc n) (passed (closes c) _ e).1)

-- the root and all names together name each container once
pub all_once : (top p : ℕ) (es : List Piece) → whole top es ≡ true → times (box p) (kids 0 0 es ++ names 0 es) ≡ times (box p) (starts 0 es)
unfolding whole fits kids names starts times sum same
all_once top p [] e = absurd (false≢true e)
all_once top p (scalar s ∷ []) e = refl
all_once top p (scalar s ∷ (x ∷ es)) e = absurd (false≢true e)
all_once top p (start k ∷ es) e =
    let w = (passed (ltb 0 top) _ e).1 in
    times_append (box p) (box 0 ∷ kids 1 1 es) (laid k (kids 0 1 es) ++ names 1 es)
    ∙ omega (arith, ap (times (box p)) (none_outside top es (inside k ∷ []) 1 w), tally top p es (inside k ∷ []) 1 w, times_append (box p) (laid k (kids 0 1 es)) (names 1 es), times_laid (box p) k (kids 0 1 es))
all_once top p (end ∷ es) e = absurd (false≢true e)

pub named_once : (top p : ℕ) (es : List Piece) → whole top es ≡ true → times (box p) (kids 0 0 es ++ names 0 es) ≤ 1
named_once top p es w = rw (all_once top p es w) (starts_once p 0 es)
