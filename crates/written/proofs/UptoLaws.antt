-- One event more appends what that event names and speaks; at the end it is the whole.
use Rattle.std.specs.Prelude.{◌≡◌, refl, true, false, List, [], ◌∷◌, ◌++◌, ℕ, zero, suc, ◌+◌, ◌≤◌, length, drop}
use Rattle.std.proofs.Common.{sym, ap, ◌∙◌, append_assoc, append-nil, add-suc, suc-add, add-zero, zero-add, arith, ne_eqb}
use Rattle.written.specs.Graph.{Scalar, Kind, arr, dic, Piece, scalar, start, end, Name, val, box, same, kids, evens, odds, laid, names, spoken}
use Rattle.written.specs.Nub.{has, has_append}
use Rattle.written.specs.Shape.{whole, skip, next_at, InPairs}
use Rattle.written.proofs.ShapeLaws.{in_pairs}
use Rattle.written.specs.Upto.{names_upto, spoken_upto, names_at, spoken_at}

-- in front of a list that comes in two parts
onto : (a c d : List Name) {b : List Name} → b ≡ c ++ d → a ++ b ≡ a ++ c ++ d
onto a c d e = rw e (sym (append_assoc a c d))

-- names
names_next : (e n : ℕ) (es : List Piece) → names_upto (suc e) n es ≡ names_upto e n es ++ names_at (n + e) (drop e es)
unfolding names_upto names_at
names_next zero n [] = refl
names_next zero n (scalar s ∷ es) = refl
names_next zero n (start k ∷ es) = rw (add-zero n) (append-nil (laid k (kids 0 (suc n) es)))
names_next zero n (end ∷ es) = refl
names_next (suc e) n [] = refl
names_next (suc e) n (scalar s ∷ es) = rw (add-suc n e, ← suc-add n e) (names_next e (suc n) es)
names_next (suc e) n (start k ∷ es) =
    rw (add-suc n e, ← suc-add n e) (onto (laid k (kids 0 (suc n) es)) (names_upto e (suc n) es) (names_at (suc n + e) (drop e es)) (names_next e (suc n) es))
names_next (suc e) n (end ∷ es) = rw (add-suc n e, ← suc-add n e) (names_next e (suc n) es)

pub names_more : (es : List Piece) (e : ℕ) (k : Kind) (r : List Piece) → drop e es ≡ start k ∷ r → names_upto (suc e) 0 es ≡ names_upto e 0 es ++ laid k (kids 0 (suc e) r)
unfolding names_at
names_more es e k r d = names_next e 0 es ∙ rw (zero-add, d)

pub names_scalar : (es : List Piece) (e : ℕ) (s : Scalar) (r : List Piece) → drop e es ≡ scalar s ∷ r → names_upto (suc e) 0 es ≡ names_upto e 0 es
unfolding names_at
names_scalar es e s r d = names_next e 0 es ∙ rw d (append-nil (names_upto e 0 es))

pub names_end : (es : List Piece) (e : ℕ) (r : List Piece) → drop e es ≡ end ∷ r → names_upto (suc e) 0 es ≡ names_upto e 0 es
unfolding names_at
names_end es e r d = names_next e 0 es ∙ rw d (append-nil (names_upto e 0 es))

pub names_all : (n : ℕ) (es : List Piece) → names_upto (length es) n es ≡ names n es
unfolding names_upto names
names_all n [] = refl
names_all n (scalar s ∷ es) = names_all (suc n) es
names_all n (start k ∷ es) = ap (λ (l : List Name). laid k (kids 0 (suc n) es) ++ l) (names_all (suc n) es)
names_all n (end ∷ es) = names_all (suc n) es

-- the rest is what the events behind name
pub names_parts : (e n : ℕ) (es : List Piece) → names n es ≡ names_upto e n es ++ names (n + e) (drop e es)
unfolding names_upto names
names_parts zero n es = rw (add-zero n)
names_parts (suc e) n [] = refl
names_parts (suc e) n (scalar s ∷ es) = rw (add-suc n e, ← suc-add n e) (names_parts e (suc n) es)
names_parts (suc e) n (start k ∷ es) =
    rw (add-suc n e, ← suc-add n e) (onto (laid k (kids 0 (suc n) es)) (names_upto e (suc n) es) (names (suc n + e) (drop e es)) (names_parts e (suc n) es))
names_parts (suc e) n (end ∷ es) = rw (add-suc n e, ← suc-add n e) (names_parts e (suc n) es)

-- spoken
spoken_next : (e n : ℕ) (es : List Piece) → spoken_upto (suc e) n es ≡ spoken_upto e n es ++ spoken_at (n + e) (drop e es)
unfolding spoken_upto spoken_at
spoken_next zero n [] = refl
spoken_next zero n (scalar s ∷ es) = refl
spoken_next zero n (start arr ∷ es) = rw (add-zero n)
spoken_next zero n (start dic ∷ es) = rw (add-zero n) (ap (λ (l : List Name). box n ∷ l) (append-nil (evens (kids 0 (suc n) es))))
spoken_next zero n (end ∷ es) = refl
spoken_next (suc e) n [] = refl
spoken_next (suc e) n (scalar s ∷ es) = rw (add-suc n e, ← suc-add n e) (ap (λ (l : List Name). val s ∷ l) (spoken_next e (suc n) es))
spoken_next (suc e) n (start arr ∷ es) = rw (add-suc n e, ← suc-add n e) (ap (λ (l : List Name). box n ∷ l) (spoken_next e (suc n) es))
spoken_next (suc e) n (start dic ∷ es) =
    rw (add-suc n e, ← suc-add n e) (onto (box n ∷ evens (kids 0 (suc n) es)) (spoken_upto e (suc n) es) (spoken_at (suc n + e) (drop e es)) (spoken_next e (suc n) es))
spoken_next (suc e) n (end ∷ es) = rw (add-suc n e, ← suc-add n e) (spoken_next e (suc n) es)

pub spoken_more : (es : List Piece) (e : ℕ) (p : Piece) (r : List Piece) → drop e es ≡ p ∷ r → spoken_upto (suc e) 0 es ≡ spoken_upto e 0 es ++ spoken_at e (p ∷ r)
spoken_more es e p r d = spoken_next e 0 es ∙ rw (zero-add, d)

pub spoken_scalar : (es : List Piece) (e : ℕ) (s : Scalar) (r : List Piece) → drop e es ≡ scalar s ∷ r → spoken_upto (suc e) 0 es ≡ spoken_upto e 0 es ++ (val s ∷ [])
unfolding spoken_at
spoken_scalar es e s r d = spoken_more es e (scalar s) r d

pub spoken_arr : (es : List Piece) (e : ℕ) (r : List Piece) → drop e es ≡ start arr ∷ r → spoken_upto (suc e) 0 es ≡ spoken_upto e 0 es ++ (box e ∷ [])
unfolding spoken_at
spoken_arr es e r d = spoken_more es e (start arr) r d

pub spoken_dic : (es : List Piece) (e : ℕ) (r : List Piece) → drop e es ≡ start dic ∷ r → spoken_upto (suc e) 0 es ≡ spoken_upto e 0 es ++ (box e ∷ evens (kids 0 (suc e) r))
unfolding spoken_at
spoken_dic es e r d = spoken_more es e (start dic) r d

pub spoken_end : (es : List Piece) (e : ℕ) (r : List Piece) → drop e es ≡ end ∷ r → spoken_upto (suc e) 0 es ≡ spoken_upto e 0 es
unfolding spoken_at
spoken_end es e r d = spoken_more es e end r d ∙ append-nil (spoken_upto e 0 es)

pub spoken_all : (n : ℕ) (es : List Piece) → spoken_upto (length es) n es ≡ spoken n es
unfolding spoken_upto spoken
spoken_all n [] = refl
spoken_all n (scalar s ∷ es) = ap (λ (l : List Name). val s ∷ l) (spoken_all (suc n) es)
spoken_all n (start arr ∷ es) = ap (λ (l : List Name). box n ∷ l) (spoken_all (suc n) es)
spoken_all n (start dic ∷ es) = ap (λ (l : List Name). box n ∷ (evens (kids 0 (suc n) es) ++ l)) (spoken_all (suc n) es)
spoken_all n (end ∷ es) = spoken_all (suc n) es

pub spoken_parts : (e n : ℕ) (es : List Piece) → spoken n es ≡ spoken_upto e n es ++ spoken (n + e) (drop e es)
unfolding spoken_upto spoken
spoken_parts zero n es = rw (add-zero n)
spoken_parts (suc e) n [] = refl
spoken_parts (suc e) n (scalar s ∷ es) = rw (add-suc n e, ← suc-add n e) (ap (λ (l : List Name). val s ∷ l) (spoken_parts e (suc n) es))
spoken_parts (suc e) n (start arr ∷ es) = rw (add-suc n e, ← suc-add n e) (ap (λ (l : List Name). box n ∷ l) (spoken_parts e (suc n) es))
spoken_parts (suc e) n (start dic ∷ es) =
    rw (add-suc n e, ← suc-add n e) (onto (box n ∷ evens (kids 0 (suc n) es)) (spoken_upto e (suc n) es) (spoken (suc n + e) (drop e es)) (spoken_parts e (suc n) es))
spoken_parts (suc e) n (end ∷ es) = rw (add-suc n e, ← suc-add n e) (spoken_parts e (suc n) es)

pub spoken_split : (es : List Piece) (e : ℕ) → (back : List Name) × (spoken 0 es ≡ spoken_upto e 0 es ++ back)
spoken_split es e = (spoken e (drop e es), spoken_parts e 0 es ∙ rw zero-add)

-- keys are scalars
pub keys_lone : (p : ℕ) (es : List Piece) (stop i : ℕ) (ks vs : List Name) → InPairs es stop i ks vs → has same (box p) ks ≡ false
unfolding has same
keys_lone p es stop i [] [] a = refl
keys_lone p es stop i [] (v ∷ vs) a = absurd a
keys_lone p es stop i (k ∷ ks) [] a = absurd a
keys_lone p es stop i (k ∷ ks) (v ∷ vs) (s, _, _, _, q, _, _, _, a) = rw q (keys_lone p es stop (next_at es (suc i)) ks vs a)

-- no container is spoken before its start
pub boxes_low : (top : ℕ) (es : List Piece) → whole top es ≡ true → (p e : ℕ) → e ≤ p → has same (box p) (spoken_upto e 0 es) ≡ false
unfolding has same spoken_upto spoken_at
boxes_low top es w p zero h = refl
boxes_low top es w p (suc e) h =
    rw (spoken_next e 0 es, has_append same (box p) (spoken_upto e 0 es) (spoken_at (0 + e) (drop e es)), boxes_low top es w p e (omega arith), zero-add) (go (drop e es) refl)
  where
    go : (l : List Piece) → drop e es ≡ l → has same (box p) (spoken_at e l) ≡ false
    go [] d = refl
    go (scalar s ∷ r) d = refl
    go (start arr ∷ r) d = rw (ne_eqb p e (omega arith))
    go (start dic ∷ r) d = rw (ne_eqb p e (omega arith)) (keys_lone p es (e + skip 0 r) (suc e) (evens (kids 0 (suc e) r)) (odds (kids 0 (suc e) r)) (in_pairs top es w e r d))
    go (end ∷ r) d = refl

pub box_new : (top : ℕ) (es : List Piece) → whole top es ≡ true → (e : ℕ) → has same (box e) (spoken_upto e 0 es) ≡ false
box_new top es w e = boxes_low top es w e e (omega arith)
