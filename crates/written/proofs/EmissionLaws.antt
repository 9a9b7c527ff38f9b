-- What is numbered is what is written.
use Rattle.std.specs.Prelude.{◌≡◌, refl, Bool, true, false, cond, ◌⊎◌, List, [], ◌∷◌, ◌++◌, ℕ, zero, suc, ◌+◌, ◌≤◌, ltb, length}
use Rattle.std.proofs.Common.{sym, ◌∙◌, true≢false, inl, inr, arith}
use Rattle.std.proofs.lemmas.Bool.{false≢true}
use Rattle.written.proofs.CountLaws.{times, times_append, times_in, times_out, times_halves, times_laid, out_laid, sum}
use Rattle.written.specs.Graph.{Kind, arr, dic, Piece, scalar, start, end, Name, val, box, same, kids, evens, laid, names, order, spoken, emission}
use Rattle.written.proofs.NameLaws.{In, in_here, in_there, in_right, in_append, same_sound}
use Rattle.written.specs.Nub.{has, nub_has}
use Rattle.written.proofs.NumberLaws.{in_order, from_order}
use Rattle.written.specs.Shape.{Due, later, inside, takes, opens, closes, fits, whole, name_of, is_end}
use Rattle.written.proofs.WholeLaws.{passed, begun}

-- what is written is what is spoken
pub in_emission : (es : List Piece) (x : Name) → In x (spoken 0 es) → In x (emission es)
unfolding emission
in_emission es x h = nub_has same same_sound x (spoken 0 es) ∙ h

pub from_emission : (es : List Piece) (x : Name) → In x (emission es) → In x (spoken 0 es)
unfolding emission
from_emission es x h = sym (nub_has same same_sound x (spoken 0 es)) ∙ h

-- an event that is no end is spoken, before all behind it
pub spoken_here : (n : ℕ) (p : Piece) (es : List Piece) → is_end p ≡ false → In (name_of n p) (spoken n (p ∷ es))
unfolding spoken
spoken_here n (scalar s) es o = in_here (val s) (spoken (suc n) es)
spoken_here n (start arr) es o = in_here (box n) (spoken (suc n) es)
spoken_here n (start dic) es o = in_here (box n) (evens (kids 0 (suc n) es) ++ spoken (suc n) es)
spoken_here n end es o = absurd (true≢false o)

pub spoken_there : (x : Name) (n : ℕ) (p : Piece) (es : List Piece) → In x (spoken (suc n) es) → In x (spoken n (p ∷ es))
unfolding spoken
spoken_there x n (scalar s) es h = in_there x (val s) (spoken (suc n) es) h
spoken_there x n (start arr) es h = in_there x (box n) (spoken (suc n) es) h
spoken_there x n (start dic) es h =
    let ks = evens (kids 0 (suc n) es) in
    in_there x (box n) (ks ++ spoken (suc n) es) (in_right x ks (spoken (suc n) es) h)
spoken_there x n end es h = h

-- members are spoken
spoken_cons : (x : Name) (n : ℕ) (p : Piece) (es : List Piece) (l : List Name) → is_end p ≡ false → (In x l → In x (spoken (suc n) es)) → In x (name_of n p ∷ l) → In x (spoken n (p ∷ es))
unfolding has
spoken_cons x n p es l o f h = go (same x (name_of n p)) refl h
  where
    go : (b : Bool) → same x (name_of n p) ≡ b → cond b true (has same x l) ≡ true → In x (spoken n (p ∷ es))
    go true e g = rw (same_sound x (name_of n p) e) (spoken_here n p es o)
    go false e g = spoken_there x n p es (f g)

kids_spoken : (x : Name) (d n : ℕ) (es : List Piece) → In x (kids d n es) → In x (spoken n es)
unfolding kids has
kids_spoken x d n [] h = absurd (false≢true h)
kids_spoken x zero n (scalar s ∷ es) h = spoken_cons x n (scalar s) es (kids 0 (suc n) es) refl (kids_spoken x 0 (suc n) es) h
kids_spoken x (suc d) n (scalar s ∷ es) h = spoken_there x n (scalar s) es (kids_spoken x (suc d) (suc n) es h)
kids_spoken x zero n (start k ∷ es) h = spoken_cons x n (start k) es (kids 1 (suc n) es) refl (kids_spoken x 1 (suc n) es) h
kids_spoken x (suc d) n (start k ∷ es) h = spoken_there x n (start k) es (kids_spoken x (suc (suc d)) (suc n) es h)
kids_spoken x zero n (end ∷ es) h = absurd (false≢true h)
kids_spoken x (suc d) n (end ∷ es) h = spoken_there x n end es (kids_spoken x d (suc n) es h)

names_spoken : (x : Name) (n : ℕ) (es : List Piece) → In x (names n es) → In x (spoken n es)
unfolding names has
names_spoken x n [] h = absurd (false≢true h)
names_spoken x n (scalar s ∷ es) h = spoken_there x n (scalar s) es (names_spoken x (suc n) es h)
names_spoken x n (start k ∷ es) h = spoken_there x n (start k) es (go (names_spoken x (suc n) es) (in_append x (laid k (kids 0 (suc n) es)) (names (suc n) es) h))
  where
    go : (In x (names (suc n) es) → In x (spoken (suc n) es)) → In x (laid k (kids 0 (suc n) es)) ⊎ In x (names (suc n) es) → In x (spoken (suc n) es)
    go f (inl i) = kids_spoken x 0 (suc n) es (out_laid x k (kids 0 (suc n) es) i)
    go f (inr i) = f i
names_spoken x n (end ∷ es) h = spoken_there x n end es (names_spoken x (suc n) es h)

pub numbered_written : (es : List Piece) (x : Name) → In x (order es) → In x (emission es)
numbered_written es x h = in_emission es x (go (in_append x (kids 0 0 es) (names 0 es) (from_order es x h)))
  where
    go : In x (kids 0 0 es) ⊎ In x (names 0 es) → In x (spoken 0 es)
    go (inl i) = kids_spoken x 0 0 es i
    go (inr i) = names_spoken x 0 es i

-- a container brings itself and at most its members
times_spoken : (x : Name) (n : ℕ) (k : Kind) (es : List Piece) → times x (spoken n (start k ∷ es)) ≤ cond (same x (box n)) 1 0 + (times x (laid k (kids 0 (suc n) es)) + times x (spoken (suc n) es))
unfolding times spoken
times_spoken x n arr es = omega arith
times_spoken x n dic es =
    let l = kids 0 (suc n) es in
    omega (arith, times_append x (evens l) (spoken (suc n) es), times_halves x l, times_laid x dic l)

-- what is nobody's member is not spoken
unspoken : (top : ℕ) (x : Name) (es : List Piece) (cs : List Due) (n : ℕ) → fits top cs es ≡ true → sum (length cs) (λ (j : ℕ). times x (kids j n es)) + times x (names n es) ≡ 0 → times x (spoken n es) ≡ 0
unfolding fits sum kids names spoken times
unspoken top x [] [] n e z = refl
unspoken top x [] (c ∷ cs) n e z = absurd (false≢true e)
unspoken top x (y ∷ es) [] n e z = absurd (false≢true e)
unspoken top x (scalar s ∷ es) (c ∷ cs) n e z = omega (arith, z, unspoken top x es (later c ∷ cs) (suc n) (passed (takes c s) _ e).1 (omega arith))
unspoken top x (start k ∷ es) (c ∷ cs) n e z =
    let l = times_append x (laid k (kids 0 (suc n) es)) (names (suc n) es) in
    let m = times_laid x k (kids 0 (suc n) es) in
    let t = times_spoken x n k es in
    omega (arith, z, l, m, t, unspoken top x es (inside k ∷ later c ∷ cs) (suc n) (begun (opens c) (ltb (suc (length cs)) top) _ e) (omega (arith, z, l, m)))
unspoken top x (end ∷ es) (c ∷ cs) n e z = omega (arith, z, unspoken top x es cs (suc n) (passed (closes c) _ e).1 (omega (arith, z)))

unspoken_all : (top : ℕ) (x : Name) (es : List Piece) → whole top es ≡ true → times x (kids 0 0 es ++ names 0 es) ≡ 0 → times x (spoken 0 es) ≡ 0
unfolding whole fits kids names spoken times sum
unspoken_all top x [] e z = absurd (false≢true e)
unspoken_all top x (scalar s ∷ []) e z = z
unspoken_all top x (scalar s ∷ (y ∷ es)) e z = absurd (false≢true e)
unspoken_all top x (start k ∷ es) e z =
    let a = times_append x (box 0 ∷ kids 1 1 es) (laid k (kids 0 1 es) ++ names 1 es) in
    let l = times_append x (laid k (kids 0 1 es)) (names 1 es) in
    let m = times_laid x k (kids 0 1 es) in
    let t = times_spoken x 0 k es in
    omega (arith, z, a, l, m, t, unspoken top x es (inside k ∷ []) 1 (passed (ltb 0 top) _ e).1 (omega (arith, z, a, l, m)))
unspoken_all top x (end ∷ es) e z = absurd (false≢true e)

pub written_numbered : (top : ℕ) (es : List Piece) (x : Name) → whole top es ≡ true → In x (emission es) → In x (order es)
written_numbered top es x w h = go (has same x (kids 0 0 es ++ names 0 es)) refl
  where
    go : (b : Bool) → has same x (kids 0 0 es ++ names 0 es) ≡ b → In x (order es)
    go true e = in_order es x e
    go false e =
        let z = unspoken_all top x es w (times_out x (kids 0 0 es ++ names 0 es) e) in
        absurd (omega (arith, z, times_in x (spoken 0 es) (from_emission es x h)))
