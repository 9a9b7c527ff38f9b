-- The walk from member to member meets the members of a container, and its end.
use Rattle.std.specs.Prelude.{◌≡◌, true, false, ltb, length, drop, get_or}
use Rattle.std.proofs.Math.Path.{refl, ap}
use Rattle.std.proofs.Common.{sym, ◌∙◌, suc-add, add-suc, drop-drop}
use Rattle.std.proofs.lemmas.Bool.{false≢true}
use mathlib.Core.List.{List, [], ◌∷◌, nil≢cons}
use Prim.Native.Nat.{ℕ, zero, suc, ◌+◌, ◌≤◌, ◌<◌}
use Rattle.std.proofs.Math.Numerals.{add-one}
use native.Mathlib.Omega.{arith}
use Rattle.written.proofs.NameLaws.{drop_lt, drop_next}
use Rattle.written.proofs.WholeLaws.{passed}
use Rattle.written.specs.Graph.{Scalar, Kind, dic, Piece, scalar, start, end, Name, val, box, kids, evens, odds}
use Rattle.written.specs.Shape.{Due, element, key, later, inside, takes, opens, closes, fits, whole, skip, name_of, next_in, next_at, is_end, Along, InPairs}

-- NEXT, by the event
pub next_scalar : (es : List Piece) (i : ℕ) (s : Scalar) (r : List Piece) → drop i es ≡ scalar s ∷ r → next_at es i ≡ suc i
unfolding next_at next_in
next_scalar es i s r e = ap (next_in i) e

pub next_start : (es : List Piece) (i : ℕ) (k : Kind) (r : List Piece) → drop i es ≡ start k ∷ r → next_at es i ≡ suc i + skip 0 r
unfolding next_at next_in
next_start es i k r e = ap (next_in i) e

pub next_end : (es : List Piece) (i : ℕ) (r : List Piece) → drop i es ≡ end ∷ r → next_at es i ≡ 0
unfolding next_at next_in
next_end es i r e = ap (next_in i) e

pub next_above : (es : List Piece) (i : ℕ) (p : Piece) (r : List Piece) → drop i es ≡ p ∷ r → is_end p ≡ false → i < next_at es i
next_above es i (scalar s) r e h = omega (arith, next_scalar es i s r e)
next_above es i (start k) r e h = omega (arith, next_start es i k r e)
next_above es i end r e h = absurd (false≢true (sym h))

module _ (top : ℕ) where
  -- one event further
  fits_scalar : (c : Due) (cs : List Due) (s : Scalar) (es : List Piece) → fits top (c ∷ cs) (scalar s ∷ es) ≡ true → fits top (later c ∷ cs) es ≡ true
  unfolding fits
  fits_scalar c cs s es f = (passed (takes c s) _ f).1

  fits_start : (c : Due) (cs : List Due) (k : Kind) (es : List Piece) → fits top (c ∷ cs) (start k ∷ es) ≡ true → fits top (inside k ∷ later c ∷ cs) es ≡ true
  unfolding fits
  fits_start c cs k es f = (passed (ltb (suc (length cs)) top) _ (passed (opens c) _ f).1).1

  fits_end : (c : Due) (cs : List Due) (es : List Piece) → fits top (c ∷ cs) (end ∷ es) ≡ true → fits top cs es ≡ true
  unfolding fits
  fits_end c cs es f = (passed (closes c) _ f).1

  -- what is left is still in order
  left : (cs : List Due) (es : List Piece) (i : ℕ) → fits top cs es ≡ true → (ds : List Due) × (fits top ds (drop i es) ≡ true)
  unfolding fits
  left cs es zero f = (cs, f)
  left [] [] (suc i) f = ([], refl)
  left (c ∷ cs) [] (suc i) f = absurd (false≢true f)
  left [] (p ∷ es) (suc i) f = absurd (false≢true f)
  left (c ∷ cs) (scalar s ∷ es) (suc i) f = left (later c ∷ cs) es i (fits_scalar c cs s es f)
  left (c ∷ cs) (start k ∷ es) (suc i) f = left (inside k ∷ later c ∷ cs) es i (fits_start c cs k es f)
  left (c ∷ cs) (end ∷ es) (suc i) f = left cs es i (fits_end c cs es f)

  begun : (ds : List Due) (k : Kind) (r : List Piece) → fits top ds (start k ∷ r) ≡ true → (cs : List Due) × (fits top (inside k ∷ cs) r ≡ true)
  unfolding fits
  begun [] k r f = absurd (false≢true f)
  begun (c ∷ cs) k r f = (later c ∷ cs, fits_start c cs k r f)

  -- where a container begins, its members are due
  pub inside_of : (es : List Piece) → whole top es ≡ true → (i : ℕ) (k : Kind) (r : List Piece) → drop i es ≡ start k ∷ r → (cs : List Due) × (fits top (inside k ∷ cs) r ≡ true)
  unfolding whole
  inside_of es w zero k r e = ([], (passed (ltb 0 top) _ (rw e at w)).1)
  inside_of [] w (suc i) k r e = absurd (nil≢cons e)
  inside_of (scalar s ∷ es) w (suc i) k r e = let q = left [] es i w in begun q.0 k r (rw e at q.1)
  inside_of (start c ∷ es) w (suc i) k r e = let q = left (inside c ∷ []) es i (passed (ltb 0 top) _ w).1 in begun q.0 k r (rw e at q.1)
  inside_of (end ∷ es) w (suc i) k r e = absurd (false≢true w)

  -- an open container is closed, by an end
  closed : (d : ℕ) (es : List Piece) (cs : List Due) → fits top cs es ≡ true → d < length cs → (m : ℕ) × (q : List Piece) × (skip d es ≡ suc m) × (drop m es ≡ end ∷ q)
  unfolding fits skip
  closed d [] [] f h = absurd (omega arith)
  closed d [] (c ∷ cs) f h = absurd (false≢true f)
  closed d (p ∷ es) [] f h = absurd (false≢true f)
  closed d (scalar s ∷ es) (c ∷ cs) f h =
      let (m, q, a, b) = closed d es (later c ∷ cs) (fits_scalar c cs s es f) h in (suc m, q, ap suc a, b)
  closed d (start k ∷ es) (c ∷ cs) f h =
      let (m, q, a, b) = closed (suc d) es (inside k ∷ later c ∷ cs) (fits_start c cs k es f) (omega arith) in (suc m, q, ap suc a, b)
  closed zero (end ∷ es) (c ∷ cs) f h = (0, es, refl, refl)
  closed (suc d) (end ∷ es) (c ∷ cs) f h = let (m, q, a, b) = closed d es cs (fits_end c cs es f) (omega arith) in (suc m, q, ap suc a, b)

  -- where the walk at level d goes on: here, or behind the member that is being passed
  abbrev past : ℕ → ℕ → List Piece → ℕ
  past zero j l = j
  past (suc d) j l = j + skip d l

  module _ (all : List Piece) (stop : ℕ) where
    walk : (l : List Piece) (d j : ℕ) (cs : List Due) → drop j all ≡ l → fits top cs l ≡ true → d < length cs → j + skip d l ≡ suc stop → Along all stop (past d j l) (kids d j l)
    unfolding fits skip kids
    walk [] d j [] e f h q = absurd (omega arith)
    walk [] d j (c ∷ cs) e f h q = absurd (false≢true f)
    walk (p ∷ l) d j [] e f h q = absurd (false≢true f)
    walk (scalar s ∷ l) zero j (c ∷ cs) e f h q =
        let g = fits_scalar c cs s l f in
        let (m, _, a, _) = closed 0 l (later c ∷ cs) g h in
        (scalar s, l, e, refl, refl, omega arith, rw (next_scalar all j s l e) (walk l 0 (suc j) (later c ∷ cs) (drop_next all j (scalar s) l e) g h (omega arith)))
    walk (scalar s ∷ l) (suc d) j (c ∷ cs) e f h q =
        rw (add-suc, ← suc-add) (walk l (suc d) (suc j) (later c ∷ cs) (drop_next all j (scalar s) l e) (fits_scalar c cs s l f) h (omega arith))
    walk (start k ∷ l) zero j (c ∷ cs) e f h q =
        let g = fits_start c cs k l f in
        let (m, _, a, _) = closed 1 l (inside k ∷ later c ∷ cs) g (omega arith) in
        (start k, l, e, refl, refl, omega arith, rw (next_start all j k l e) (walk l 1 (suc j) (inside k ∷ later c ∷ cs) (drop_next all j (start k) l e) g (omega arith) (omega arith)))
    walk (start k ∷ l) (suc d) j (c ∷ cs) e f h q =
        rw (add-suc, ← suc-add) (walk l (suc (suc d)) (suc j) (inside k ∷ later c ∷ cs) (drop_next all j (start k) l e) (fits_start c cs k l f) (omega arith) (omega arith))
    walk (end ∷ l) zero j (c ∷ cs) e f h q = omega arith
    walk (end ∷ l) (suc zero) j (c ∷ cs) e f h q = rw add-one (walk l 0 (suc j) cs (drop_next all j end l e) (fits_end c cs l f) (omega arith) (omega arith))
    walk (end ∷ l) (suc (suc d)) j (c ∷ cs) e f h q = rw (add-suc, ← suc-add) (walk l (suc d) (suc j) cs (drop_next all j end l e) (fits_end c cs l f) (omega arith) (omega arith))

    walk_pairs : (l : List Piece) (d j : ℕ) (cs : List Due) → drop j all ≡ l → fits top cs l ≡ true → d < length cs → get_or cs d element ≡ key → j + skip d l ≡ suc stop → InPairs all stop (past d j l) (evens (kids d j l)) (odds (kids d j l))
    unfolding fits skip kids evens
    walk_pairs [] d j [] e f h g q = absurd (omega arith)
    walk_pairs [] d j (c ∷ cs) e f h g q = absurd (false≢true f)
    walk_pairs (p ∷ l) d j [] e f h g q = absurd (false≢true f)
    walk_pairs (scalar s ∷ []) zero j (c ∷ cs) e f h g q = absurd (false≢true (fits_scalar c cs s [] f))
    walk_pairs (scalar s ∷ scalar t ∷ l) zero j (c ∷ cs) e f h g q =
        let o = fits_scalar (later c) cs t l (fits_scalar c cs s (scalar t ∷ l) f) in
        let (m, _, a, _) = closed 0 l (later (later c) ∷ cs) o h in
        let n = drop_next all j (scalar s) (scalar t ∷ l) e in (
          s,
          scalar t,
          l,
          e,
          refl,
          refl,
          refl,
          omega arith,
          rw (next_scalar all (suc j) t l n)
              (walk_pairs l 0 (suc (suc j)) (later (later c) ∷ cs) (drop_next all (suc j) (scalar t) l n) o h (ap (λ (x : Due). later (later x)) g) (omega arith)),
        )
    walk_pairs (scalar s ∷ start k ∷ l) zero j (c ∷ cs) e f h g q =
        let o = fits_start (later c) cs k l (fits_scalar c cs s (start k ∷ l) f) in
        let (m, _, a, _) = closed 1 l (inside k ∷ later (later c) ∷ cs) o (omega arith) in
        let n = drop_next all j (scalar s) (start k ∷ l) e in (
          s,
          start k,
          l,
          e,
          refl,
          refl,
          refl,
          omega arith,
          rw (next_start all (suc j) k l n)
              (walk_pairs l 1 (suc (suc j)) (inside k ∷ later (later c) ∷ cs) (drop_next all (suc j) (start k) l n) o (omega arith) (ap (λ (x : Due). later (later x)) g) (omega arith)),
        )
    walk_pairs (scalar s ∷ end ∷ l) zero j (c ∷ cs) e f h g q =
        absurd (false≢true (sym (ap (λ (x : Due). closes (later x)) g) ∙ (passed (closes (later c)) _ (fits_scalar c cs s (end ∷ l) f)).0))
    walk_pairs (scalar s ∷ l) (suc d) j (c ∷ cs) e f h g q =
        rw (add-suc, ← suc-add) (walk_pairs l (suc d) (suc j) (later c ∷ cs) (drop_next all j (scalar s) l e) (fits_scalar c cs s l f) h g (omega arith))
    walk_pairs (start k ∷ l) zero j (c ∷ cs) e f h g q = absurd (false≢true (sym (ap opens g) ∙ (passed (opens c) _ f).0))
    walk_pairs (start k ∷ l) (suc d) j (c ∷ cs) e f h g q =
        rw (add-suc, ← suc-add) (walk_pairs l (suc (suc d)) (suc j) (inside k ∷ later c ∷ cs) (drop_next all j (start k) l e) (fits_start c cs k l f) (omega arith) g (omega arith))
    walk_pairs (end ∷ l) zero j (c ∷ cs) e f h g q = omega arith
    walk_pairs (end ∷ l) (suc zero) j (c ∷ cs) e f h g q = rw add-one (walk_pairs l 0 (suc j) cs (drop_next all j end l e) (fits_end c cs l f) (omega arith) g (omega arith))
    walk_pairs (end ∷ l) (suc (suc d)) j (c ∷ cs) e f h g q =
        rw (add-suc, ← suc-add) (walk_pairs l (suc d) (suc j) cs (drop_next all j end l e) (fits_end c cs l f) (omega arith) g (omega arith))

  -- the members of a container, from its start to its end
  pub along : (es : List Piece) → whole top es ≡ true → (i : ℕ) (k : Kind) (r : List Piece) → drop i es ≡ start k ∷ r → Along es (i + skip 0 r) (suc i) (kids 0 (suc i) r)
  along es w i k r e =
      let (cs, f) = inside_of es w i k r e in
      walk es (i + skip 0 r) r 0 (suc i) (inside k ∷ cs) (drop_next es i (start k) r e) f (omega arith) (omega arith)

  pub in_pairs : (es : List Piece) → whole top es ≡ true → (i : ℕ) (r : List Piece) → drop i es ≡ start dic ∷ r → InPairs es (i + skip 0 r) (suc i) (evens (kids 0 (suc i) r)) (odds (kids 0 (suc i) r))
  in_pairs es w i r e =
      let (cs, f) = inside_of es w i dic r e in
      walk_pairs es (i + skip 0 r) r 0 (suc i) (key ∷ cs) (drop_next es i (start dic) r e) f (omega arith) refl (omega arith)

  pub closed_at : (es : List Piece) → whole top es ≡ true → (i : ℕ) (k : Kind) (r : List Piece) → drop i es ≡ start k ∷ r → (i + skip 0 r < length es) × ((q : List Piece) × (drop (i + skip 0 r) es ≡ end ∷ q)) × (i < i + skip 0 r)
  closed_at es w i k r e =
      let (cs, f) = inside_of es w i k r e in
      let (m, q, a, b) = closed 0 r (inside k ∷ cs) f (omega arith) in
      let d : drop (i + skip 0 r) es ≡ end ∷ q = rw (a, add-suc, ← suc-add, ← (drop-drop m (suc i) es), drop_next es i (start k) r e) b in
      (drop_lt es (i + skip 0 r) end q d, (q, d), omega arith)

  pub stop_next : (es : List Piece) → whole top es ≡ true → (i : ℕ) (k : Kind) (r : List Piece) → drop i es ≡ start k ∷ r → next_at es (i + skip 0 r) ≡ 0
  stop_next es w i k r e = let (_, (q, d), _) = closed_at es w i k r e in next_end es (i + skip 0 r) q d

  -- nothing is outside the open containers
  none_outside : (cs : List Due) (es : List Piece) (n : ℕ) → fits top cs es ≡ true → kids (length cs) n es ≡ []
  unfolding fits kids
  none_outside [] [] n f = refl
  none_outside (c ∷ cs) [] n f = refl
  none_outside [] (p ∷ es) n f = absurd (false≢true f)
  none_outside (c ∷ cs) (scalar s ∷ es) n f = none_outside (later c ∷ cs) es (suc n) (fits_scalar c cs s es f)
  none_outside (c ∷ cs) (start k ∷ es) n f = none_outside (inside k ∷ later c ∷ cs) es (suc n) (fits_start c cs k es f)
  none_outside (c ∷ cs) (end ∷ es) n f = none_outside cs es (suc n) (fits_end c cs es f)

  -- the first event is the root, and no member of another
  pub root_is : (es : List Piece) → whole top es ≡ true → (p : Piece) × (r : List Piece) × (es ≡ p ∷ r) × (is_end p ≡ false) × (kids 0 0 es ≡ name_of 0 p ∷ [])
  unfolding whole kids
  root_is [] w = absurd (false≢true w)
  root_is (scalar s ∷ es) w = (scalar s, es, refl, refl, ap (λ (l : List Name). val s ∷ l) (none_outside [] es 1 w))
  root_is (start k ∷ es) w = (start k, es, refl, refl, ap (λ (l : List Name). box 0 ∷ l) (none_outside (inside k ∷ []) es 1 (passed (ltb 0 top) _ w).1))
  root_is (end ∷ es) w = absurd (false≢true w)

-- A step of the walk: the member at i, and the others from the next on
pub record Met (es : List Piece) (stop i : ℕ) (xs : List Name) : Type 0 where
  pub piece : Piece
  pub behind : List Piece
  pub others : List Name
  pub stands : drop i es ≡ piece ∷ behind
  pub are : xs ≡ name_of i piece ∷ others
  pub member : is_end piece ≡ false
  pub above : i < next_at es i
  pub upto : next_at es i ≤ stop
  pub more : Along es stop (next_at es i) others

pub along_length : (es : List Piece) (stop i : ℕ) (xs : List Name) → Along es stop i xs → i + length xs ≤ stop
along_length es stop i [] a = omega arith
along_length es stop i (x ∷ xs) (p, r, e, _, m, _, a) = omega (arith, next_above es i p r e m, along_length es stop (next_at es i) xs a)

pub along_step : (es : List Piece) (stop i : ℕ) (xs : List Name) → Along es stop i xs → i < stop → Met es stop i xs
along_step es stop i [] a h = absurd (omega arith)
along_step es stop i (x ∷ xs) (p, r, e, n, m, _, a) h = record {
  piece = p;
  behind = r;
  others = xs;
  stands = e;
  are = ap (λ (y : Name). y ∷ xs) n;
  member = m;
  above = next_above es i p r e m;
  upto = omega (arith, along_length es stop (next_at es i) xs a);
  more = a;
}

-- whether it goes on is whether NEXT is above 0
pub along_more : (es : List Piece) (stop i : ℕ) (xs : List Name) → Along es stop i xs → next_at es stop ≡ 0 → 0 < next_at es i → i < stop
along_more es stop i [] a z h = absurd (omega (arith, ap (next_at es) a))
along_more es stop i (x ∷ xs) (_, _, _, _, _, lt, _) z h = lt

pub along_over : (es : List Piece) (stop i : ℕ) (xs : List Name) → Along es stop i xs → next_at es i ≡ 0 → (i ≡ stop) × (xs ≡ [])
along_over es stop i [] a h = (a, refl)
along_over es stop i (x ∷ xs) (p, r, e, _, m, _, _) h = absurd (omega (arith, next_above es i p r e m))

-- A step in pairs: the key at i, the value behind it, and the others from the next on
pub record MetPair (es : List Piece) (stop i : ℕ) (ks vs : List Name) : Type 0 where
  pub bytes : Scalar
  pub piece : Piece
  pub behind : List Piece
  pub others : List Name
  pub values : List Name
  pub stands : drop i es ≡ scalar bytes ∷ piece ∷ behind
  pub stands_value : drop (suc i) es ≡ piece ∷ behind
  pub keys_are : ks ≡ val bytes ∷ others
  pub values_are : vs ≡ name_of (suc i) piece ∷ values
  pub member : is_end piece ≡ false
  pub next_key : next_at es i ≡ suc i
  pub above : suc i < next_at es (suc i)
  pub upto : next_at es (suc i) ≤ stop
  pub more : InPairs es stop (next_at es (suc i)) others values

module _ (es : List Piece) (stop : ℕ) where
  pub pairs_length : (i : ℕ) (ks vs : List Name) → InPairs es stop i ks vs → (i + (length ks + length ks) ≤ stop) × (length ks ≡ length vs)
  pairs_length i [] [] a = (omega arith, refl)
  pairs_length i [] (v ∷ vs) a = absurd a
  pairs_length i (k ∷ ks) [] a = absurd a
  pairs_length i (k ∷ ks) (v ∷ vs) (s, p, r, e, _, _, m, _, a) =
      let (l, q) = pairs_length (next_at es (suc i)) ks vs a in
      (omega (arith, next_above es (suc i) p r (drop_next es i (scalar s) (p ∷ r) e) m), ap suc q)

  pub pairs_step : (i : ℕ) (ks vs : List Name) → InPairs es stop i ks vs → i < stop → MetPair es stop i ks vs
  pairs_step i [] [] a h = absurd (omega arith)
  pairs_step i [] (v ∷ vs) a h = absurd a
  pairs_step i (k ∷ ks) [] a h = absurd a
  pairs_step i (k ∷ ks) (v ∷ vs) (s, p, r, e, n, o, m, _, a) h =
      let d = drop_next es i (scalar s) (p ∷ r) e in
      record {
        bytes = s;
        piece = p;
        behind = r;
        others = ks;
        values = vs;
        stands = e;
        stands_value = d;
        keys_are = ap (λ (y : Name). y ∷ ks) n;
        values_are = ap (λ (y : Name). y ∷ vs) o;
        member = m;
        next_key = next_scalar es i s (p ∷ r) e;
        above = next_above es (suc i) p r d m;
        upto = omega (arith, (pairs_length (next_at es (suc i)) ks vs a).0);
        more = a;
      }

  pub pairs_end : (i : ℕ) (ks vs : List Name) → InPairs es stop i ks vs → stop ≤ i → (i ≡ stop) × (ks ≡ []) × (vs ≡ [])
  pairs_end i [] [] a h = (a, refl, refl)
  pairs_end i [] (v ∷ vs) a h = absurd a
  pairs_end i (k ∷ ks) [] a h = absurd a
  pairs_end i (k ∷ ks) (v ∷ vs) (_, _, _, _, _, _, _, lt, _) h = absurd (omega arith)
