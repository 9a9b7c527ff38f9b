-- The objects of arrays that stand inside each other: the i-th has number i, stands behind the i before it, and names the one after it.
use Rattle.std.specs.Prelude.{Bool, false, cond, List, [], ◌∷◌, ◌++◌, map, ◌≡◌, refl, ℕ, zero, suc, ◌+◌, ◌≤◌, ◌<◌, length, get_or, drop, replicate, None}
use Rattle.std.proofs.lemmas.List.{map-append}
use Rattle.std.proofs.Common.{sym, ap, ◌∙◌, zero-add, add-zero, suc-add, arith, ne_eqb}
use Rattle.event.specs.Meaning.{Meaning, array, close}
use Rattle.written.specs.Graph.{arr, Piece, start, end, piece_of, Name, box, same, kids, laid, names, order, number, spoken, emission}
use Rattle.written.proofs.NameLaws.{In}
use Rattle.written.proofs.NumberLaws.{order_in, number_at_law}
use Rattle.written.specs.Nub.{has, nub, nub_onto}
use Rattle.depth.specs.Nested.{nest}

-- k starts and j ends
unfoldable pub pieces : ℕ → ℕ → List Piece
pieces k j = replicate k (start arr) ++ replicate j end

pub pieces_of : (n : ℕ) → map piece_of (nest n) ≡ pieces n n
unfolding nest pieces piece_of
pieces_of n = map-append piece_of (replicate n (array None)) (replicate n close) ∙ rw (map_replicate n (array None), map_replicate n close)
  where
    map_replicate : (n : ℕ) (m : Meaning) → map piece_of (replicate n m) ≡ replicate n (piece_of m)
    map_replicate zero m = refl
    map_replicate (suc n) m = ap (λ (l : List Piece). piece_of m ∷ l) (map_replicate n m)

-- what each level has left
kids_ends : (d n j : ℕ) → kids d n (replicate j end) ≡ []
unfolding kids
kids_ends d n zero = refl
kids_ends zero n (suc j) = refl
kids_ends (suc d) n (suc j) = kids_ends d (suc n) j

kids_deep : (d n k j : ℕ) → kids (suc d) n (pieces k j) ≡ []
unfolding kids pieces
kids_deep d n zero j = kids_ends (suc d) n j
kids_deep d n (suc k) j = kids_deep (suc d) (suc n) k j

pub kids_none : (n j : ℕ) → kids 0 n (pieces 0 j) ≡ []
unfolding pieces
kids_none n j = kids_ends 0 n j

pub kids_one : (n k j : ℕ) → kids 0 n (pieces (suc k) j) ≡ box n ∷ []
unfolding kids pieces
kids_one n k j = ap (λ (l : List Name). box n ∷ l) (kids_deep 0 (suc n) k j)

-- containers n, n + 1 and so on, k of them
unfoldable pub boxes : ℕ → ℕ → List Name
boxes n zero = []
boxes n (suc k) = box n ∷ boxes (suc n) k

pub length_boxes : (n k : ℕ) → length (boxes n k) ≡ k
unfolding boxes
length_boxes n zero = refl
length_boxes n (suc k) = ap suc (length_boxes (suc n) k)

pub get_d_boxes : (n k i : ℕ) (d : Name) → i < k → get_or (boxes n k) i d ≡ box (n + i)
unfolding boxes
get_d_boxes n zero i d h = absurd (omega arith)
get_d_boxes n (suc k) zero d h = ap box (sym (add-zero n))
get_d_boxes n (suc k) (suc i) d h = get_d_boxes (suc n) k i d (omega arith) ∙ ap box (omega arith)

-- they are different, so each is kept
boxes_snoc : (n k : ℕ) → boxes n k ++ (box (n + k) ∷ []) ≡ boxes n (suc k)
unfolding boxes
boxes_snoc n zero = ap (λ (i : ℕ). box i ∷ []) (add-zero n)
boxes_snoc n (suc k) = ap (λ (l : List Name). box n ∷ l) (ap (λ (i : ℕ). boxes (suc n) k ++ (box i ∷ [])) (omega arith) ∙ boxes_snoc (suc n) k)

boxes_above : (p n k : ℕ) → n + k ≤ p → has same (box p) (boxes n k) ≡ false
unfolding has boxes same
boxes_above p n zero h = refl
boxes_above p n (suc k) h = rw (ne_eqb p n (λ e. omega arith)) (boxes_above p (suc n) k (omega arith))

nub_onto_law : (n k : ℕ) → nub_onto same (boxes 0 n) (boxes n k) ≡ boxes 0 (n + k)
unfolding nub_onto boxes
nub_onto_law n zero = ap (boxes 0) (sym (add-zero n))
nub_onto_law n (suc k) =
    let e : boxes 0 n ++ (box n ∷ []) ≡ boxes 0 (suc n) = ap (λ (i : ℕ). boxes 0 n ++ (box i ∷ [])) (sym (zero-add n)) ∙ boxes_snoc 0 n in
    let f : suc n + k ≡ n + suc k = omega arith in
    ap (λ (b : Bool). nub_onto same (cond b (boxes 0 n) (boxes 0 n ++ (box n ∷ []))) (boxes (suc n) k)) (boxes_above n 0 n (omega arith))
    ∙ ap (λ (l : List Name). nub_onto same l (boxes (suc n) k)) e
    ∙ nub_onto_law (suc n) k
    ∙ ap (boxes 0) f

nub_boxes : (k : ℕ) → nub same (boxes 0 k) ≡ boxes 0 k
unfolding nub boxes
nub_boxes k = nub_onto_law 0 k ∙ ap (boxes 0) (zero-add k)

-- the order of the numbers, and of the bytes
names_ends : (n j : ℕ) → names n (replicate j end) ≡ []
unfolding names
names_ends n zero = refl
names_ends n (suc j) = names_ends (suc n) j

spoken_ends : (n j : ℕ) → spoken n (replicate j end) ≡ []
unfolding spoken
spoken_ends n zero = refl
spoken_ends n (suc j) = spoken_ends (suc n) j

names_are : (n k j : ℕ) → names n (pieces (suc k) j) ≡ boxes (suc n) k
unfolding names laid boxes pieces
names_are n zero j = rw (kids_ends 0 (suc n) j) (names_ends (suc n) j)
names_are n (suc k) j = rw (kids_one (suc n) k j) (ap (λ (l : List Name). box (suc n) ∷ l) (names_are (suc n) k j))

spoken_are : (n k j : ℕ) → spoken n (pieces k j) ≡ boxes n k
unfolding spoken boxes pieces
spoken_are n zero j = spoken_ends n j
spoken_are n (suc k) j = ap (λ (l : List Name). box n ∷ l) (spoken_are (suc n) k j)

module _ (k j : ℕ) where
  abbrev pub es : List Piece
  es = pieces (suc k) j

  pub order_are : order es ≡ boxes 0 (suc k)
  unfolding order boxes
  order_are = rw (kids_one 0 k j, names_are 0 k j) (nub_boxes (suc k))

  pub emission_are : emission es ≡ boxes 0 (suc k)
  unfolding emission
  emission_are = rw (spoken_are 0 (suc k) j) (nub_boxes (suc k))

  pub count_is : length (order es) ≡ suc k
  count_is = rw order_are (length_boxes 0 (suc k))

  -- array i
  there : (i : ℕ) → i ≤ k → get_or (order es) i (box 0) ≡ box i
  there i h = rw order_are (get_d_boxes 0 (suc k) i (box 0) (omega arith) ∙ ap box (zero-add i))

  pub is_named : (i : ℕ) → i ≤ k → In (box i) (order es)
  is_named i h = rw (there i h) at (order_in es i (box 0) (rw count_is (omega arith)))

  pub number_is : (i : ℕ) → i ≤ k → number es (box i) ≡ i
  number_is i h = rw (there i h) at (number_at_law es i (box 0) (rw count_is (omega arith)))

-- from array p on there are q less than all
pub drop_pieces : (p q j : ℕ) → drop p (pieces (p + q) j) ≡ pieces q j
unfolding pieces
drop_pieces zero q j = rw zero-add refl
drop_pieces (suc p) q j = rw (suc-add p q) (drop_pieces p q j)
