-- The numbering pass over the words gives each its place among first occurrences, and changes no other column.
use Rattle.std.specs.Prelude.{◌≡◌, ℕ, suc, ◌+◌, ◌*◌, ◌<◌, ◌≤◌, Bool, true, false, cond, List, [], ◌∷◌, ◌++◌, length, ◌==◌, ◌≢◌, nat_eq, slice_index, slice_index_or, slice_set, refl}
use Rattle.std.proofs.Common.{true≢false, sym, ap, ◌∙◌, add-one, arith, eqb-true, eq-eqb, ne_eqb, length-set, length-append, get_or-set_other, get_or-set_same}
use Rattle.std.proofs.lemmas.Bool.{false≢true, eqb-false}
use Rattle.written.specs.Nub.{has, has_append, nub_onto, index_of}
use Rattle.writer.specs.Marks.{new_words, new_next, marked, num_in}

-- one mark
pub new_by : (P : List ℕ → Type 0) (w : List ℕ) (at k : ℕ) → P (slice_set w at (k + 1)) → P w → P (new_words w at k)
unfolding new_words
new_by P w at k p q = go (slice_index w at == 0)
  where
    go : (b : Bool) → P (cond b (slice_set w at (k + 1)) w)
    go true = p
    go false = q

pub new_length : (w : List ℕ) (at k : ℕ) → length (new_words w at k) ≡ length w
new_length w at k = new_by (λ (v : List ℕ). length v ≡ length w) w at k (length-set w at (k + 1)) refl

pub new_other : (w : List ℕ) (at k i : ℕ) → (i ≢ at) → slice_index (new_words w at k) i ≡ slice_index w i
new_other w at k i d = new_by (λ (v : List ℕ). slice_index v i ≡ slice_index w i) w at k (get_or-set_other w at i (k + 1) 0 d) refl

pub next_by : (w : List ℕ) (at k : ℕ) → new_next w at k ≤ k + 1
unfolding new_next
next_by w at k = go (slice_index w at == 0)
  where
    go : (b : Bool) → cond b (k + 1) k ≤ k + 1
    go true = omega arith
    go false = omega arith

-- one after the other
pub marked_length : (rs w : List ℕ) (n k : ℕ) → length (marked w n k rs).words ≡ length w
unfolding marked
marked_length [] w n k = refl
marked_length (r ∷ rs) w n k = marked_length rs (new_words w (n * 4 + r) k) n (new_next w (n * 4 + r) k) ∙ new_length w (n * 4 + r) k

-- the columns before NUM are as they were
pub marked_other : (rs w : List ℕ) (n k i : ℕ) → i < n * 4 → slice_index (marked w n k rs).words i ≡ slice_index w i
unfolding marked
marked_other [] w n k i h = refl
marked_other (r ∷ rs) w n k i h =
    marked_other rs (new_words w (n * 4 + r) k) n (new_next w (n * 4 + r) k) i h ∙ new_other w (n * 4 + r) k i (λ e. omega arith)

-- numbers below n
abbrev pub Under : ℕ → List ℕ → Type 0
Under n [] = Unit {0}
Under n (x ∷ xs) = (x < n) × Under n xs

-- the column of numbers shows what is kept
pub record Holds (w : List ℕ) (n : ℕ) (kept : List ℕ) : Type 0 where
  pub room : n * 5 ≤ length w
  pub column : (r : ℕ) → r < n → slice_index w (n * 4 + r) ≡ num_in kept r

index_new : (r : ℕ) (kept : List ℕ) → has nat_eq r kept ≡ false → index_of nat_eq r (kept ++ (r ∷ [])) ≡ length kept
unfolding index_of has
index_new r [] h = rw (eq-eqb r r refl)
index_new r (y ∷ kept) h = go (r == y) refl (index_new r kept)
  where
    go : (b : Bool) → (r == y) ≡ b → (has nat_eq r kept ≡ false → index_of nat_eq r (kept ++ (r ∷ [])) ≡ length kept) → index_of nat_eq r (y ∷ (kept ++ (r ∷ []))) ≡ suc (length kept)
    go true e ih = absurd (true≢false (simp (e, has) at h))
    go false e ih = rw (e, index_of) (ap suc (ih (simp (e, has) at h)))

index_other : (s r : ℕ) (kept : List ℕ) → has nat_eq s kept ≡ true → index_of nat_eq s (kept ++ (r ∷ [])) ≡ index_of nat_eq s kept
unfolding index_of has
index_other s r [] h = absurd (false≢true h)
index_other s r (y ∷ kept) h = go (s == y) refl (index_other s r kept)
  where
    go : (b : Bool) → (s == y) ≡ b → (has nat_eq s kept ≡ true → index_of nat_eq s (kept ++ (r ∷ [])) ≡ index_of nat_eq s kept) → index_of nat_eq s (y ∷ (kept ++ (r ∷ []))) ≡ index_of nat_eq s (y ∷ kept)
    go true e ih = rw (e, index_of)
    go false e ih = rw (e, index_of) (ap suc (ih (simp (e, has) at h)))

num_new : (r : ℕ) (kept : List ℕ) → has nat_eq r kept ≡ false → num_in (kept ++ (r ∷ [])) r ≡ suc (length kept)
unfolding num_in has
num_new r kept h = rw (has_append nat_eq r kept (r ∷ []), h, eq-eqb r r refl, index_new r kept h)

num_other : (s r : ℕ) (kept : List ℕ) → (s ≢ r) → num_in (kept ++ (r ∷ [])) s ≡ num_in kept s
unfolding num_in has
num_other s r kept d = rw (has_append nat_eq s kept (r ∷ []), ne_eqb s r d) (go (has nat_eq s kept) refl)
  where
    go : (b : Bool) → has nat_eq s kept ≡ b → cond (cond b true false) (suc (index_of nat_eq s (kept ++ (r ∷ [])))) 0 ≡ cond b (suc (index_of nat_eq s kept)) 0
    go true e = ap suc (index_other s r kept e)
    go false e = refl

-- what is kept with one more
abbrev with_one : ℕ → List ℕ → List ℕ
with_one r kept = cond (has nat_eq r kept) kept (kept ++ (r ∷ []))

turn : (w : List ℕ) (n : ℕ) (kept : List ℕ) (k r : ℕ) → k ≡ length kept → r < n → Holds w n kept → Holds (new_words w (n * 4 + r) k) n (with_one r kept) × (new_next w (n * 4 + r) k ≡ length (with_one r kept))
unfolding new_words new_next num_in
turn w n kept k r l lt o = go (has nat_eq r kept) refl
  where
    go : (b : Bool) → has nat_eq r kept ≡ b → Holds (new_words w (n * 4 + r) k) n (cond b kept (kept ++ (r ∷ []))) × (new_next w (n * 4 + r) k ≡ length (cond b kept (kept ++ (r ∷ []))))
    go true e =
        let q : slice_index_or w (n * 4 + r) 0 ≡ suc (index_of nat_eq r kept) = o.column r lt ∙ rw (e, num_in) in
        let c : nat_eq (slice_index w (n * 4 + r)) 0 ≡ false = ne_eqb (slice_index w (n * 4 + r)) 0 (λ z. absurd (omega (arith, q, z))) in
        rw (c, new_words, new_next) (o, l)
    go false e =
        let c : nat_eq (slice_index w (n * 4 + r)) 0 ≡ true = rw (o.column r lt, e, num_in) in
        rw (c, new_words, new_next) (record { room = rw length-set o.room; column = λ s h. shown s h (s == r) refl }, rw (length-append kept (r ∷ []), l))
      where
        shown : (s : ℕ) → s < n → (b : Bool) → (s == r) ≡ b → slice_index (slice_set w (n * 4 + r) (k + 1)) (n * 4 + s) ≡ num_in (kept ++ (r ∷ [])) s
        shown s h true q =
            rw (eqb-true s r q) (get_or-set_same w (n * 4 + r) (k + 1) 0 (omega (arith, o.room)) ∙ rw (add-one, l) (sym (num_new r kept e)))
        shown s h false q =
            let d : s ≡ r → ⊥ = eqb-false s r q in
            get_or-set_other w (n * 4 + r) (n * 4 + s) (k + 1) 0 (λ f. d (omega arith)) ∙ o.column s h ∙ sym (num_other s r kept d)

-- the pass gives each its place among first occurrences
pub marks : (rs w : List ℕ) (n : ℕ) (kept : List ℕ) (k : ℕ) → k ≡ length kept → Under n rs → Holds w n kept → Holds (marked w n k rs).words n (nub_onto nat_eq kept rs) × ((marked w n k rs).next ≡ length (nub_onto nat_eq kept rs))
unfolding marked nub_onto
marks [] w n kept k l u o = (o, l)
marks (r ∷ rs) w n kept k l u o =
    let t = turn w n kept k r l u.0 o in
    marks rs (new_words w (n * 4 + r) k) n (with_one r kept) (new_next w (n * 4 + r) k) t.1 u.1 t.0
