-- An event more in the index leaves every way that was there, and columns before the index can change.
use Rattle.std.specs.Prelude.{◌≡◌, ℕ, zero, suc, ◌+◌, ◌*◌, ◌<◌, ◌≤◌, Bool, true, false, List, ◌∷◌, length, drop, ◌==◌, ◌≢◌, slice_index, slice_index_or, slice_set}
use mathlib.Core.List.{head-eq_of_cons-eq}
use Rattle.std.proofs.Math.Path.{refl}
use Rattle.std.proofs.Common.{sym, ◌∙◌, eqb-true, get_or-set_same, get_or-set_other}
use native.Mathlib.Omega.{arith}
use Rattle.std.proofs.lemmas.Bool.{eqb-false}
use Rattle.written.specs.Graph.{Piece, scalar, Scalar, val}
use Rattle.written.specs.Shape.{name_of}
use Rattle.written.specs.Weigh.{rep_of}
use Rattle.writer.specs.Index.{slot_at, met_at, top_of, sides_of, Meets, Index}
use Rattle.writer.specs.Ready.{pieces_in}

-- any way down
module _ (n top : ℕ) (side : ℕ → ℕ) (low : n * 4 ≤ top) where
  pub slot_low : (w : List ℕ) (k : ℕ) → n * 4 ≤ slot_at w n top side k
  unfolding slot_at
  slot_low w zero = low
  slot_low w (suc k) = omega arith

  -- it goes by the words of the index alone
  module _ (w v : List ℕ) (same : (q : ℕ) → n * 4 ≤ q → slice_index v q ≡ slice_index w q) where
    slot_same : (k : ℕ) → slot_at v n top side k ≡ slot_at w n top side k
    unfolding slot_at
    slot_same zero = refl
    slot_same (suc k) =
        let e : met_at v n top side k ≡ met_at w n top side k = rw (slot_same k) (same (slot_at w n top side k) (slot_low w k)) in
        rw e

    met_same : (k : ℕ) → met_at v n top side k ≡ met_at w n top side k
    met_same k = rw (slot_same k) (same (slot_at w n top side k) (slot_low w k))

    pub meets_same : {i : ℕ} → Meets w n top side i → Meets v n top side i
    meets_same m = record { steps = m.steps; there = met_same m.steps ∙ m.there; some = λ j l. rw (met_same j) (m.some j l) }

  -- an empty word that is filled isn't one that it met
  module _ (w : List ℕ) (slot x : ℕ) (free : slice_index_or w slot 0 ≡ 0) where
    word_kept : (q : ℕ) → 0 < slice_index w q → slice_index (slice_set w slot x) q ≡ slice_index w q
    word_kept q h = get_or-set_other w slot q x 0 (λ e. let z : slice_index_or w q 0 ≡ 0 = rw e free in omega arith)

    pub slot_kept : (k : ℕ) → ((j : ℕ) → j < k → 0 < met_at w n top side j) → slot_at (slice_set w slot x) n top side k ≡ slot_at w n top side k
    unfolding slot_at
    slot_kept zero some = refl
    slot_kept (suc k) some =
        let e : met_at (slice_set w slot x) n top side k ≡ met_at w n top side k = rw (slot_kept k (λ j l. some j (omega arith))) (word_kept (slot_at w n top side k) (some k (omega arith))) in
        rw e

    met_kept : (k : ℕ) → ((j : ℕ) → j < k → 0 < met_at w n top side j) → 0 < met_at w n top side k → met_at (slice_set w slot x) n top side k ≡ met_at w n top side k
    met_kept k some h = rw (slot_kept k some) (word_kept (slot_at w n top side k) h)

    some_kept : (k : ℕ) → ((j : ℕ) → j < k → 0 < met_at w n top side j) → (j : ℕ) → j < k → 0 < met_at (slice_set w slot x) n top side j
    some_kept k some j l = rw (met_kept j (λ i h. some i (omega arith)) (some j l)) (some j l)

    pub meets_kept : {i : ℕ} → Meets w n top side i → Meets (slice_set w slot x) n top side i
    meets_kept {i} m =
        record {
          steps = m.steps;
          there = met_kept m.steps m.some (omega (arith, m.there)) ∙ m.there;
          some = some_kept m.steps m.some;
        }

    pub meets_new : (k i : ℕ) → slot ≡ slot_at w n top side k → slot < length w → ((j : ℕ) → j < k → 0 < met_at w n top side j) → x ≡ suc i → Meets (slice_set w slot x) n top side i
    meets_new k i here room some e =
        record {
          steps = k;
          there = rw (slot_kept k some, ← here) (get_or-set_same w slot x 0 room ∙ e);
          some = some_kept k some;
        }

-- before the first event all words are empty
pub index_none : (t w : List ℕ) (n : ℕ) → ((q : ℕ) → n * 4 ≤ q → q < n * 8 → slice_index w q ≡ 0) → Index t w n 0
index_none t w n h =
    record {
      before = λ q l g. rw (h q l g) (omega arith);
      later = λ i b l g f. absurd (omega (arith, h (n * 6 + i + i + b) (omega arith) (omega arith)));
      first = λ q i p r l g e d. absurd (omega (arith, h q l g));
      met = λ i s r l d e. absurd (omega arith);
    }

module _ {t w : List ℕ} {n e : ℕ} (x : Index t w n e) where
  -- only columns before the index change
  pub index_same : (v : List ℕ) → ((q : ℕ) → n * 4 ≤ q → slice_index v q ≡ slice_index w q) → Index t v n e
  index_same v same =
      record {
        before = λ q l g. rw (same q l) (x.before q l g);
        later = λ i b l g. rw (same (n * 6 + i + i + b) (omega arith)) (x.later i b l g);
        first = λ q i p r l g f d. x.first q i p r l g (sym (same q l) ∙ f) d;
        met = λ i s r l d f. meets_same n (top_of n s) (sides_of s) (omega arith) w v same (x.met i s r l d f);
      }

  -- event e isn't the first with its bytes, or has none
  pub index_past : ((s : Scalar) (r : List Piece) → drop e (pieces_in t) ≡ scalar s ∷ r → rep_of (pieces_in t) (val s) ≢ e) → Index t w n (suc e)
  index_past never = record { before = λ q l g. omega (arith, x.before q l g); later = x.later; first = x.first; met = met }
    where
      met : (i : ℕ) (s : Scalar) (r : List Piece) → i < suc e → drop i (pieces_in t) ≡ scalar s ∷ r → rep_of (pieces_in t) (val s) ≡ i → Meets w n (top_of n s) (sides_of s) i
      met i s r l d f = go (i == e) refl
        where
          go : (b : Bool) → (i == e) ≡ b → Meets w n (top_of n s) (sides_of s) i
          go true q =
              let z : i ≡ e = eqb-true i e q in
              absurd (never s r (rw z at d) (f ∙ z))
          go false q =
              let z : i ≡ e → ⊥ = eqb-false i e q in
              x.met i s r (omega arith) d f

  -- event e comes to stand where the search for its bytes ended
  module _ (s : Scalar) (r : List Piece) (here : drop e (pieces_in t) ≡ scalar s ∷ r) (own : rep_of (pieces_in t) (val s) ≡ e)
      (slot k : ℕ) (at : slot ≡ slot_at w n (top_of n s) (sides_of s) k) (free : slice_index_or w slot 0 ≡ 0)
      (some : (j : ℕ) → j < k → 0 < met_at w n (top_of n s) (sides_of s) j)
      (low : n * 4 ≤ slot) (room : slot < length w) (under : (i b : ℕ) → b < 2 → slot ≡ n * 6 + i + i + b → i < e) where
    enter_later : (i b : ℕ) → i < n → b < 2 → 0 < slice_index (slice_set w slot (suc e)) (n * 6 + i + i + b) → suc i < slice_index (slice_set w slot (suc e)) (n * 6 + i + i + b)
    enter_later i b l g f = go (n * 6 + i + i + b == slot) refl
      where
        go : (y : Bool) → (n * 6 + i + i + b == slot) ≡ y → suc i < slice_index (slice_set w slot (suc e)) (n * 6 + i + i + b)
        go true q =
            let z : n * 6 + i + i + b ≡ slot = eqb-true (n * 6 + i + i + b) slot q in
            rw (z, get_or-set_same w slot (suc e) 0 room) (omega (arith, under i b g (sym z)))
        go false q =
            let z : slice_index_or (slice_set w slot (suc e)) (n * 6 + i + i + b) 0 ≡ slice_index_or w (n * 6 + i + i + b) 0 = get_or-set_other w slot (n * 6 + i + i + b) (suc e) 0 (eqb-false (n * 6 + i + i + b) slot q) in
            rw z (x.later i b l g (rw z at f))

    enter_first : (q i : ℕ) (p : Piece) (o : List Piece) → n * 4 ≤ q → q < n * 8 → slice_index (slice_set w slot (suc e)) q ≡ suc i → drop i (pieces_in t) ≡ p ∷ o → rep_of (pieces_in t) (name_of i p) ≡ i
    enter_first q i p o l g f d = go (q == slot) refl
      where
        go : (y : Bool) → (q == slot) ≡ y → rep_of (pieces_in t) (name_of i p) ≡ i
        go true h =
            let z : q ≡ slot = eqb-true q slot h in
            let v : suc e ≡ suc i = sym (get_or-set_same w slot (suc e) 0 room) ∙ (rw z at f) in
            let a : i ≡ e = omega arith in
            let b : p ≡ scalar s = head-eq_of_cons-eq (sym (rw a at d) ∙ here) in
            rw (b, a) own
        go false h = x.first q i p o l g (sym (get_or-set_other w slot q (suc e) 0 (eqb-false q slot h)) ∙ f) d

    enter_met : (i : ℕ) (y : Scalar) (o : List Piece) → i < suc e → drop i (pieces_in t) ≡ scalar y ∷ o → rep_of (pieces_in t) (val y) ≡ i → Meets (slice_set w slot (suc e)) n (top_of n y) (sides_of y) i
    enter_met i y o l d f = go (i == e) refl
      where
        go : (b : Bool) → (i == e) ≡ b → Meets (slice_set w slot (suc e)) n (top_of n y) (sides_of y) i
        go true q =
            let a : i ≡ e = eqb-true i e q in
            let z : scalar y ≡ scalar s = head-eq_of_cons-eq (sym (rw a at d) ∙ here) in
            let b : y ≡ s = cc in
            rw (b, a) (meets_new n (top_of n s) (sides_of s) (omega arith) w slot (suc e) free k e at room some refl)
        go false q =
            let z : i ≡ e → ⊥ = eqb-false i e q in
            meets_kept n (top_of n y) (sides_of y) (omega arith) w slot (suc e) free (x.met i y o (omega arith) d f)

    pub index_enter : Index t (slice_set w slot (suc e)) n (suc e)
    index_enter =
        record {
          before = λ q l g. before q l g;
          later = enter_later;
          first = enter_first;
          met = enter_met;
        }
      where
        before : (q : ℕ) → n * 4 ≤ q → q < n * 8 → slice_index (slice_set w slot (suc e)) q ≤ suc e
        before q l g = go (q == slot) refl
          where
            go : (b : Bool) → (q == slot) ≡ b → slice_index (slice_set w slot (suc e)) q ≤ suc e
            go true h = rw (eqb-true q slot h, get_or-set_same w slot (suc e) 0 room) (omega arith)
            go false h = rw (get_or-set_other w slot q (suc e) 0 (eqb-false q slot h)) (omega (arith, x.before q l g))
