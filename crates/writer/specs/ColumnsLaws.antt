-- Words that change in one column leave the others; a column grows by the word that is set.
use Rattle.std.specs.Prelude.{◌≡◌, ℕ, suc, ◌+◌, ◌*◌, ◌<◌, ◌≤◌, Bool, true, false, List, ◌∷◌, length, drop, ◌==◌, ◌≢◌, slice_index, slice_index_or, slice_set, refl}
use mathlib.Core.List.{head-eq_of_cons-eq}
use Rattle.std.proofs.Common.{sym, ◌∙◌, arith, eqb-true, length-set, get_or-set_same, get_or-set_other}
use Rattle.std.proofs.lemmas.Bool.{eqb-false}
use Rattle.tape.specs.Events.{start_at}
use Rattle.written.specs.Graph.{Piece, scalar, start}
use Rattle.written.specs.Shape.{name_of}
use Rattle.written.specs.Weigh.{rep_of}
use Rattle.writer.specs.Columns.{alone_in, Collected, Measured, Indexed}
use Rattle.writer.specs.Ready.{Ready, pieces_in}
use Rattle.writer.specs.ReadyLaws.{drop_piece}

-- what stands at j once word k is set
pub word_set : (w : List ℕ) (k v j : ℕ) {x : ℕ} → k < length w → (j ≡ k → v ≡ x) → ((j ≢ k) → slice_index w j ≡ x) → slice_index (slice_set w k v) j ≡ x
word_set w k v j {x} h f g = go (j == k) refl
  where
    go : (b : Bool) → (j == k) ≡ b → slice_index (slice_set w k v) j ≡ x
    go true e =
        let q : j ≡ k = eqb-true j k e in
        rw (q, get_or-set_same w k v 0 h) (f q)
    go false e =
        let q : j ≡ k → ⊥ = eqb-false j k e in
        get_or-set_other w k j v 0 q ∙ g q

-- a column of words b, b + 1 .. that shows f up to e
pub column_more :
    (w : List ℕ) (b e v : ℕ) (f : ℕ → ℕ) → b + e < length w → ((i : ℕ) → i < e → slice_index w (b + i) ≡ f i) → v ≡ f e →
    (i : ℕ) → i < suc e → slice_index (slice_set w (b + e) v) (b + i) ≡ f i
column_more w b e v f h c q i l =
    word_set w (b + e) v (b + i) h
    (λ s. let z : i ≡ e = omega arith in rw z q)
    (λ s. c i (omega arith))

-- the four columns stand while only words behind them change
module _ {t : List ℕ} {n : ℕ} (r : Ready t n) {w : List ℕ} {e : ℕ} (m : Measured t w n e) where
  pub measured_kept : e ≤ n → (v : List ℕ) → length v ≡ length w → ((i : ℕ) → i < n * 4 → slice_index v i ≡ slice_index w i) → Measured t v n e
  measured_kept le v long same =
      record {
        long = long ∙ m.long;
        off = λ i h. same i (omega arith) ∙ m.off i h;
        rep = λ i p q h d. same (n + i) (omega arith) ∙ m.rep i p q h d;
        alone = λ i h. same (n + n + i) (omega arith) ∙ m.alone i h;
        nexts = λ i l h. same (n + n + i) (omega arith) ∙ m.nexts i l h;
        members = λ i k q l d. same (n * 3 + i) (omega (arith, drop_piece r i (start k) q d)) ∙ m.members i k q l d;
        units = λ i s q l d o. same (n * 3 + i) (omega (arith, drop_piece r i (scalar s) q d)) ∙ m.units i s q l d o;
      }

  pub measured_set : e ≤ n → (k v : ℕ) → n * 4 ≤ k → Measured t (slice_set w k v) n e
  measured_set le k v h = measured_kept le (slice_set w k v) (length-set w k v) (λ i l. get_or-set_other w k i v 0 (omega arith))

pub indexed_kept :
    {t : List ℕ} {n : ℕ} → Ready t n → {w : List ℕ} → Indexed t w n → (v : List ℕ) → length v ≡ length w → ((i : ℕ) → i < n * 4 → slice_index v i ≡ slice_index w i) → Indexed t v n
indexed_kept r m v = measured_kept r m (omega arith) v

pub indexed_set : {t : List ℕ} {n : ℕ} → Ready t n → {w : List ℕ} → Indexed t w n → (k v : ℕ) → n * 4 ≤ k → Indexed t (slice_set w k v) n
indexed_set r m k v h = measured_set r m (omega arith) k v h

-- before the first event
pub collected_none : (t w : List ℕ) (n : ℕ) → length w ≡ n * 8 → Collected t w n 0
collected_none t w n h = record { long = h; off = λ i l. absurd (omega arith); rep = λ i p q l d. absurd (omega arith); alone = λ i l. absurd (omega arith) }

-- only words behind the columns change, and OFF of event e
pub collected_kept :
    {t w : List ℕ} {n e : ℕ} → Collected t w n e → e < n → (v : List ℕ) → length v ≡ length w → ((i : ℕ) → i < n * 4 → (i ≢ e) → slice_index v i ≡ slice_index w i) → Collected t v n e
collected_kept {t} {w} {n} {e} c l v long same =
    record {
      long = long ∙ c.long;
      off = λ i h. same i (omega arith) (λ z. omega arith) ∙ c.off i h;
      rep = λ i p q h d. same (n + i) (omega arith) (λ z. omega arith) ∙ c.rep i p q h d;
      alone = λ i h. same (n + n + i) (omega arith) (λ z. omega arith) ∙ c.alone i h;
    }

-- an event more is collected, whose OFF stands
module _ {t w : List ℕ} {n e : ℕ} (c : Collected t w n e) (p : Piece) (q : List Piece) (d : drop e (pieces_in t) ≡ p ∷ q) (l : e < n) (stands : slice_index_or w e 0 ≡ start_at t e) where
  pub collected_more : (rep next : ℕ) → rep ≡ rep_of (pieces_in t) (name_of e p) → next ≡ alone_in e (p ∷ q) → Collected t (slice_set (slice_set w (n + e) rep) (n + n + e) next) n (suc e)
  collected_more rep next f g = record { long = simp length-set c.long; off = off; rep = reps; alone = alone }
    where
      room : length w ≡ n * 8
      room = c.long

      w₂ : List ℕ
      w₂ = slice_set w (n + e) rep

      old : (i : ℕ) → i < suc e → (b : Bool) → (i == e) ≡ b → slice_index w i ≡ start_at t i
      old i h true z = rw (eqb-true i e z) stands
      old i h false z =
          let y : i ≡ e → ⊥ = eqb-false i e z in
          c.off i (omega arith)

      off : (i : ℕ) → i < suc e → slice_index (slice_set w₂ (n + n + e) next) i ≡ start_at t i
      off i h =
          get_or-set_other w₂ (n + n + e) i next 0 (omega arith)
          ∙ get_or-set_other w (n + e) i rep 0 (omega arith)
          ∙ old i h (i == e) refl

      reps : (i : ℕ) (o : Piece) (s : List Piece) → i < suc e → drop i (pieces_in t) ≡ o ∷ s → slice_index (slice_set w₂ (n + n + e) next) (n + i) ≡ rep_of (pieces_in t) (name_of i o)
      reps i o s h b =
          get_or-set_other w₂ (n + n + e) (n + i) next 0 (omega arith)
          ∙ word_set w (n + e) rep (n + i) (omega arith)
          (λ z.
          let y : i ≡ e = omega arith in
          let k : drop e (pieces_in t) ≡ o ∷ s = rw y at b in
          let x : o ≡ p = head-eq_of_cons-eq (sym k ∙ d) in
          rw (y, x) f)
          (λ z. c.rep i o s (omega arith) b)

      alone : (i : ℕ) → i < suc e → slice_index (slice_set w₂ (n + n + e) next) (n + n + i) ≡ alone_in i (drop i (pieces_in t))
      alone i h =
          word_set w₂ (n + n + e) next (n + n + i) (simp length-set (omega arith))
          (λ z.
          let y : i ≡ e = omega arith in
          rw (y, d) g)
          (λ z. get_or-set_other w (n + e) (n + n + i) rep 0 (omega arith) ∙ c.alone i (omega arith))
