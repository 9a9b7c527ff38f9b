-- What one turn of the pass that collects events finds at its event.
use Rattle.std.specs.Prelude.{◌≡◌, ℕ, suc, ◌+◌, ◌-◌, ◌*◌, ◌<◌, ◌≤◌, Bool, true, false, cond, List, ◌∷◌, length, take, drop, ◌==◌, nat_lt, slice_index, slice_index_or, slice_range, slice_set, refl, None, Option, Some}
use mathlib.Core.List.{head-eq_of_cons-eq}
use Rattle.std.proofs.Common.{sym, ◌∙◌, add-one, arith, lt-ltb, le-ltb, eq-eqb, ne_eqb, length-set, get_or-set_same, get_or-set_other}
use Rattle.event.specs.Format.{max_length}
use Rattle.event.specs.Meaning.{Meaning}
use Rattle.tape.specs.End.{end_of}
use Rattle.tape.proofs.EndLaws.{end_reads}
use Rattle.tape.specs.Events.{start_at}
use Rattle.tape.specs.Item.{read_at, event}
use Rattle.written.specs.Graph.{arr, dic, Piece, scalar, start, end, val}
use Rattle.written.proofs.RepLaws.{rep_le, rep_box, rep_end}
use Rattle.written.specs.Shape.{name_of}
use Rattle.written.specs.Weigh.{rep_of}
use Rattle.writer.specs.Collect.{FirstOf, alone_by, Turn}
use Rattle.writer.specs.ClearLaws.{length_cleared, cleared_in}
use Rattle.writer.specs.Columns.{cleared, alone_in, Collected}
use Rattle.writer.specs.ColumnsLaws.{word_set, collected_none, collected_kept, collected_more}
use Rattle.writer.specs.Find.{Sought, Entered}
use Rattle.writer.specs.Index.{Index}
use Rattle.writer.specs.IndexLaws.{index_none, index_same, index_past}
use Rattle.writer.specs.Ready.{Ready, pieces_in}
use Rattle.writer.specs.ReadyLaws.{HasKind, kind_at, event_at_law, kind_at_law, kind_scalar, scalar_at, piece_at, ready_small}

-- the place after an event is where it ends
module _ (t : List ℕ) (at : ℕ) (told : Option ℕ) (f : told ≡ end_of t at) (m : Meaning) (next : ℕ) (reads : read_at t at ≡ event m next) where
  pub after_at : (x : ℕ) → told ≡ Some x → x ≡ next
  after_at x g =
      let h : end_of t at ≡ Some next = end_reads t at m next reads in
      cc

  pub after_none : told ≡ None → ⊥
  after_none g =
      let h : end_of t at ≡ Some next = end_reads t at m next reads in
      let z : ◌≡◌ {A = ℕ} 0 1 = cc in
      omega arith

module _ {t w : List ℕ} {n e at after : ℕ} (u : Turn t w n e at after) where
  -- the event lies on the tape
  pub turn_within : (at < after) × (after ≤ length t)
  turn_within =
      let a = (event_at_law u.ready e u.within).1 in
      rw (u.begins, u.ends) (a.on, a.within)

  -- a scalar, as it is sought
  pub turn_sought : slice_index_or t at 0 < 0x0a → Sought t w n e (slice_range t at after)
  turn_sought k =
      let s = kind_scalar u.ready e u.within (rw u.begins at k) in
      let r = drop (suc e) (pieces_in t) in
      let f : take (after - at) (drop at t) ≡ s.0 = rw (u.begins, u.ends) (scalar_at u.ready e s.0 r s.1).1.stands in
      record { ready = u.ready; within = u.within; long = u.long; off = u.off; index = u.index; behind = r; here = rw f s.1 }

  pub turn_scalar : (first : ℕ) → slice_index t at < 0x0a → first ≡ rep_of (pieces_in t) (val (slice_range t at after)) → FirstOf t e first
  turn_scalar first k f p q d =
      let g : scalar (slice_range t at after) ≡ p = head-eq_of_cons-eq (sym (turn_sought k).here ∙ d) in
      rw (← g) f

  pub turn_other : 0x0a ≤ slice_index t at → FirstOf t e e
  turn_other k p q d = go p d (kind_at_law u.ready e p q d)
    where
      go : (p : Piece) → drop e (pieces_in t) ≡ p ∷ q → HasKind p (kind_at t e) → e ≡ rep_of (pieces_in t) (name_of e p)
      go (scalar s) b h = absurd (omega (arith, (rw u.begins at k)))
      go (start d) b h = sym (rep_box (pieces_in t) e d q b)
      go end b h = sym (rep_end (pieces_in t) e q b)

  -- it doesn't enter the index
  pub turn_passed : 0x0a ≤ slice_index t at → Entered t w w n e
  turn_passed k =
      record {
        index = index_past u.index (λ s r d o. omega (arith, kind_at_law u.ready e (scalar s) r d, rw u.begins at k));
        kept = λ i l. refl;
        long = refl;
      }

cond_le : (b : Bool) (x y n : ℕ) → x ≤ n → y ≤ n → cond b x y ≤ n
cond_le true x y n f g = f
cond_le false x y n f g = g

alone_is : (e : ℕ) (p : Piece) (q : List Piece) (k : ℕ) → HasKind p k → alone_by k e ≡ alone_in e (p ∷ q)
unfolding alone_by alone_in
alone_is e (scalar s) q k h = rw (lt-ltb k 0x0a h) (add-one e)
alone_is e (start arr) q k h = rw (le-ltb k 0x0a h.0, ne_eqb k 0x0e (omega arith))
alone_is e (start dic) q k h = rw (le-ltb k 0x0a (omega arith), ne_eqb k 0x0e (omega arith))
alone_is e end q k h = rw (le-ltb k 0x0a (omega arith), eq-eqb k 0x0e h)

pub alone_le : (k e : ℕ) → alone_by k e ≤ e + 1
unfolding alone_by
alone_le k e = cond_le (nat_lt k 0x0a) (e + 1) (cond (k == 0x0e) 0 e) (e + 1) (omega arith) (cond_le (k == 0x0e) 0 e (e + 1) (omega arith) (omega arith))

module _ {t w : List ℕ} {n e at : ℕ} (r : Ready t n) (l : e < n) (b : at ≡ start_at t e) (c : Collected t w n e) (x : Index t w n e) where
  -- all numbers fit a word
  pub places_fit : (at < length t) × (length t ≤ max_length) × (n ≤ max_length) × (length w ≡ n * 8)
  places_fit =
      let a = (event_at_law r e l).1 in
      (rw b (omega (arith, a.on, a.within)), r.short, ready_small r, c.long)

  -- OFF is set first
  pub turned : (after : ℕ) → ((m : Meaning) (next : ℕ) → read_at t at ≡ event m next → after ≡ next) → Turn t (slice_set w e at) n e at after
  turned after f =
      let a = event_at_law r e l in
      record {
        ready = r;
        within = l;
        long = length-set w e at ∙ c.long;
        off = λ i h. word_set w e at i (omega (arith, c.long)) (λ z. rw z b) (λ z. c.off i (omega arith));
        begins = b;
        ends = f a.0 (start_at t (suc e)) (rw b a.1.reads);
        index = index_same x (slice_set w e at) (λ q h. get_or-set_other w e q at 0 (omega arith));
      }

  -- then REP and NEXT
  pub first_fits : (first : ℕ) → FirstOf t e first → first ≤ e
  first_fits first f =
      let a = piece_at r e l in
      rw (f a.0 (drop (suc e) (pieces_in t)) a.1) (rep_le (pieces_in t) e a.0 (drop (suc e) (pieces_in t)) a.1)

  pub collected_turn :
      (first next : ℕ) (w₁ v w₂ w₃ : List ℕ) → FirstOf t e first → next ≡ alone_by (slice_index t at) e →
      w₁ ≡ slice_set w e at → Entered t w₁ v n e → w₂ ≡ slice_set v (n + e) first → w₃ ≡ slice_set w₂ (n + n + e) next → Collected t w₃ n (suc e) × Index t w₃ n (suc e)
  collected_turn first next w₁ v w₂ w₃ f g e₁ y e₂ e₃ =
      let a = piece_at r e l in
      let q = drop (suc e) (pieces_in t) in
      let h : next ≡ alone_in e (a.0 ∷ q) = g ∙ rw b (alone_is e a.0 q (kind_at t e) (kind_at_law r e a.0 q a.1)) in
      let room : length w ≡ n * 8 = c.long in
      let off : slice_index_or v e 0 ≡ start_at t e = y.kept e (omega arith) ∙ rw e₁ (get_or-set_same w e at 0 (omega arith) ∙ b) in
      let k : Collected t v n e =
      collected_kept c l v (y.long ∙ rw e₁ (length-set w e at)) (λ i z o. y.kept i z ∙ rw e₁ (get_or-set_other w e i at 0 o)) in
      rw (e₃, e₂) (
        collected_more k a.0 q a.1 l off first next (f a.0 q a.1) h,
        index_same y.index (slice_set (slice_set v (n + e) first) (n + n + e) next)
            (λ i z. get_or-set_other (slice_set v (n + e) first) (n + n + e) i next 0 (omega arith) ∙ get_or-set_other v (n + e) i first 0 (omega arith)),
      )

-- before the first event: the index is cleared
pub collected_start : (t w : List ℕ) (n : ℕ) → length w ≡ n * 8 → Collected t (cleared w (n * 4) (n * 8)) n 0 × Index t (cleared w (n * 4) (n * 8)) n 0
collected_start t w n long = (
  collected_none t (cleared w (n * 4) (n * 8)) n (length_cleared w (n * 4) (n * 8) ∙ long),
  index_none t (cleared w (n * 4) (n * 8)) n (λ q l h. cleared_in w (n * 4) (n * 8) q l h (omega arith)),
)
