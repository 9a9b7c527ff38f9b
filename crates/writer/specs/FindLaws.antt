-- The search for an event's bytes by the index finds the first event with its name.
use Rattle.std.specs.Prelude.{◌≡◌, ℕ, suc, ◌+◌, ◌-◌, ◌*◌, ◌<◌, ◌≤◌, Bool, true, false, List, length, drop, ◌≢◌, nat_lt, slice_index, slice_index_or, slice_range, slice_set, refl}
use Rattle.std.proofs.lemmas.Bool.{false≢true}
use mathlib.Core.List.{head-eq_of_cons-eq}
use Rattle.std.proofs.Common.{ap, sym, ◌∙◌, add-one, arith, ltb-true, ltb-false, length-drop, length-set, length-take-le, get_or-set_other}
use Rattle.event.specs.Format.{max_length}
use Rattle.event.specs.Meaning.{Meaning}
use Rattle.tape.specs.Code.{bytes_for}
use Rattle.written.specs.Graph.{Scalar, arr, dic, Piece, scalar, start, end, piece_of, val, same_bytes, same}
use Rattle.written.proofs.NameLaws.{bytes_refl, same_comm, same_sound}
use Rattle.written.proofs.RepLaws.{rep_le, rep_same}
use Rattle.written.specs.Shape.{name_of}
use Rattle.written.specs.Weigh.{rep_of}
use Rattle.writer.specs.AlikeLaws.{bytes_other}
use Rattle.writer.specs.Find.{between, Sought, Fit, Search, Entered}
use Rattle.writer.specs.Index.{bucket_of, side_of, slot_at, met_at, top_of, sides_of, Meets}
use Rattle.writer.specs.Alike.{hash_of}
use Rattle.writer.specs.IndexLaws.{index_past, index_enter}
use Rattle.writer.specs.Ready.{pieces_in}
use Rattle.writer.specs.ReadyLaws.{HasKind, kind_of_law, scalar_piece, EventAt, event_at_law, start_lt, start_le, scalar_at, ready_small}

-- up to k, and there
upto : (P : ℕ → Type 0) (k : ℕ) → ((j : ℕ) → j < k → P j) → P k → (j : ℕ) → j < k + 1 → P j
upto P k f g j l = go (nat_lt j k) refl
  where
    go : (b : Bool) → nat_lt j k ≡ b → P j
    go true q = f j (ltb-true j k q)
    go false q =
        let z : j ≡ k = omega (arith, ltb-false j k q) in
        rw z g

-- a part of another length
pub part_other : (t s : List ℕ) (from to : ℕ) → from ≤ to → to ≤ length t → (to - from ≢ length s) → same_bytes (slice_range t from to) s ≡ false
part_other t s from to f g h =
    let l : length (slice_range t from to) ≡ to - from = length-take-le (to - from) (drop from t) (rw length-drop (omega arith)) in
    bytes_other (slice_range t from to) s (λ e. h (sym l ∙ ap length e))

-- a scalar's bytes are another event's exactly where their names are the same: starts and ends have other kinds
name_bytes : (m : Meaning) (i : ℕ) (s : Scalar) → slice_index s 0 < 0x0a → same_bytes (bytes_for m) s ≡ same (val s) (name_of i (piece_of m))
unfolding same
name_bytes m i s low = go (piece_of m) refl (kind_of_law m)
  where
    other : 0x0a ≤ slice_index (bytes_for m) 0 → same_bytes (bytes_for m) s ≡ false
    other h = bytes_other (bytes_for m) s (λ e. let f : slice_index_or (bytes_for m) 0 0 ≡ slice_index_or s 0 0 = ap (λ (l : List ℕ). slice_index l 0) e in omega arith)

    go : (p : Piece) → piece_of m ≡ p → HasKind p (slice_index (bytes_for m) 0) → same_bytes (bytes_for m) s ≡ same (val s) (name_of i p)
    go (scalar b) e k = rw (scalar_piece m b e).1 (same_comm (val (bytes_for m)) (val s))
    go (start arr) e k = other k.0
    go (start dic) e k = other (omega arith)
    go end e k = other (omega arith)

module _ {t w : List ℕ} {n e : ℕ} {s : Scalar} (h : Sought t w n e s) where
  -- all numbers fit
  pub sought_fits : (n ≤ max_length) × (e < n) × (length w ≡ n * 8)
  sought_fits = (ready_small h.ready, h.within, h.long)

  -- the bytes of an earlier event stand between two words
  sought_within : (i : ℕ) → i < e → (i + 1 < length w) × (slice_index w i ≤ slice_index w (i + 1)) × (slice_index w (i + 1) ≤ length t)
  sought_within i l =
      rw (add-one, h.off i (omega arith), h.off (suc i) l)
      (omega (arith, h.within, h.long), omega (arith, start_lt h.ready i (omega (arith, h.within))), start_le h.ready (suc i) (omega (arith, h.within)))

  sought_same : (i : ℕ) → i < e → (m : Meaning) → EventAt t i m → same_bytes (between t w i) s ≡ same (val s) (name_of i (piece_of m))
  sought_same i l m a =
      rw (add-one, h.off i (omega arith), h.off (suc i) l, a.bytes)
      (name_bytes m i s (scalar_at h.ready e s h.behind h.here).1.first)

  first_le : rep_of (pieces_in t) (val s) ≤ e
  first_le = rep_le (pieces_in t) e (scalar s) h.behind h.here

  -- a search begins at a bucket
  pub search_start : (hash bucket met : ℕ) → hash ≡ hash_of s → bucket ≡ bucket_of hash n → bucket < n + n → met ≡ slice_index w (n * 4 + bucket) → Search t w n e s (n * 4 + bucket) met 0
  unfolding slot_at
  search_start hash bucket met f g l q =
      record {
        here = rw (g, f);
        holds = q;
        low = omega arith;
        high = omega arith;
        under = λ i b k y. absurd (omega arith);
        some = λ j k. absurd (omega arith);
        other = λ j k. absurd (omega arith);
        few = omega arith;
        grown = λ k. k;
      }

  module _ {slot met steps : ℕ} (x : Search t w n e s slot met steps) where
    search_before : met ≤ e
    search_before = rw x.holds (h.index.before slot x.low x.high)

    search_met : met_at w n (top_of n s) (sides_of s) steps ≡ met
    search_met = rw (← x.here) (sym x.holds)

    pub search_room : slot < length w
    search_room = omega (arith, x.high, h.long)

    -- an event is met
    module _ (some : 0 < met) where
      pub met_fits : Fit n e met steps
      met_fits = (x.grown some, search_before, h.within, ready_small h.ready)

      pub met_within : (met - 1 + 1 < length w) × (slice_index w (met - 1) ≤ slice_index w (met - 1 + 1)) × (slice_index w (met - 1 + 1) ≤ length t)
      met_within = sought_within (met - 1) (omega (arith, search_before))

      -- with the bytes: it is the first
      pub met_here : (b : Bool) → b ≡ same_bytes (between t w (met - 1)) s → b ≡ true → met - 1 ≡ rep_of (pieces_in t) (val s)
      met_here b f g =
          let l : met - 1 < e = omega (arith, search_before) in
          let a = event_at_law h.ready (met - 1) (omega (arith, h.within)) in
          let q : val s ≡ name_of (met - 1) (piece_of a.0) = same_sound (val s) (name_of (met - 1) (piece_of a.0)) (sym (f ∙ sought_same (met - 1) l a.0 a.1) ∙ g) in
          let z : slice_index_or w slot 0 ≡ suc (met - 1) = omega (arith, x.holds) in
          rw q (sym (h.index.first slot (met - 1) (piece_of a.0) (drop (suc (met - 1)) (pieces_in t)) x.low x.high z a.1.piece))

      pub met_entered : (b : Bool) → b ≡ same_bytes (between t w (met - 1)) s → b ≡ true → Entered t w w n e
      met_entered b f g =
          record {
            index = index_past h.index (λ y r d o.
                let z : scalar y ≡ scalar s = head-eq_of_cons-eq (sym d ∙ h.here) in
                let k : y ≡ s = cc in
                let q : rep_of (pieces_in t) (val s) ≡ e = rw k at o in
                omega (arith, met_here b f g, search_before));
            kept = λ i l. refl;
            long = refl;
          }

      -- without them: the search goes on
      module _ (b : Bool) (f : b ≡ same_bytes (between t w (met - 1)) s) (g : b ≡ false) where
        met_other : met ≡ suc (rep_of (pieces_in t) (val s)) → ⊥
        met_other q =
            let l : met - 1 < e = omega (arith, search_before) in
            let z : met - 1 ≡ rep_of (pieces_in t) (val s) = omega arith in
            let (r, d) = rep_same (pieces_in t) e s h.behind h.here in
            let a = scalar_at h.ready (met - 1) s r (rw z d) in
            let y : between t w (met - 1) ≡ s = rw (add-one, h.off (met - 1) (omega arith), h.off (suc (met - 1)) l) a.1.stands in
            false≢true (sym g ∙ f ∙ rw y (bytes_refl s))

        pub search_on : (hash side next : ℕ) → hash ≡ hash_of s → side ≡ side_of s hash steps → side < 2 → next ≡ slice_index w (n * 6 + (met - 1) + (met - 1) + side)
            → Search t w n e s (n * 6 + (met - 1) + (met - 1) + side) next (steps + 1)
        unfolding slot_at
        search_on hash side next p q l o =
            let same : met_at w n (top_of n s) (sides_of s) steps ≡ met = search_met in
            record {
              here = rw (add-one, same, q, p);
              holds = o;
              low = omega arith;
              high = omega (arith, search_before, h.within);
              under = λ i k y z. omega (arith, search_before);
              some = upto (λ (j : ℕ). 0 < met_at w n (top_of n s) (sides_of s) j) steps x.some (rw same some);
              other = upto (λ (j : ℕ). met_at w n (top_of n s) (sides_of s) j ≢ suc (rep_of (pieces_in t) (val s))) steps x.other (rw same met_other);
              few = omega (arith, search_before, x.grown some);
              grown = λ k. omega (arith, x.grown some, h.index.later (met - 1) side (omega (arith, search_before, h.within)) l (rw o at k), o);
            }

    -- the search ends at an empty word: event e is the first with its bytes
    module _ (free : met ≡ 0) where
      free_last : e ≤ rep_of (pieces_in t) (val s)
      free_last = go (nat_lt (rep_of (pieces_in t) (val s)) e) refl
        where
          go : (b : Bool) → nat_lt (rep_of (pieces_in t) (val s)) e ≡ b → e ≤ rep_of (pieces_in t) (val s)
          go false q = ltb-false (rep_of (pieces_in t) (val s)) e q
          go true q =
              let (r, d) = rep_same (pieces_in t) e s h.behind h.here in
              let m = h.index.met (rep_of (pieces_in t) (val s)) s r (ltb-true (rep_of (pieces_in t) (val s)) e q) d refl in
              absurd (ahead m (nat_lt m.steps steps) refl)
            where
              level : (m : Meets w n (top_of n s) (sides_of s) (rep_of (pieces_in t) (val s))) (c : Bool) → nat_lt steps m.steps ≡ c → steps ≤ m.steps → ⊥
              level m true k f = omega (arith, m.some steps (ltb-true steps m.steps k), search_met)
              level m false k f =
                  let z : m.steps ≡ steps = omega (arith, ltb-false steps m.steps k) in
                  omega (arith, rw z at m.there, search_met)

              ahead : (m : Meets w n (top_of n s) (sides_of s) (rep_of (pieces_in t) (val s))) (c : Bool) → nat_lt m.steps steps ≢ c
              ahead m true k = x.other m.steps (ltb-true m.steps steps k) m.there
              ahead m false k = level m (nat_lt steps m.steps) refl (ltb-false m.steps steps k)

      pub free_here : e ≡ rep_of (pieces_in t) (val s)
      free_here = omega (arith, free_last, first_le)

      pub free_entered : (v : List ℕ) → v ≡ slice_set w slot (e + 1) → Entered t w v n e
      free_entered v f =
          rw (f, add-one)
          (record {
            index =
                index_enter h.index s h.behind h.here (sym free_here) slot steps x.here (sym x.holds ∙ free) x.some x.low search_room x.under;
            kept = λ i l. get_or-set_other w slot i (suc e) 0 (omega (arith, x.low));
            long = length-set w slot (suc e);
          })
