-- The column NUM shows what has a number: marking a walk's first events adds the names that they stand for.
use Rattle.std.specs.Prelude.{◌≡◌, ℕ, suc, ◌+◌, ◌*◌, ◌<◌, Bool, true, false, List, [], ◌∷◌, map, length, slice_index, refl}
use Rattle.std.proofs.lemmas.Bool.{false≢true}
use Rattle.std.proofs.Common.{sym, ap, ◌∙◌, arith}
use Rattle.std.proofs.lemmas.List.{length-map}
use Rattle.written.specs.Graph.{Piece, Name, same, order, number}
use Rattle.written.proofs.NameLaws.{In, same_sound}
use Rattle.written.specs.Nub.{has, nub_onto}
use Rattle.written.proofs.RepLaws.{Among, rep_lt, has_reps, index_reps, nub_reps, among_nub}
use Rattle.written.specs.Weigh.{event_names, rep_of}
use Rattle.writer.specs.Columns.{Indexed}
use Rattle.writer.specs.ColumnsLaws.{indexed_kept}
use Rattle.writer.specs.KeptLaws.{kept_all, kept_told}
use Rattle.writer.specs.Marks.{marked, num_in, kept_at, Numbered}
use Rattle.writer.specs.MarksLaws.{Under, Holds, marks, marked_length, marked_other}
use Rattle.writer.specs.Ready.{pieces_in, Ready}
use Rattle.writer.specs.ReadyLaws.{ready_count}

-- the same for any names that are kept, with the other columns
pub record Shown (t w : List ℕ) (n : ℕ) (kept : List Name) (k : ℕ) : Type 0 where
  pub indexed : Indexed t w n
  pub told : Among (event_names 0 (pieces_in t)) kept
  pub column : (r : ℕ) → r < n → slice_index w (n * 4 + r) ≡ num_in (map (rep_of (pieces_in t)) kept) r
  pub count : k ≡ length kept

pub shown_numbered : (t w : List ℕ) (n e k : ℕ) (kept : List Name) → kept_at (pieces_in t) e ≡ kept → Shown t w n kept k → Indexed t w n × Numbered t w n e k
shown_numbered t w n e k kept q o = (o.indexed, record { column = rw q o.column; count = rw q o.count })

pub numbered_shown : (t w : List ℕ) (n e k : ℕ) → Indexed t w n → Numbered t w n e k → Shown t w n (kept_at (pieces_in t) e) k
numbered_shown t w n e k x o = record { indexed = x; told = kept_told (pieces_in t) e; column = o.column; count = o.count }

reps_under : (es : List Piece) (n : ℕ) → length es ≡ n → (xs : List Name) → Among (event_names 0 es) xs → Under n (map (rep_of es) xs)
reps_under es n q [] a = tt
reps_under es n q (x ∷ xs) a = (omega (arith, rep_lt es x a.0, q), reps_under es n q xs a.1)

pub among_in : (l : List Name) (x : Name) (xs : List Name) → Among l xs → In x xs → In x l
unfolding has
among_in l x [] a h = absurd (false≢true h)
among_in l x (y ∷ xs) a h = go (same x y) refl (among_in l x xs a.1)
  where
    go : (b : Bool) → same x y ≡ b → (In x xs → In x l) → In x l
    go true e ih = rw (same_sound x y e) a.0
    go false e ih = ih (simp (e, has) at h)

module _ {t : List ℕ} {n : ℕ} (o : Ready t n) where
  -- a part of the pass
  pub shown_more : (w v : List ℕ) (k m : ℕ) (kept xs : List Name) → Among (event_names 0 (pieces_in t)) xs → Shown t w n kept k → v ≡ (marked w n k (map (rep_of (pieces_in t)) xs)).words → m ≡ (marked w n k (map (rep_of (pieces_in t)) xs)).next → Shown t v n (nub_onto same kept xs) m
  shown_more w v k m kept xs a s ev em =
      let es = pieces_in t in
      let f = rep_of es in
      let h : Holds w n (map f kept) = record { room = omega (arith, s.indexed.long); column = s.column } in
      let p = marks (map f xs) w n (map f kept) k (s.count ∙ sym (length-map kept f)) (reps_under es n (ready_count o) xs a) h in
      let q = nub_reps es kept xs s.told a in
      record {
        indexed = rw ev (indexed_kept o s.indexed (marked w n k (map f xs)).words (marked_length (map f xs) w n k) (marked_other (map f xs) w n k));
        told = among_nub (event_names 0 es) kept xs s.told a;
        column = λ r l. rw (ev, ← q) (p.0.column r l);
        count = em ∙ p.1 ∙ ap length q ∙ length-map (nub_onto same kept xs) f;
      }

  -- all events passed, the column has each object's number plus 1
  pub numbered_is : (w : List ℕ) (k : ℕ) → Numbered t w n n k → (x : Name) → In x (order (pieces_in t)) → slice_index w (n * 4 + rep_of (pieces_in t) x) ≡ suc (number (pieces_in t) x)
  unfolding num_in number
  numbered_is w k s x h =
      let es = pieces_in t in
      let q : kept_at es n ≡ order es = rw (← ready_count o) (kept_all es) in
      let a : Among (event_names 0 es) (order es) = rw (← q) (kept_told es n) in
      let i : In x (event_names 0 es) = among_in (event_names 0 es) x (order es) a h in
      s.column (rep_of es x) (omega (arith, rep_lt es x i, ready_count o)) ∙ rw (q, has_reps es x i (order es) a, h, index_reps es x i (order es) a)

  pub numbered_count : (w : List ℕ) (k : ℕ) → Numbered t w n n k → k ≡ length (order (pieces_in t))
  numbered_count w k s =
      let q : kept_at (pieces_in t) n ≡ order (pieces_in t) = rw (← ready_count o) (kept_all (pieces_in t)) in
      s.count ∙ ap length q
