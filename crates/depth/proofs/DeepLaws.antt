-- THE READER on the file of more than max_open arrays that stand inside each other: it gives max_open of them, and refuses the next with 15, at its offset.
use Rattle.std.specs.Prelude.{Bool, true, false, ◌≡◌, eqb, get_or, replicate, Some}
use mathlib.Core.List.{List, [], ◌∷◌, ◌++◌}
use Rattle.std.proofs.Math.Path.{refl, ap}
use Rattle.std.proofs.Common.{◌∙◌, zero-add, suc-add, le-leb, eqb-true, lit<, get_or-set_other}
use Prim.Native.Nat.{ℕ, zero, suc, ◌+◌, ◌-◌, ◌≤◌, ◌<◌}
use native.Mathlib.Omega.{arith}
use Rattle.std.proofs.lemmas.Bool.{eqb-false}
use Rattle.std.proofs.Math.ListN.{length, set, length-set}
use Rattle.std.proofs.lemmas.List.{length-replicate}
use Rattle.std.proofs.Math.Seq.{get_or-set_same}
use Rattle.number.specs.SizeLaws.{size_of_fits}
use Rattle.number.specs.Width.{bytes_in}
use Rattle.event.specs.Format.{max_length, max_open}
use Rattle.event.specs.Meaning.{array, meaning_of}
use Rattle.layout.specs.Frame.{new_frame, no_frame, next_in}
use Rattle.layout.specs.Layout.{source_of}
use Rattle.layout.specs.Looked.{Source, Shape, container, start_of}
use Rattle.layout.specs.Looked as looked
use Rattle.layout.specs.declared.frame.Frame.{Frame}
use Rattle.layout.specs.declared.layout.Due.TheVariants.{Member}
use Rattle.layout.specs.declared.layout.Layout.{Layout}
use Rattle.reader.specs.Calls.{calls}
use Rattle.reader.specs.Machine.{Said, step as stepped, refuse, enter, arrive, follow, step_of}
use Rattle.reader.specs.Meanings.{Told, means, ended, refused, told, meaning_at, answers}
use Rattle.reader.specs.Next.{laid_out, next_of}
use Rattle.reader.specs.State.{fresh_reader, ended_reader, open_of}
use Rattle.reader.specs.declared.state.Reader.{Reader}
use Rattle.written.specs.Encoding.{list}
use Rattle.written.specs.File.{bytes_at, place_of, file_of}
use Rattle.written.specs.Graph.{box, number, object_of}
use Rattle.written.proofs.NumberLaws.{number_lt}
use Rattle.written_claims.specs.Frames.{no_member, inside, innermost_is, step_start, root_start}
use Rattle.written_claims.specs.Laid.{layout_of, refs_size, object_whole, few, trailer, entry}
use Rattle.written_claims.specs.NextBack.{next_open, next_first}
use Rattle.written_claims.specs.ObjectLaws.{object_shown}
use Rattle.written_claims.specs.Shown.{Fine, ListShown}
use Rattle.depth.proofs.FileLaws.{named, refs_is, object_is, place_is, file_is, length_nested}
use Rattle.depth.specs.Nested.{refs, offset, nested, length_for, opened}
use Rattle.depth.specs.PieceLaws.{es, count_is, is_named, number_is}

-- a container is due, none of those that are open, and as many are open as may be
step_deep : (base : Reader) (q k : ℕ) (fr : List Frame) (src : Source) (n : ℕ) (s : Shape) (len at : ℕ)
    → src.due (get_or fr k no_frame) ≡ Member n → src.look n ≡ container s len at
    → ((i : ℕ) → i < suc k → (get_or fr i no_frame).object ≡ n → ⊥) → max_open ≤ suc k
    → step_of src (inside base q k fr) ≡ refuse 15 [] at
unfolding step_of follow arrive enter open_of
step_deep base q k fr src n s len at d l o h = rw (innermost_is base q k fr, d, l, no_member fr (suc k) n o, le-leb max_open (suc k) h)

all_ended : (file : List ℕ) (m : ℕ) → answers m file ended_reader ≡ replicate m ended
unfolding answers calls next_of told
all_ended file zero = refl
all_ended file (suc m) = ap (λ (l : List Told). ended ∷ l) (all_ended file m)

-- frame x is array x's, for all up to i, once frame i is
each_set : (i : ℕ) (f : Frame) (fr : List Frame) → i < length fr → f.object ≡ i → ((x : ℕ) → x < i → (get_or fr x no_frame).object ≡ x) → (x : ℕ) → x ≤ i → (get_or (set fr i f) x no_frame).object ≡ x
each_set i f fr l e h x le = go (eqb x i) refl
  where
    go : (b : Bool) → eqb x i ≡ b → (get_or (set fr i f) x no_frame).object ≡ x
    go true q = let z : x ≡ i = eqb-true x i q in rw (z, get_or-set_same fr i f no_frame l) e
    go false q = let z : x ≡ i → ⊥ = eqb-false x i q in rw (get_or-set_other fr i x f no_frame z) (h x (omega arith))

module _ (k j : ℕ) (short : length (file_of (es k j)) ≤ max_length) where
  abbrev file : List ℕ
  file = file_of (es k j)

  abbrev layout : Layout
  layout = layout_of (es k j)

  abbrev src : Source
  src = source_of file layout

  fine : (i q : ℕ) → i + q ≡ k → Fine (bytes_in layout.refs) (list (named q (suc i)))
  unfolding refs
  fine i zero e = (lit< tt, tt)
  fine i (suc q) e = rw (refs_size (es k j), refs_is k j) (lit< tt, (size_of_fits k (suc i) (omega (arith, few (es k j) short, count_is k j)) (omega arith), tt))

  -- array i is looked up at its offset, and the one after it is due in it
  shown : (i q : ℕ) → i + q ≡ k → ListShown src i (offset k i) (named q (suc i))
  unfolding bytes_at
  shown i q e =
      let le : i ≤ k = omega arith in
      let x = is_named k j i le in
      let o = object_is k j i q e in
      rw (number_is k j i le, place_is k j i le, o) at
      (object_shown file layout (number (es k j) (box i)) (place_of (es k j) (box i)) (number_lt (es k j) (box i) x) (entry (es k j) short (box i) x) (object_of (es k j) (box i))
      (rw o (fine i q e)) (rw refs_size (object_whole (es k j) (box i) x)))

  -- a frame of array i as it is entered
  abbrev inner : ℕ → Frame
  inner i = new_frame i 1 (offset k i)

  due_next : (i : ℕ) → i < k → src.due (inner i) ≡ Member (suc i)
  due_next i h = (shown i (suc (k - suc i)) (omega arith)).member (inner i) 0 (record { object = refl; kept = refl; long = refl; stands = refl }) (lit< tt)

  look_one : (i : ℕ) → i < k → src.look i ≡ container looked.array 1 (offset k i)
  look_one i h = (shown i (suc (k - suc i)) (omega arith)).look

  -- arrays 0 to i are open, each in its frame, and the last was just entered
  record Down (i : ℕ) (fr : List Frame) : Type 0 where
    full : length fr ≡ max_open
    top : get_or fr i no_frame ≡ inner i
    each : (x : ℕ) → x ≤ i → (get_or fr x no_frame).object ≡ x

  outermost : (fr : List Frame) → length fr ≡ max_open → Down 0 (set fr 0 (inner 0))
  outermost fr l = record {
    full = length-set fr 0 (inner 0) ∙ l;
    top = get_or-set_same fr 0 (inner 0) no_frame (omega arith);
    each = each_set 0 (inner 0) fr (omega arith) refl (λ x h. absurd (omega arith));
  }

  deeper : (i : ℕ) (fr : List Frame) → suc i < max_open → Down i fr → Down (suc i) (set (set fr i (next_in (get_or fr i no_frame))) (suc i) (inner (suc i)))
  unfolding next_in
  deeper i fr h o =
      let f = next_in (get_or fr i no_frame) in
      let on : List Frame = set fr i f in
      let l : length on ≡ max_open = length-set fr i f ∙ o.full in
      let each : (x : ℕ) → x ≤ i → (get_or on x no_frame).object ≡ x = each_set i f fr (omega (arith, o.full)) (o.each i (omega arith)) (λ x g. o.each x (omega arith)) in
      record {
        full = length-set on (suc i) (inner (suc i)) ∙ l;
        top = get_or-set_same on (suc i) (inner (suc i)) no_frame (omega arith);
        each = each_set (suc i) (inner (suc i)) on (omega arith) refl (λ x g. each x (omega arith));
      }

  closed_still : (i : ℕ) (fr : List Frame) → Down i fr → (x : ℕ) → x < suc i → (get_or fr x no_frame).object ≡ suc i → ⊥
  closed_still i fr o x h e = omega (arith, o.each x (omega arith))

  abbrev base : Reader
  base = laid_out file layout

  opens : (q d : ℕ) (fr : List Frame) → suc d ≤ max_open → next_of file (inside base q d fr) ≡ step_of src (inside base q d fr)
  opens = next_open file layout short (trailer (es k j) short)

  answers_next : (m : ℕ) (r s : Reader) (a : Said) → next_of file r ≡ stepped s a → answers (suc m) file r ≡ told file a ∷ answers m file s
  unfolding answers calls
  answers_next m r s a e = rw e

  -- from array i on, n more are opened, and the next is refused
  descend : (n i q m : ℕ) (fr : List Frame) → max_open ≤ k → suc i + n ≡ max_open → Down i fr
      → answers (n + suc m) file (inside base q i fr) ≡ opened k n (suc i) ++ (refused 15 [] (offset k (suc i + n)) ∷ replicate m ended)
  unfolding opened told meaning_at meaning_of start_of
  descend zero i q m fr g e o =
      let at : offset k (suc i) ≡ offset k (suc i + 0) = ap (offset k) (omega arith) in
      let s = opens q i fr (omega arith)
      ∙ step_deep base q i fr src (suc i) _ _ (offset k (suc i)) (rw o.top (due_next i (omega arith))) (shown (suc i) (k - suc i) (omega arith)).look (closed_still i fr o) (omega arith) in
      rw (zero-add (suc m)) (answers_next m (inside base q i fr) ended_reader _ s ∙ rw (at, all_ended file m))
  descend (suc n) i q m fr g e o =
      let at = offset k (suc i) in
      let on = set (set fr i (next_in (get_or fr i no_frame))) (suc i) (inner (suc i)) in
      let s = opens q i fr (omega arith)
      ∙ step_start base q i fr src (suc i) looked.array 1 at (rw o.top (due_next i (omega arith))) (look_one (suc i) (omega arith)) (closed_still i fr o) (omega arith) in
      let p : suc (suc i) + n ≡ suc i + suc n = omega arith in
      rw (suc-add n (suc m))
      (answers_next (n + suc m) (inside base q i fr) (inside base at (suc i) on) _ s
      ∙ ap (λ (l : List Told). means (array (Some 1)) at ∷ l) (rw p at (descend n (suc i) at m on g (omega arith) (deeper i fr (omega arith) o))))

  from_fresh : (n m : ℕ) → max_open ≤ k → suc n ≡ max_open → answers (suc n + suc m) file fresh_reader ≡ opened k (suc n) 0 ++ (refused 15 [] (offset k (suc n)) ∷ replicate m ended)
  unfolding opened told meaning_at meaning_of start_of
  from_fresh n m g e =
      let fr = set (replicate max_open no_frame) 0 (inner 0) in
      let at = offset k 0 in
      let s = rw (look_one 0 (omega arith)) at (next_first file layout short (trailer (es k j) short)) ∙ root_start base layout.table 0 (replicate max_open no_frame) looked.array 1 at in
      let p : 1 + n ≡ suc n = omega arith in
      rw (suc-add n (suc m))
      (answers_next (n + suc m) fresh_reader (inside base at 0 fr) _ s
      ∙ ap (λ (l : List Told). means (array (Some 1)) at ∷ l) (rw p at (descend n 0 at m fr g (omega arith) (outermost (replicate max_open no_frame) (length-replicate max_open no_frame)))))

-- THE REFUSAL
pub deep_read : (k : ℕ) → max_open ≤ k → length_for k ≤ max_length → (m : ℕ) → answers (max_open + suc m) (nested k) fresh_reader ≡ opened k max_open 0 ++ (refused 15 [] (offset k max_open) ∷ replicate m ended)
deep_read k g s m = rw (file_is k 0) at (from_fresh k 0 (rw (file_is k 0, length_nested k) s) (max_open - 1) m g refl)
