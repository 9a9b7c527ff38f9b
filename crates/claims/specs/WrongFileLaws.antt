-- A call answers 17 exactly when `WrongCall` says so, whatever the file and the state.
use Rattle.std.proofs.Math.Option.{none, some}
use Rattle.number.specs.declared.width.Width.{Width}
use Rattle.std.specs.Prelude.{Bool, List, [], ◌∷◌, ◌⊎◌, ◌↔◌, ℕ, zero, suc, ◌≤◌, ◌<◌, length, None, Option, Some}
use Rattle.std.proofs.Math.Bool.{true, false}
use Rattle.std.proofs.Common.{inl, inr, ap, ◌∙◌}
use Rattle.std.proofs.Math.Path.{◌≡◌, refl, sym}
use native.Mathlib.Omega.{arith}
use borrow.Author.Tests.{lt-ltb, ne_eqb, eqb-true, eqb-false, ltb-true, ltb-false}
use Rattle.std.proofs.Math.Dec.{ltb, leb, eqb}
use Rattle.std.proofs.Math.ListN.{get_elem?}
use Rattle.number.specs.Width.{width_of}
use Rattle.number.specs.Among.{among_not}
use Rattle.layout.specs.Refusals.{file_refusals, file_refusal, keeps_refusal, ends_refusal, not_file_17}
use Rattle.layout.specs.Layout.{entry_at, given, due_of, stands_from, stands_at, kept_from, stands_in, look_from, look_of, source_of}
use Rattle.layout.specs.LookLaws.{LookedRight, look_right, entry_there}
use Rattle.layout.specs.Looked.{Looked, barred, missing, faulty, scalar, container, Shape}
use Rattle.layout.specs.References.{length_of, entries_of}
use Rattle.layout.specs.ReferencesLaws.{element_at, element_end, element_past, same_length, kept_stands, due_none, due_entry}
use Rattle.layout.specs.Trailer.{Trailer, keeps, ends, lays, trailer_of, trailer_in}
use Rattle.layout.specs.TrailerLaws.{Tells, tells}
use Rattle.layout.specs.declared.frame.Frame.{Frame}
use Rattle.layout.specs.declared.layout.Layout.{Layout}
use Rattle.reader.specs.Machine.{Said, event, ended, refused, Step, wrong_file, enter, arrive, follow}
use Rattle.reader.specs.Next.{laid_out, begin, with_refs, go_on, next_of}
use Rattle.reader.specs.NextLaws.{next_ended, next_begin, next_long, next_other, next_many, next_on, next_due}
use Rattle.reader.specs.State.{max_open, max_length, innermost, open_of, member_of}
use Rattle.reader.specs.declared.state.Reader.{Reader}
use Rattle.claims.specs.Stack.{same_or_not}
use Rattle.claims.specs.WrongFile.{WrongFrame, other_object, too_far, reference, own_entry, other_offset, named_entry, WrongState, other_length, too_many, offset_size, ref_size, frame, WrongCall}

-- the answer is a refusal with 17
abbrev Says17 : Said → Type 0
Says17 (event e) = ⊥
Says17 ended = ⊥
Says17 (refused number values place) = number ≡ 17

says : (a : Said) (values : List ℕ) (place : ℕ) → a ≡ refused 17 values place → Says17 a
says a values place e = rw e refl

element : (es : List (Option ℕ)) (p : ℕ) → p < length es → (e : Option ℕ) × (get_elem? es p ≡ some e)
element [] p h = absurd (omega arith)
element (e ∷ es) zero h = (e, refl)
element (e ∷ es) (suc p) h = element es p (omega arith)

-- looking an object up answers 17 only where its entry lies outside the file
module _ (file : List ℕ) (l : Layout) (r : Reader) (n : ℕ) where
  enter_only : (s : Shape) (k offset : ℕ) → Says17 (enter r n s k offset).answer → ⊥
  unfolding enter
  enter_only s k offset h = go (member_of (open_of r) n) refl (leb max_open r.depth) refl
    where
      go : (a : Bool) → member_of (open_of r) n ≡ a → (b : Bool) → leb max_open r.depth ≡ b → ⊥
      go true p b q = let z : ◌≡◌ {A = ℕ} 14 17 = rw p at h in omega arith
      go false p true q = let z : ◌≡◌ {A = ℕ} 15 17 = rw (p, q) at h in omega arith
      go false p false q = rw (p, q) at h

  arrive_only : (x : Looked) → LookedRight file l n x → Says17 (arrive r n x).answer → (n < l.count) × (entry_at file l n ≡ None)
  unfolding arrive
  arrive_only (barred number values) k h = absurd (among_not file_refusals number 17 (file_refusal number k) not_file_17 h)
  arrive_only missing k h = k
  arrive_only (faulty number values offset) k h = absurd (among_not file_refusals number 17 (file_refusal number k) not_file_17 h)
  arrive_only (scalar e offset) k h = absurd h
  arrive_only (container s c offset) k h = absurd (enter_only s c offset h)

module _ (file : List ℕ) (l : Layout) (r : Reader) where
  abbrev f : Frame
  f = innermost r

  abbrev es : List (Option ℕ)
  es = entries_of file l f.object

  abbrev at : ℕ
  at = (stands_in file l f).offset

  -- a container of the frame's length stands where it was kept
  abbrev Here : Type 0
  Here = length_of (stands_in file l f).container ≡ Some f.length

  none_here : {P : Type 0} → None ≡ Some f.length → P
  none_here q = let z : ◌≡◌ {A = ℕ} 0 1 = cc in absurd (omega arith)

  -- so its entry is the offset that was kept
  here_kept : Here → (offset : ℕ) → entry_at file l f.object ≡ Some offset → (offset ≡ f.offset → ⊥) → ⊥
  unfolding stands_in kept_from length_of
  here_kept e offset h d = go (ltb f.object l.count) refl
    where
      go : (b : Bool) → ltb f.object l.count ≡ b → ⊥
      go true q = none_here (rw (q, h, ne_eqb offset f.offset d) at e)
      go false q = none_here (rw q at e)

  -- and where none stands there, the object, the entry or the offset is another
  not_here : (Here → ⊥) → WrongFrame file l f
  unfolding stands_in kept_from stands_at stands_from length_of
  not_here h = go (ltb f.object l.count) refl (entry_at file l f.object) refl
    where
      kept : f.object < l.count → (offset : ℕ) → entry_at file l f.object ≡ Some offset → (b : Bool) → eqb offset f.offset ≡ b → WrongFrame file l f
      kept c offset e true q = other_object (λ g. h (rw (lt-ltb _ _ c, e, q) (rw (lt-ltb _ _ c, e) at g)))
      kept c offset e false q = other_offset offset e (eqb-false _ _ q)

      go : (b : Bool) → ltb f.object l.count ≡ b → (x : Option ℕ) → entry_at file l f.object ≡ x → WrongFrame file l f
      go false q x e = other_object (λ g. none_here (rw q at g))
      go true q None e = own_entry (ltb-true _ _ q) e
      go true q (Some offset) e = kept (ltb-true _ _ q) offset e (eqb offset f.offset) refl

  frame_then : WrongFrame file l f → follow (source_of file l) r (due_of file l f) ≡ wrong_file r
  unfolding follow source_of given arrive look_of look_from stands_in kept_from length_of
  frame_then w = go (same_length (length_of (stands_in file l f).container) f.length) w
    where
      go : Here ⊎ (Here → ⊥) → WrongFrame file l f → follow (source_of file l) r (due_of file l f) ≡ wrong_file r
      go (inr h) w = rw (due_none file l f h)
      go (inl e) (other_object h) = absurd (h (rw (← kept_stands file l f e) e))
      go (inl e) (too_far h) = rw (due_entry file l f e, element_past at es f.position h)
      go (inl e) (reference h) = rw (due_entry file l f e, element_at at es f.position None h)
      go (inl e) (own_entry c h) =
          none_here (rw (lt-ltb _ _ c, h) at e)
      go (inl e) (other_offset offset h d) = absurd (here_kept e offset h d)
      go (inl e) (named_entry n h c q) = rw (due_entry file l f e, element_at at es f.position (Some n) h, lt-ltb _ _ c, q)

  frame_only : Says17 (follow (source_of file l) r (due_of file l f)).answer → WrongFrame file l f
  unfolding follow source_of given
  frame_only s = go (same_length (length_of (stands_in file l f).container) f.length)
    where
      entry : Here → (e : Option ℕ) → get_elem? es f.position ≡ some e → WrongFrame file l f
      entry h None g = reference g
      entry h (Some n) g =
          let t : Says17 (arrive r n (look_of file l n)).answer = rw (due_entry file l f h, element_at at es f.position (Some n) g) at s in
          let k = arrive_only file l r n (look_of file l n) (look_right file l n) t in
          named_entry n g k.0 k.1

      place : Here → (a : Bool) → eqb f.position (length es) ≡ a → (b : Bool) → ltb f.position (length es) ≡ b → WrongFrame file l f
      place h true p b q = absurd (rw (due_entry file l f h, element_end at es f.position (eqb-true _ _ p)) at s)
      place h false p true q = let x = element es f.position (ltb-true _ _ q) in entry h x.0 x.1
      place h false p false q =
          let d : f.position ≡ length es → ⊥ = eqb-false _ _ p in
          let m : length es ≤ f.position = ltb-false _ _ q in
          too_far (omega arith)

      go : Here ⊎ (Here → ⊥) → WrongFrame file l f
      go (inl h) = place h (eqb f.position (length es)) refl (ltb f.position (length es)) refl
      go (inr h) = not_here h

module _ (file : List ℕ) (r : Reader) where
  -- a state with something open
  module _ (old : r.fresh ≡ false) (some_open : 0 < r.depth) (short : length file ≤ max_length) where
    no_refs : (s : Option Width) → go_on file r s None ≡ wrong_file r
    unfolding go_on with_refs
    no_refs (Some w) = refl
    no_refs None = refl

    kept : r.length ≡ length file → r.depth ≤ max_open → WrongState file r → next_of file r ≡ wrong_file r
    unfolding go_on
    kept e h (other_length d) = absurd (d e)
    kept e h (too_many m) = absurd (omega arith)
    kept e h (offset_size q) = next_on file r old (λ z. omega arith) short e h ∙ rw q
    kept e h (ref_size q) = next_on file r old (λ z. omega arith) short e h ∙ rw q (no_refs (width_of r.offsets))
    kept e h (frame l k w) =
        next_due file r old (λ z. omega arith) short e h l k.offsets k.refs k.count k.table ∙ frame_then file l r w

    open_then : WrongState file r → next_of file r ≡ wrong_file r
    open_then w = go (same_or_not r.length (length file)) (ltb max_open r.depth) refl
      where
        go : (r.length ≡ length file) ⊎ (r.length ≡ length file → ⊥) → (b : Bool) → ltb max_open r.depth ≡ b → next_of file r ≡ wrong_file r
        go (inr d) b q = next_other file r old (λ z. omega arith) short d
        go (inl e) true q = next_many file r old (λ z. omega arith) short e (ltb-true _ _ q)
        go (inl e) false q = kept e (ltb-false _ _ q) w

    open_only : Says17 (next_of file r).answer → WrongState file r
    open_only s = go (same_or_not r.length (length file)) (ltb max_open r.depth) refl
      where
        sized : r.length ≡ length file → r.depth ≤ max_open → (a : Option Width) → width_of r.offsets ≡ a → (b : Option Width) → width_of r.refs ≡ b → WrongState file r
        sized e h None p b q = offset_size p
        sized e h (Some o) p None q = ref_size q
        sized e h (Some o) p (Some w) q =
            let l : Layout = record { offsets = o; refs = w; count = r.count; table = r.table } in
            let d = next_due file r old (λ z. omega arith) short e h l p q refl refl in
            frame l (record { offsets = p; refs = q; count = refl; table = refl }) (frame_only file l r (rw d at s))

        go : (r.length ≡ length file) ⊎ (r.length ≡ length file → ⊥) → (b : Bool) → ltb max_open r.depth ≡ b → WrongState file r
        go (inr d) b q = other_length d
        go (inl e) true q = too_many (ltb-true _ _ q)
        go (inl e) false q = sized e (ltb-false _ _ q) (width_of r.offsets) refl (width_of r.refs) refl

  -- a fresh one never answers 17
  begin_never : (x : Trailer) → Tells file x → Says17 (begin file r x).answer → ⊥
  unfolding begin
  begin_never (keeps number values place) k h = among_not file_refusals number 17 (keeps_refusal number k) not_file_17 h
  begin_never (ends number values place) k h = among_not file_refusals number 17 (ends_refusal number k) not_file_17 h
  begin_never (lays l root) k h =
      let t = arrive_only file l (laid_out file l) root (look_of file l root) (look_right file l root) h in
      let e : None ≡ Some _ = sym t.1 ∙ entry_there file l k.laid root t.0 in
      let z : ◌≡◌ {A = ℕ} 0 1 = cc in
      omega arith

  fresh_never : r.fresh ≡ true → Says17 (next_of file r).answer → ⊥
  unfolding trailer_in begin
  fresh_never e s = go (ltb max_length (length file)) refl
    where
      go : (b : Bool) → ltb max_length (length file) ≡ b → ⊥
      go true q = let z : ◌≡◌ {A = ℕ} 1 17 = rw (next_begin file r e, q) at s in omega arith
      go false q = begin_never (trailer_of file) (tells file) (rw (next_begin file r e, q) at s)

  -- 17 comes only of a wrong call, whatever its values and its place
  pub wrong_only : (values : List ℕ) (place : ℕ) → (next_of file r).answer ≡ refused 17 values place → WrongCall file r
  wrong_only values place a = go r.fresh refl (eqb r.depth 0) refl (ltb max_length (length file)) refl
    where
      s : Says17 (next_of file r).answer
      s = says (next_of file r).answer values place a

      go : (b : Bool) → r.fresh ≡ b → (c : Bool) → eqb r.depth 0 ≡ c → (d : Bool) → ltb max_length (length file) ≡ d → WrongCall file r
      go true e c g d q = absurd (fresh_never e s)
      go false e true g d q = absurd (rw (next_ended file r e (eqb-true _ _ g)) at s)
      go false e false g true q =
          let z : ◌≡◌ {A = ℕ} 1 17 = rw (next_long file r e (eqb-false _ _ g) (ltb-true _ _ q)) at s in
          absurd (omega arith)
      go false e false g false q =
          let n : r.depth ≡ 0 → ⊥ = eqb-false _ _ g in
          let h : 0 < r.depth = omega arith in
          record { old = e; some_open = h; short = ltb-false _ _ q; wrong = open_only e h (ltb-false _ _ q) s }

  -- and each wrong call answers it, with the place 0 and the state unchanged
  pub wrong_then : WrongCall file r → next_of file r ≡ wrong_file r
  wrong_then w = open_then w.old w.some_open w.short w.wrong

  pub wrong_exactly : ((next_of file r).answer ≡ refused 17 [] 0) ↔ WrongCall file r
  wrong_exactly = (wrong_only [] 0, λ w. ap (λ (s : Step). s.answer) (wrong_then w))
