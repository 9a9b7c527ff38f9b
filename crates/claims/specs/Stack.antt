-- Handing out a reference, entering a container and closing one keep what holds of the open containers.
use Rattle.std.specs.Prelude.{Bool, true, false, List, ◌⊎◌, ◌≡◌, refl, ℕ, zero, suc, ◌+◌, ◌-◌, ◌≤◌, ◌<◌, eqb, get_or, set, replicate}
use Rattle.std.proofs.Common.{inl, inr, ap, ◌∙◌, arith, eqb-true, lit<, lit≤, length-set, get_or-set_same, get_or-set_other}
use Rattle.std.proofs.lemmas.Bool.{eqb-false}
use Rattle.layout.specs.FoundLaws.{refs_of}
use Rattle.layout.specs.LookLaws.{standing}
use Rattle.layout.specs.Layout.{due_of, look_of}
use Rattle.layout.specs.Looked.{container, Shape}
use Rattle.layout.specs.Frame.{new_frame, at_position, no_frame, next_in}
use Rattle.layout.specs.declared.layout.Due.TheVariants.{Member}
use Rattle.layout.specs.declared.layout.Layout.{Layout}
use Rattle.layout.specs.declared.frame.Frame.{Frame}
use Rattle.reader.specs.State.{max_open}
use Rattle.claims.specs.Due.{Pending, end, reference}
use Rattle.claims.specs.Open.{frame_at, before, Opened, opened_pending, Stack}

pub same_or_not : (i j : ℕ) → (i ≡ j) ⊎ (i ≡ j → ⊥)
same_or_not i j = go (eqb i j) refl
  where
    go : (b : Bool) → eqb i j ≡ b → (i ≡ j) ⊎ (i ≡ j → ⊥)
    go true e = inl (eqb-true _ _ e)
    go false e = inr (eqb-false _ _ e)

-- where a reference is due, the position is below the number of references
pub due_below : (file : List ℕ) (l : Layout) (f : Frame) (t : Opened file l f) (n : ℕ) → due_of file l f ≡ Member n → f.position < refs_of t.shape f.length
due_below file l f t n due = go (opened_pending t)
  where
    go : Pending file l f (refs_of t.shape f.length) f.offset → f.position < refs_of t.shape f.length
    go (end e) = let z : ◌≡◌ {A = ℕ} 0 1 = cc in absurd (omega arith)
    go (reference k m e) = k

pub before_next : (f : Frame) → before (next_in f) ≡ f
unfolding before next_in
before_next f = ap (at_position f) (let e : f.position + 1 - 1 ≡ f.position = omega arith in e)

pub next_position : (f : Frame) → (next_in f).position ≡ f.position + 1
unfolding next_in
next_position f = refl

module _ (file : List ℕ) (l : Layout) (root depth : ℕ) (frames : List Frame) (o : Stack file l root depth frames) where
  abbrev top : Frame
  top = frame_at frames (depth - 1)

  pub top_opened : Opened file l top
  top_opened = o.opened (depth - 1) (omega arith)

  -- a reference was handed out
  module _ (n : ℕ) (due : due_of file l top ≡ Member n) where
    abbrev on : List Frame
    on = set frames (depth - 1) (next_in top)

    pub on_top : frame_at on (depth - 1) ≡ next_in top
    on_top = get_or-set_same frames (depth - 1) (next_in top) no_frame (omega arith)

    pub on_other : (i : ℕ) → (i ≡ depth - 1 → ⊥) → frame_at on i ≡ frame_at frames i
    on_other i h = get_or-set_other frames (depth - 1) i (next_in top) no_frame h

    pub on_object : (i : ℕ) → (frame_at on i).object ≡ (frame_at frames i).object
    unfolding next_in
    on_object i = go (same_or_not i (depth - 1))
      where
        go : (i ≡ depth - 1) ⊎ (i ≡ depth - 1 → ⊥) → (frame_at on i).object ≡ (frame_at frames i).object
        go (inl e) = rw (e, on_top)
        go (inr h) = rw (on_other i h)

    opened_next : Opened file l (next_in top)
    unfolding next_in
    opened_next =
        let t = top_opened in
        record { shape = t.shape; look = t.look; standing = t.standing; within = omega (arith, due_below file l top t n due) }

    opened_on : (i : ℕ) → i < depth → Opened file l (frame_at on i)
    opened_on i h = go (same_or_not i (depth - 1))
      where
        go : (i ≡ depth - 1) ⊎ (i ≡ depth - 1 → ⊥) → Opened file l (frame_at on i)
        go (inl e) = rw (e, on_top) opened_next
        go (inr k) = rw (on_other i k) (o.opened i h)

    pub stack_on : Stack file l root depth on
    stack_on =
        record {
          some = o.some;
          few = o.few;
          room = rw length-set o.room;
          clear = λ i h. rw (on_other i (λ e. omega arith)) (o.clear i h);
          opened = opened_on;
          outermost = rw (on_object 0) o.outermost;
          handed = λ i h. rw (on_other i (λ e. omega arith)) (o.handed i h);
          named = λ i h. rw (on_other i (λ e. omega arith), on_object (suc i)) (o.named i h);
          distinct = λ i j h k e. o.distinct i j h k (rw (on_object i, on_object j) at e);
        }

  -- the innermost container was closed, and another is open
  module _ (more : 1 < depth) where
    abbrev off : List Frame
    off = set frames (depth - 1) no_frame

    pub off_other : (i : ℕ) → i < depth - 1 → frame_at off i ≡ frame_at frames i
    off_other i h = get_or-set_other frames (depth - 1) i no_frame no_frame (λ e. omega arith)

    clear_off : (i : ℕ) → depth - 1 ≤ i → frame_at off i ≡ no_frame
    clear_off i h = go (same_or_not i (depth - 1))
      where
        go : (i ≡ depth - 1) ⊎ (i ≡ depth - 1 → ⊥) → frame_at off i ≡ no_frame
        go (inl e) = rw e (get_or-set_same frames (depth - 1) no_frame no_frame (omega arith))
        go (inr d) = get_or-set_other frames (depth - 1) i no_frame no_frame d ∙ o.clear i (omega arith)

    pub stack_off : Stack file l root (depth - 1) off
    stack_off =
        record {
          some = omega arith;
          few = omega arith;
          room = rw length-set o.room;
          clear = clear_off;
          opened = λ i h. rw (off_other i h) (o.opened i (omega arith));
          outermost = rw (off_other 0 (omega arith)) o.outermost;
          handed = λ i h. rw (off_other i (omega arith)) (o.handed i (omega arith));
          named = λ i h. rw (off_other i (omega arith), off_other (suc i) h) (o.named i (omega arith));
          distinct = λ i j a b e. o.distinct i j a (omega arith) (rw (off_other i (omega arith), off_other j b) at e);
        }

-- a container that was looked up, as it is entered
pub opened_new : (file : List ℕ) (l : Layout) (n : ℕ) (s : Shape) (k offset : ℕ) → look_of file l n ≡ container s k offset → Opened file l (new_frame n k offset)
opened_new file l n s k offset look = record { shape = s; look = look; standing = standing file l n s k offset look; within = omega arith }

-- a container was entered, the reference that the innermost one handed out last
module _ (file : List ℕ) (l : Layout) (root depth : ℕ) (frames : List Frame) (o : Stack file l root depth frames) (new : Frame) (opened_it : Opened file l new)
    (other : (i : ℕ) → i < depth → (frame_at frames i).object ≡ new.object → ⊥) (gone : 0 < (frame_at frames (depth - 1)).position)
    (last : due_of file l (before (frame_at frames (depth - 1))) ≡ Member new.object) (below : depth < max_open) where
  abbrev onto : List Frame
  onto = set frames depth new

  pub onto_new : frame_at onto depth ≡ new
  onto_new = get_or-set_same frames depth new no_frame (omega arith)

  pub onto_other : (i : ℕ) → (i ≡ depth → ⊥) → frame_at onto i ≡ frame_at frames i
  onto_other i h = get_or-set_other frames depth i new no_frame h

  opened_onto : (i : ℕ) → i < depth + 1 → Opened file l (frame_at onto i)
  opened_onto i h = go (same_or_not i depth)
    where
      go : (i ≡ depth) ⊎ (i ≡ depth → ⊥) → Opened file l (frame_at onto i)
      go (inl e) = rw (e, onto_new) opened_it
      go (inr d) = rw (onto_other i d) (o.opened i (omega arith))

  handed_onto : (i : ℕ) → suc i < depth + 1 → 0 < (frame_at onto i).position
  handed_onto i h = rw (onto_other i (λ e. omega arith)) (go (same_or_not (suc i) depth))
    where
      go : (suc i ≡ depth) ⊎ (suc i ≡ depth → ⊥) → 0 < (frame_at frames i).position
      go (inl e) = let t : i ≡ depth - 1 = omega arith in rw t gone
      go (inr d) = o.handed i (omega arith)

  named_onto : (i : ℕ) → suc i < depth + 1 → due_of file l (before (frame_at onto i)) ≡ Member (frame_at onto (suc i)).object
  named_onto i h = rw (onto_other i (λ e. omega arith)) (go (same_or_not (suc i) depth))
    where
      go : (suc i ≡ depth) ⊎ (suc i ≡ depth → ⊥) → due_of file l (before (frame_at frames i)) ≡ Member (frame_at onto (suc i)).object
      go (inl e) = let t : i ≡ depth - 1 = omega arith in rw (e, onto_new, t) last
      go (inr d) = rw (onto_other (suc i) d) (o.named i (omega arith))

  distinct_onto : (i j : ℕ) → i < j → j < depth + 1 → (frame_at onto i).object ≡ (frame_at onto j).object → ⊥
  distinct_onto i j a b e = go (same_or_not j depth)
    where
      go : (j ≡ depth) ⊎ (j ≡ depth → ⊥) → ⊥
      go (inl q) = other i (omega arith) (rw (onto_other i (λ w. omega arith), q, onto_new) at e)
      go (inr d) = o.distinct i j a (omega arith) (rw (onto_other i (λ w. omega arith), onto_other j d) at e)

  pub stack_onto : Stack file l root (depth + 1) onto
  stack_onto =
      record {
        some = omega arith;
        few = omega arith;
        room = rw length-set o.room;
        clear = λ i h. rw (onto_other i (λ e. omega arith)) (o.clear i (omega arith));
        opened = opened_onto;
        outermost = rw (onto_other 0 (λ e. omega arith)) o.outermost;
        handed = handed_onto;
        named = named_onto;
        distinct = distinct_onto;
      }

blank : (n i : ℕ) → get_or (replicate n no_frame) i no_frame ≡ no_frame
blank zero i = refl
blank (suc n) zero = refl
blank (suc n) (suc i) = blank n i

-- the root was entered
module _ (file : List ℕ) (l : Layout) (root k offset : ℕ) (opened_root : Opened file l (new_frame root k offset)) where
  abbrev root_frame : Frame
  root_frame = new_frame root k offset

  pub stack_root : Stack file l root 1 (set (replicate max_open no_frame) 0 root_frame)
  stack_root =
      record {
        some = lit< tt;
        few = lit≤ tt;
        room = refl;
        clear = λ i h. get_or-set_other (replicate max_open no_frame) 0 i root_frame no_frame (λ e. omega arith) ∙ blank max_open i;
        opened = λ i h. let e : i ≡ 0 = omega arith in rw e opened_root;
        outermost = refl;
        handed = λ i h. absurd (omega arith);
        named = λ i h. absurd (omega arith);
        distinct = λ i j a b e. omega arith;
      }
