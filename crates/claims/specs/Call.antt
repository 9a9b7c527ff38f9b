-- What a call does, case by case: of a fresh reader, and of one with an open container.
use Rattle.std.specs.Prelude.{Bool, List, [], ◌≡◌, ℕ, ◌-◌, ◌≤◌, ◌<◌, ltb}
use Rattle.std.proofs.Math.Bool.{true, false}
use Rattle.std.proofs.Math.Path.{refl}
use Rattle.std.proofs.Common.{◌∙◌, arith, leb-true, leb-false, ltb-false}
use Rattle.std.proofs.Math.Dec.{leb}
use Rattle.std.proofs.Math.ListN.{length}
use Rattle.number.specs.Among.{among}
use Rattle.number.specs.WidthLaws.{allowed}
use Rattle.event.specs.declared.Event.{Event}
use Rattle.event.specs.declared.Event.TheVariants.{EndCollection}
use Rattle.layout.specs.FoundLaws.{refs_of}
use Rattle.layout.specs.LookLaws.{LookedRight, look_right, Laid, never_missing}
use Rattle.layout.specs.Refusals.{file_refusals, file_refusal, keeps_refusal, ends_refusal, long_refusal}
use Rattle.layout.specs.TrailerLaws.{Tells, tells}
use Rattle.layout.specs.Layout.{due_of, look_of, source_of}
use Rattle.layout.specs.Looked.{Looked, barred, missing, faulty, scalar, container, Shape, start_of}
use Rattle.layout.specs.Trailer.{Trailer, keeps, ends, lays, trailer_of, trailer_in}
use Rattle.layout.specs.declared.layout.Due.TheVariants.{Member}
use Rattle.layout.specs.declared.layout.Layout.{Layout}
use Rattle.reader.specs.Machine.{origin, event_at, refused, step, refuse, enter, arrive, follow, step_of}
use Rattle.reader.specs.Next.{laid_out, begin, with_refs, go_on, next_of}
use Rattle.reader.specs.NextLaws.{next_begin, next_on}
use Rattle.reader.specs.State.{max_open, max_length, fresh_reader, ended_reader, open_of, innermost, member_of, passed, entered, closed}
use Rattle.reader.specs.declared.state.Reader.{Reader}
use Rattle.claims.specs.Due.{Pending, end, reference}
use Rattle.claims.specs.Open.{Opened, opened_pending, Open}

-- a call of a reader with an open container
pub data Call (file : List ℕ) (l : Layout) (r : Reader) : Type 0 where
  closing : next_of file r ≡ step (closed r) (event_at EndCollection (origin (innermost r).object (innermost r).offset)) → Call file l r
  refusing : (number : ℕ) (values : List ℕ) (place : ℕ) → among file_refusals number ≡ true → next_of file r ≡ refuse number values place → Call file l r
  passing : (n : ℕ) → due_of file l (innermost r) ≡ Member n → (e : Event) (offset : ℕ) → look_of file l n ≡ scalar e offset
      → next_of file r ≡ step (passed r offset) (event_at e (origin n offset)) → Call file l r
  again : (n : ℕ) → due_of file l (innermost r) ≡ Member n → member_of (open_of r) n ≡ true
      → (offset : ℕ) → next_of file r ≡ refuse 14 [] offset → Call file l r
  deep : (n : ℕ) → due_of file l (innermost r) ≡ Member n → member_of (open_of r) n ≡ false → n < l.count → max_open ≤ r.depth
      → (offset : ℕ) → next_of file r ≡ refuse 15 [] offset → Call file l r
  entering : (n : ℕ) → due_of file l (innermost r) ≡ Member n → member_of (open_of r) n ≡ false → r.depth < max_open
      → (s : Shape) (k offset : ℕ) → look_of file l n ≡ container s k offset
      → next_of file r ≡ step (entered r n k offset) (event_at (start_of s k) (origin n offset)) → Call file l r

module _ (file : List ℕ) (r : Reader) (o : Open file r) where
  -- the sizes, the count and the table that are kept are the trailer's, so the call goes by what is due under its layout
  pub next_follow : next_of file r ≡ follow (source_of file o.layout) r (due_of file o.layout (innermost r))
  unfolding go_on with_refs step_of source_of
  next_follow =
      next_on file r o.old (λ e. omega arith) o.short o.sized o.stack.few
      ∙ rw (o.offsets, o.refs, allowed o.layout.offsets, allowed o.layout.refs, o.count, o.table)

  pub inner : Opened file o.layout (innermost r)
  unfolding innermost
  inner = o.stack.opened (r.depth - 1) (omega arith)

  enter_call : (n : ℕ) → due_of file o.layout (innermost r) ≡ Member n → (s : Shape) (k offset : ℕ) → look_of file o.layout n ≡ container s k offset
      → n < o.layout.count → next_of file r ≡ enter r n s k offset → Call file o.layout r
  unfolding enter
  enter_call n d s k offset e c h = go (member_of (open_of r) n) refl (leb max_open r.depth) refl
    where
      go : (m : Bool) → member_of (open_of r) n ≡ m → (t : Bool) → leb max_open r.depth ≡ t → Call file o.layout r
      go true f t g = again n d f offset (h ∙ rw f)
      go false f true g = deep n d f c (leb-true _ _ g) offset (h ∙ rw (f, g))
      go false f false g = entering n d f (leb-false _ _ g) s k offset e (h ∙ rw (f, g))

  arrive_call : (n : ℕ) → due_of file o.layout (innermost r) ≡ Member n → (x : Looked) → look_of file o.layout n ≡ x → LookedRight file o.layout n x
      → next_of file r ≡ arrive r n x → Call file o.layout r
  unfolding arrive
  arrive_call n d (barred number values) e k h = refusing number values r.place (file_refusal number k) h
  arrive_call n d missing e k h = absurd (never_missing file o.layout o.laid n e)
  arrive_call n d (faulty number values place) e k h = refusing number values place (file_refusal number k) h
  arrive_call n d (scalar v offset) e k h = passing n d v offset e h
  arrive_call n d (container s k offset) e st h = enter_call n d s k offset e st.numbered h

  pub call : Call file o.layout r
  unfolding follow source_of
  call = go (opened_pending inner)
    where
      go : Pending file o.layout (innermost r) (refs_of inner.shape (innermost r).length) (innermost r).offset → Call file o.layout r
      go (end e) = closing (next_follow ∙ rw e)
      go (reference k n e) = arrive_call n e (look_of file o.layout n) refl (look_right file o.layout n) (next_follow ∙ rw e)

-- the first call
pub data First (file : List ℕ) : Type 0 where
  keeping : (number : ℕ) (values : List ℕ) (place : ℕ) → among file_refusals number ≡ true → next_of file fresh_reader ≡ step fresh_reader (refused number values place) → First file
  refusing : (number : ℕ) (values : List ℕ) (place : ℕ) → among file_refusals number ≡ true → next_of file fresh_reader ≡ refuse number values place → First file
  passing : length file ≤ max_length → (l : Layout) (root : ℕ) → trailer_of file ≡ lays l root → (e : Event) (offset : ℕ) → look_of file l root ≡ scalar e offset
      → next_of file fresh_reader ≡ step ended_reader (event_at e (origin root offset)) → First file
  entering : length file ≤ max_length → (l : Layout) (root : ℕ) → trailer_of file ≡ lays l root → (s : Shape) (k offset : ℕ) → look_of file l root ≡ container s k offset
      → next_of file fresh_reader ≡ step (entered (laid_out file l) root k offset) (event_at (start_of s k) (origin root offset)) → First file

module _ (file : List ℕ) where
  first_arrive : length file ≤ max_length → (l : Layout) (root : ℕ) → trailer_of file ≡ lays l root → Laid file l → (x : Looked) → look_of file l root ≡ x → LookedRight file l root x
      → next_of file fresh_reader ≡ arrive (laid_out file l) root x → First file
  unfolding arrive enter passed laid_out open_of member_of
  first_arrive t l root s d (barred number values) e k h = refusing number values (laid_out file l).place (file_refusal number k) h
  first_arrive t l root s d missing e k h = absurd (never_missing file l d root e)
  first_arrive t l root s d (faulty number values place) e k h = refusing number values place (file_refusal number k) h
  first_arrive t l root s d (scalar v offset) e k h = passing t l root s v offset e h
  first_arrive t l root s d (container shape k offset) e st h = entering t l root s shape k offset e h

  pub first : First file
  unfolding begin trailer_in
  first = go (ltb max_length (length file)) refl
    where
      trail : length file ≤ max_length → (x : Trailer) → trailer_of file ≡ x → Tells file x → next_of file fresh_reader ≡ begin file fresh_reader x → First file
      trail t (keeps number values place) e k h = keeping number values place (keeps_refusal number k) h
      trail t (ends number values place) e k h = refusing number values place (ends_refusal number k) h
      trail t (lays l root) e k h = first_arrive t l root e k.laid (look_of file l root) refl (look_right file l root) h

      go : (b : Bool) → ltb max_length (length file) ≡ b → First file
      go true e = keeping 1 [] 0 long_refusal (next_begin file fresh_reader refl ∙ rw e)
      go false e = trail (ltb-false _ _ e) (trailer_of file) refl (tells file) (next_begin file fresh_reader refl ∙ rw e)
