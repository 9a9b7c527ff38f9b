-- What one turn of the walk does to what is left of a run.
use mathlib.Core.Bool.{true, false}
use mathlib.Core.List.{List, []}
use mathlib.Core.Path.{◌≡◌, refl, sym, ap, ◌∙◌}
use Prim.Native.Nat.{ℕ, zero, suc, ◌+◌, ◌-◌, ◌<◌, ◌≤◌, ◌^◌}
use native.Mathlib.Omega.{arith}
use borrow.Author.Tests.{eq-eqb, ne_eqb, le-leb, lt-leb}
use lib.Dec.{lit<}
use lib.ListN.{length, replicate, set, get_or, take, length-set}
use lib.Seq.{set-set, get_or-set_same}
use Rattle.number.specs.Among.{among}
use Rattle.number.specs.WidthLaws.{allowed}
use Rattle.event.specs.Meaning.{meaning_of}
use Rattle.event.specs.declared.Event.{Event}
use Rattle.event.specs.declared.Event.TheVariants.{EndCollection}
use Rattle.object.specs.Container.{container_at}
use Rattle.object.specs.declared.container.Container.{Container}
use Rattle.layout.specs.Layout.{due_of, look_of, stands_in, source_of}
use Rattle.layout.specs.LookLaws.{look_right, looked_in}
use Rattle.layout.specs.Looked.{Shape, Looked, with_place, faulty, scalar, container, start_of}
use Rattle.layout.specs.Bytes.{has_bytes, looked_bytes}
use Rattle.layout.specs.LookLaws.{bare_plain}
use Rattle.layout.specs.Frame.{new_frame, no_frame, next_in}
use Rattle.layout.specs.declared.layout.Due.{Due}
use Rattle.layout.specs.declared.layout.Due.TheVariants.{Wrong, Close, Member}
use Rattle.layout.specs.declared.layout.Layout.{Layout}
use Rattle.layout.specs.declared.layout.Standing.{Standing}
use Rattle.layout.specs.declared.frame.Frame.{Frame}
use Rattle.layout.proofs.Counts.{counted, numbered, measured, stands_before}
use Rattle.layout.specs.Refusals.{file_refusals}
use Rattle.layout.specs.Said.{span_said}
use Rattle.layout.specs.declared.lookup.Span.{Span}
use Rattle.reader.specs.Machine.{Step, Origin, origin, event_at, step, enter, arrive, follow}
use Rattle.reader.specs.Machine as reader
use Rattle.reader.specs.Next.{laid_out}
use Rattle.reader.specs.NextLaws.{next_due, arrive_refused, arrive_missing}
use Rattle.reader.specs.State.{max_open, max_length, ended_reader, innermost, open_of, member_of, advanced, passed, entered, closed}
use Rattle.reader.specs.declared.state.Reader.{Reader}
use Rattle.tape.specs.Append.{append_of, append_to}
use Rattle.transcribe.specs.Note.{Noted, kept, noting, from_tape, note_of}
use Rattle.transcribe.specs.Run.{End, refused, Run, run, run_of, onward, end_of, finished_of}
use Rattle.transcribe.specs.RunLaws.{run_onward}
use Rattle.transcribe.specs.Said.{fail_said}
use Rattle.transcribe.specs.HandedLaws.{scalar_given, start_bare}
use Rattle.transcribe.specs.Walk.{Notable, Below, due_now, within}
use Rattle.transcribe.specs.declared.note.Failure.{Failure}
use Rattle.transcribe.proofs.Listed.{Listed, listed_member, onward_listed, close_listed, enter_listed}
use Rattle.transcribe.proofs.Calls.{plain_noted, call_refused, call_kept, call_failed, run_ended}

-- where the innermost of these containers stands
abbrev pub inner_stands : List ℕ → Layout → ℕ → List Frame → Standing
inner_stands file l depth frames = stands_in file l (get_or frames (depth - 1) no_frame)

-- what was looked at is that, unless nothing is open
abbrev pub Stands : List ℕ → Layout → Standing → ℕ → List Frame → Type 0
Stands file l standing depth frames = (depth ≡ 0 → ⊥) → standing ≡ inner_stands file l depth frames

module _ (file : List ℕ) (l : Layout) (root : ℕ) where
  -- the call that is made with these containers open
  unfoldable pub call_of : ℕ → ℕ → List Frame → Step
  call_of place depth frames =
      follow (source_of file l) (within file l place depth frames) (due_now file l root depth (get_or frames (depth - 1) no_frame) (inner_stands file l depth frames))

  -- what is left of a run then
  abbrev pub left_of : ℕ → List ℕ → List ℕ → ℕ → ℕ → ℕ → List Frame → Run
  left_of n scratch tape held place depth frames = onward n file scratch tape held (call_of place depth frames)

  -- at first the root is due
  pub call_root : call_of l.table 0 (replicate max_open no_frame) ≡ arrive (laid_out file l) root (look_of file l root)
  unfolding call_of follow source_of due_now within laid_out
  call_root = refl

  -- the innermost container goes on and another one opens; with nothing open the first frame is written over
  over : (place depth : ℕ) (frames : List Frame) (x : Frame) → set (advanced (within file l place depth frames)) depth x ≡ set (set frames (depth - 1) (next_in (get_or frames (depth - 1) no_frame))) depth x
  unfolding advanced innermost within
  over place zero frames x = sym (set-set frames 0 _ x)
  over place (suc depth) frames x = rw (ne_eqb (suc depth) 0 (λ e. omega arith))

  run_open : length file ≤ max_length → (n : ℕ) (scratch tape : List ℕ) (held place depth : ℕ) (frames : List Frame) → (depth ≡ 0 → ⊥) → depth ≤ max_open → run_of n file scratch tape held (within file l place depth frames) ≡ left_of n scratch tape held place depth frames
  unfolding within innermost call_of due_now due_of
  run_open short n scratch tape held place depth frames some fits =
      run_onward n file scratch tape held (within file l place depth frames) ∙
      ap (onward n file scratch tape held) (next_due file (within file l place depth frames) refl some short refl fits l (allowed l.offsets) (allowed l.refs) refl refl ∙ rw (ne_eqb _ _ some))

-- a turn: something is left, and the innermost frame is the one at `top`, of a container that stands there. What is left is the whole run
-- that the walk began with
pub record Turn : Type 0 where
  pub file : List ℕ
  pub layout : Layout
  pub root : ℕ
  pub left : ℕ
  pub scratch : List ℕ
  pub tape : List ℕ
  pub held : ℕ
  pub place : ℕ
  pub depth : ℕ
  pub frames : List Frame
  pub numbers : List ℕ
  pub above : ℕ
  pub top : ℕ
  pub standing : Standing
  pub whole : Run
  pub short : length file ≤ max_length
  pub few : layout.count < 2 ^ 32
  pub some : 0 < left
  pub fits : depth ≤ max_open
  pub first : depth ≡ 0 → frames ≡ replicate max_open no_frame
  pub is : left_of file layout root left scratch tape held place depth frames ≡ whole
  pub long : length frames ≡ max_open
  pub at : top ≡ depth - 1
  pub stands : Stands file layout standing depth frames
  pub many : length numbers ≡ max_open
  pub listed : Listed depth frames numbers
  pub below : Below above (take depth numbers)

module _ (x : Turn) where
  abbrev reads : Reader
  reads = within x.file x.layout x.place x.depth x.frames

  abbrev pub due : Due
  due = due_now x.file x.layout x.root x.depth (get_or x.frames x.top no_frame) x.standing

  abbrev call : Step
  call = call_of x.file x.layout x.root x.place x.depth x.frames

  abbrev pub looked : ℕ → Looked
  looked object = look_of x.file x.layout object

  -- what noting an event answers
  abbrev pub Notes : Event → ℕ → Noted → List ℕ → List ℕ → Type 0
  Notes e offset y t s = noting y t s ≡ note_of x.file x.scratch x.tape x.held e offset

  -- where the run ends, and where it goes on
  abbrev pub Ends : End → ℕ → List ℕ → List ℕ → Type 0
  Ends e held tape scratch = run e held tape scratch ≡ x.whole

  abbrev pub Goes : List ℕ → List ℕ → ℕ → ℕ → ℕ → List Frame → Type 0
  Goes scratch tape held place depth frames = left_of x.file x.layout x.root (x.left - 1) scratch tape held place depth frames ≡ x.whole

  refuses : (number : ℕ) (values : List ℕ) (place : ℕ) → call.answer ≡ reader.refused number values place → Ends (refused number values place) x.held x.tape x.scratch
  refuses number values place e = sym (call_refused x.left x.file x.scratch x.tape x.held x.some call number values place e) ∙ x.is

  module _ (r : Reader) (e : Event) (o : Origin) (answers : call ≡ step r (event_at e o)) (y : Noted) (t s : List ℕ) (notes : Notes e o.offset y t s) where
    fails : (f : Failure) → y ≡ fail_said f → Ends (end_of (fail_said f)) x.held t s
    fails f k = sym (rw answers (call_failed x.left x.file x.scratch x.tape x.held x.some _ e o refl y t s notes f k)) ∙ x.is

    is_kept : (m : ℕ) → y ≡ kept m → run_of (x.left - 1) x.file s t m r ≡ x.whole
    is_kept m k = sym (rw answers (call_kept x.left x.file x.scratch x.tape x.held x.some _ e o refl y t s notes m k)) ∙ x.is

    -- the reader has ended
    finishes : r ≡ ended_reader → (m : ℕ) → y ≡ kept m → Ends (finished_of (x.left - 1)) m t s
    finishes e m k = sym (run_ended (x.left - 1) x.file s t m) ∙ rw (← e) (is_kept m k)

    -- or has something open
    goes : (place depth : ℕ) (frames : List Frame) → r ≡ within x.file x.layout place depth frames → (depth ≡ 0 → ⊥) → depth ≤ max_open → (m : ℕ) → y ≡ kept m → Goes s t m place depth frames
    goes place depth frames e some fits m k =
        sym (run_open x.file x.layout x.root x.short (x.left - 1) s t m place depth frames some fits) ∙ rw (← e) (is_kept m k)

  -- what is due is what the call follows
  call_due : call ≡ follow (source_of x.file x.layout) reads due
  unfolding call_of due_now
  call_due = go x.depth refl
    where
      go : (n : ℕ) → x.depth ≡ n → call ≡ follow (source_of x.file x.layout) reads due
      go zero e = rw (eq-eqb x.depth 0 e)
      go (suc n) e = rw (x.at, x.stands (λ z. omega arith))

  pub is_wrong : due ≡ Wrong → Ends (refused 17 [] 0) x.held x.tape x.scratch
  unfolding follow
  is_wrong d = refuses 17 [] 0 (rw (call_due, d))

  -- the innermost container ends
  module _ (offset : ℕ) (d : due ≡ Close offset) (y : Noted) (t : List ℕ) (notes : y ≡ from_tape (append_of x.tape x.held (meaning_of EndCollection []))) (puts : t ≡ append_to x.tape x.held (meaning_of EndCollection [])) where
    call_close : call ≡ step (closed reads) (event_at EndCollection (origin (innermost reads).object offset))
    unfolding follow
    call_close = rw (call_due, d)

    noted_close : Notes EndCollection offset y t x.scratch
    unfolding has_bytes
    noted_close = plain_noted x.file x.scratch x.tape t x.held EndCollection offset y refl notes puts

    -- with nothing open the root is due
    some_open : x.depth ≡ 0 → ⊥
    unfolding due_now
    some_open e = let z : ◌≡◌ {A = ℕ} 0 1 = cc in omega arith

    pub close_fails : (f : Failure) → y ≡ fail_said f → Ends (end_of (fail_said f)) x.held t x.scratch
    close_fails = fails (closed reads) EndCollection (origin (innermost reads).object offset) call_close y t x.scratch noted_close

    pub close_finishes : x.top ≡ 0 → (m : ℕ) → y ≡ kept m → Ends (finished_of (x.left - 1)) m t x.scratch
    unfolding closed within
    close_finishes e =
        let z : x.depth ≡ 1 = omega (arith, x.at, some_open) in
        finishes (closed reads) EndCollection (origin (innermost reads).object offset) call_close y t x.scratch noted_close (rw (eq-eqb x.depth 1 z))

    pub close_goes : (x.top ≡ 0 → ⊥) → (m : ℕ) → y ≡ kept m → Goes x.scratch t m x.place x.top (set x.frames x.top no_frame)
    unfolding closed within
    close_goes e =
        let z : x.depth ≡ 1 → ⊥ = λ h. e (omega (arith, x.at)) in
        goes (closed reads) EndCollection (origin (innermost reads).object offset) call_close y t x.scratch noted_close x.place x.top (set x.frames x.top no_frame) (rw (ne_eqb x.depth 1 z, ← x.at)) e (omega (arith, x.at, x.fits))

  -- a member is due
  module _ (object : ℕ) (d : due ≡ Member object) where
    call_member : call ≡ arrive reads object (looked object)
    unfolding follow source_of
    call_member = rw (call_due, d)

    pub is_missing : with_place x.place (looked object) ≡ faulty 17 [] 0 → Ends (refused 17 [] 0) x.held x.tape x.scratch
    unfolding within
    is_missing f =
        let e = call_member ∙ arrive_missing x.file x.layout reads object (looked object) (look_right x.file x.layout object) f in
        refuses 17 [] 0 (ap (λ (s : Step). s.answer) e)

    pub is_refused : (number : ℕ) (values : List ℕ) (place : ℕ) → among file_refusals number ≡ true → with_place x.place (looked object) ≡ faulty number values place → Ends (refused number values place) x.held x.tape x.scratch
    unfolding within
    is_refused number values place n f =
        let e = call_member ∙ arrive_refused x.file x.layout reads object number values place n (looked object) f in
        refuses number values place (ap (λ (s : Step). s.answer) e)

    module _ (e : Event) (offset : ℕ) (f : looked object ≡ scalar e offset) (y : Noted) (t s : List ℕ) (notes : Notes e offset y t s) where
      call_scalar : call ≡ step (passed reads offset) (event_at e (origin object offset))
      unfolding arrive
      call_scalar = rw (call_member, f)

      pub scalar_fails : (f : Failure) → y ≡ fail_said f → Ends (end_of (fail_said f)) x.held t s
      scalar_fails = fails (passed reads offset) e (origin object offset) call_scalar y t s notes

      pub scalar_finishes : x.depth ≡ 0 → (m : ℕ) → y ≡ kept m → Ends (finished_of (x.left - 1)) m t s
      unfolding passed within
      scalar_finishes z = finishes (passed reads offset) e (origin object offset) call_scalar y t s notes (rw (eq-eqb x.depth 0 z))

      pub scalar_goes : (x.depth ≡ 0 → ⊥) → (m : ℕ) → y ≡ kept m → Goes s t m offset x.depth (set x.frames x.top (next_in (get_or x.frames x.top no_frame)))
      unfolding passed within advanced innermost
      scalar_goes z =
          goes (passed reads offset) e (origin object offset) call_scalar y t s notes offset x.depth (set x.frames x.top (next_in (get_or x.frames x.top no_frame))) (rw (ne_eqb x.depth 0 z, ← x.at)) z x.fits

      -- the innermost container is still the same
      pub scalar_stands : Stands x.file x.layout x.standing x.depth (set x.frames x.top (next_in (get_or x.frames x.top no_frame)))
      unfolding next_in stands_in
      scalar_stands z = rw (← x.at, get_or-set_same x.frames x.top _ no_frame (omega (arith, x.long, x.at, x.fits)), x.at) (x.stands z)

    -- a container
    module _ (shape : Shape) (k offset : ℕ) (f : looked object ≡ container shape k offset) where
      call_enter : call ≡ enter reads object shape k offset
      unfolding arrive
      call_enter = rw (call_member, f)

      pub is_open_now : member_of (take x.depth x.frames) object ≡ true → Ends (refused 14 [] offset) x.held x.tape x.scratch
      unfolding enter open_of within
      is_open_now b = refuses 14 [] offset (rw (call_enter, b))

      -- the innermost container is the new one
      pub enter_stands : x.depth < max_open → (y : Container) → y ≡ container_at x.file offset → Stands x.file x.layout (record { offset = offset; container = y }) (x.depth + 1) (set (set x.frames x.top (next_in (get_or x.frames x.top no_frame))) x.depth (new_frame object k offset))
      enter_stands h y e z =
          let g : Frame = next_in (get_or x.frames x.top no_frame) in
          let last : x.depth + 1 - 1 ≡ x.depth = omega arith in
          rw (e, last, get_or-set_same (set x.frames x.top g) x.depth _ no_frame (omega (arith, x.long, length-set x.frames x.top g))) (sym (looked_in x.file x.layout object shape k offset f (new_frame object k offset) refl refl))

      module _ (b : member_of (take x.depth x.frames) object ≡ false) where
        pub is_deep : max_open ≤ x.depth → Ends (refused 15 [] offset) x.held x.tape x.scratch
        unfolding enter open_of within
        is_deep h = refuses 15 [] offset (rw (call_enter, b, le-leb _ _ h))

        module _ (h : x.depth < max_open) (e : Event) (starts : e ≡ start_of shape k) (y : Noted) (t : List ℕ) (notes : y ≡ from_tape (append_of x.tape x.held (meaning_of e []))) (puts : t ≡ append_to x.tape x.held (meaning_of e [])) where
          call_start : call ≡ step (entered reads object k offset) (event_at e (origin object offset))
          unfolding enter open_of within
          call_start = rw (call_enter, b, lt-leb _ _ h, starts)

          noted_start : Notes e offset y t x.scratch
          noted_start = plain_noted x.file x.scratch x.tape t x.held e offset y (rw starts (bare_plain _ (start_bare shape k))) notes puts

          pub enter_fails : (f : Failure) → y ≡ fail_said f → Ends (end_of (fail_said f)) x.held t x.scratch
          enter_fails = fails (entered reads object k offset) e (origin object offset) call_start y t x.scratch noted_start

          pub enter_goes : (m : ℕ) → y ≡ kept m → Goes x.scratch t m offset (x.depth + 1) (set (set x.frames x.top (next_in (get_or x.frames x.top no_frame))) x.depth (new_frame object k offset))
          unfolding entered within
          enter_goes =
              let g : Frame = new_frame object k offset in
              goes (entered reads object k offset) e (origin object offset) call_start y t x.scratch noted_start offset (x.depth + 1) _
              (ap (within x.file x.layout offset (x.depth + 1)) (rw x.at (over x.file x.layout x.root x.place x.depth x.frames g)))
              (λ e. omega arith)
              (omega arith)

  -- the numbers of the open containers: the search among them, and what a turn makes of them
  pub sought : (object : ℕ) → member_of (take x.depth x.frames) object ≡ among (take x.depth x.numbers) object
  sought object = listed_member x.depth x.frames x.numbers object x.listed

  pub close_lists : Listed x.top (set x.frames x.top no_frame) x.numbers
  close_lists = close_listed x.depth x.top x.frames x.numbers (omega (arith, x.at)) x.listed

  pub scalar_lists : Listed x.depth (set x.frames x.top (next_in (get_or x.frames x.top no_frame))) x.numbers
  scalar_lists = onward_listed x.depth x.top x.frames x.numbers x.listed

  pub enter_lists : x.depth < max_open → (object k offset : ℕ) → Listed (x.depth + 1) (set (set x.frames x.top (next_in (get_or x.frames x.top no_frame))) x.depth (new_frame object k offset)) (set x.numbers x.depth object)
  enter_lists h object k offset = enter_listed x.depth x.top object k offset x.frames x.numbers (omega (arith, x.long)) (omega (arith, x.many)) x.listed

  -- there are as many frames after one was moved and another written
  pub still_long : (f g : Frame) → length (set (set x.frames x.top f) x.depth g) ≡ max_open
  still_long f g = rw (length-set, length-set) x.long

  -- with its bytes an event that was looked up can be noted
  pub notable : (object : ℕ) (e : Event) (span : Span) (offset : ℕ) → looked object ≡ scalar e offset → span_said span ≡ looked_bytes x.file (looked object) → Notable x.file e span offset
  unfolding looked_bytes
  notable object e span offset f b =
      record { stands = b ∙ rw f; given = scalar_given x.file x.layout object e offset f }

  -- a container's number, its length and its offset stay within 32 bits
  pub short_number : (object : ℕ) (shape : Shape) (k offset : ℕ) → looked object ≡ container shape k offset → object < 2 ^ 32
  short_number object shape k offset f = omega (arith, x.few, numbered x.file x.layout object shape k offset f)

  pub short_length : (object : ℕ) (shape : Shape) (k offset : ℕ) → looked object ≡ container shape k offset → k < 2 ^ 32
  short_length object shape k offset f = omega (arith, x.short, measured x.file x.layout object shape k offset f)

  pub short_offset : (object : ℕ) (shape : Shape) (k offset : ℕ) → looked object ≡ container shape k offset → offset < 2 ^ 32
  short_offset object shape k offset f = omega (arith, x.short, stands_before x.file x.layout object shape k offset f)

  -- the innermost frame's position can be counted on; with nothing open no frame was counted yet
  pub counts : (object : ℕ) → due ≡ Member object → (get_or x.frames x.top no_frame).position + 1 < 2 ^ 32
  unfolding due_now due_of
  counts object d = go x.depth refl
    where
      go : (n : ℕ) → x.depth ≡ n → (get_or x.frames x.top no_frame).position + 1 < 2 ^ 32
      go zero e =
          let z : x.top ≡ 0 = omega (arith, x.at) in
          rw (x.first e, z) (lit< tt)
      go (suc n) e =
          let some : x.depth ≡ 0 → ⊥ = λ z. omega arith in
          let f : Frame = get_or x.frames x.top no_frame in
          counted x.file x.short object x.layout f (rw (ne_eqb x.depth 0 some, x.stands some, ← x.at) at d)
