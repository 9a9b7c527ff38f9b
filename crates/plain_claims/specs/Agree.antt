-- The stepwise reader called until it stops says what `file_says` says: the same events of the same objects, then the end or the same
-- refusal at the same place. It is said once, whatever the markers are.
use Rattle.std.specs.Prelude.{Bool, cond, ◌≡◌, set, drop, replicate}
use Rattle.std.proofs.Math.Bool.{true, false}
use mathlib.Core.List.{List, [], ◌∷◌, ◌++◌, map}
use Rattle.std.proofs.Math.Path.{refl, sym, ap}
use Rattle.std.proofs.Common.{subst, ◌∙◌, add-zero, lit<, length-drop, get_or-set_same, set-set}
use Prim.Native.Nat.{ℕ, zero, suc, ◌+◌, ◌-◌, ◌≤◌, ◌<◌}
use native.Mathlib.Omega.{arith}
use borrow.Author.Tests.{ne_eqb, le-leb, lt-leb}
use Rattle.std.proofs.Math.ListN.{length}
use Rattle.std.proofs.lemmas.List.{set-get_or}
use Rattle.number.specs.Among.{among}
use Rattle.number.specs.Width.{bytes_in}
use Rattle.number.specs.WidthLaws.{allowed}
use Rattle.event.specs.Meaning.{Meaning, meaning_of, close}
use Rattle.event.specs.declared.Event.TheVariants.{EndCollection}
use Rattle.layout.specs.Frame.{new_frame, at_position, no_frame, next_in}
use Rattle.layout.proofs.Short.{laid_short}
use Rattle.layout.specs.Layout.{due_of, look_of, source_of}
use Rattle.layout.specs.Looked.{Looked, barred, missing, faulty, scalar, container, Shape, array, dictionary, start_of}
use Rattle.layout.specs.References.{references_of}
use Rattle.layout.specs.Trailer.{Trailer, keeps, ends, lays, trailer_in}
use Rattle.layout.specs.declared.frame.Frame.{Frame}
use Rattle.layout.specs.declared.layout.Due.TheVariants.{Member}
use Rattle.layout.specs.declared.layout.Layout.{Layout}
use Rattle.reader.specs.Machine.{Step, step, origin, event_at, refuse, enter, arrive, follow}
use Rattle.reader.specs.Meanings.{meaning_at}
use Rattle.reader.specs.Next.{laid_out, begin, next_of}
use Rattle.reader.specs.NextLaws.{next_begin, next_ended, next_due}
use Rattle.reader.specs.State.{max_open, max_length, fresh_reader, ended_reader, open_of, innermost, member_of, advanced, passed, entered, closed}
use Rattle.reader.specs.declared.state.Reader.{Reader}
use Rattle.plainly.specs.ElementsLaws.{Entered, due_next, due_last}
use Rattle.plainly.specs.Says.{End, done, refused, Says, refusal, one, followed, each_of, whole_of, by_look, object_says, trailer_says, file_says}
use Rattle.plain_claims.specs.Walks as walks
use Rattle.plain_claims.specs.Frames.{frame_at, Frames, frames_on, frames_onto, frames_none, Named, named_none, named_on, named_onto}
use Rattle.plain_claims.specs.Walks.{Heard, event, ended, heard, heard_from, walks_answers, Finishes, Tells, tells_followed, tells_refused, tells_one}

start_means : (file : List ℕ) (s : Shape) (k offset : ℕ) → meaning_at file (start_of s k) offset ≡ meaning_of (start_of s k) []
unfolding meaning_at start_of meaning_of
start_means file array k offset = refl
start_means file dictionary k offset = refl

module _ (file : List ℕ) (l : Layout) where
  -- the reader that has these containers open
  abbrev pub at : ℕ → ℕ → List Frame → Reader
  at place depth fs =
      record { fresh = false; length = length file; offsets = bytes_in l.offsets; refs = bytes_in l.refs; count = l.count; table = l.table; place = place; depth = depth; frames = fs }

  -- the innermost of them has handed out one reference more
  abbrev pub passed_frames : ℕ → List Frame → List Frame
  passed_frames depth fs = set fs (depth - 1) (next_in (frame_at fs (depth - 1)))

  module _ (depth : ℕ) (fs : List Frame) (place : ℕ) where
    passed_at : 0 < depth → (q : ℕ) → passed (at place depth fs) q ≡ at q depth (passed_frames depth fs)
    unfolding passed advanced innermost
    passed_at h q = rw (ne_eqb depth 0 (λ e. omega arith))

    entered_at : 0 < depth → (n k q : ℕ) → entered (at place depth fs) n k q ≡ at q (depth + 1) (set (passed_frames depth fs) depth (new_frame n k q))
    unfolding entered advanced innermost
    entered_at h n k q = rw (ne_eqb depth 0 (λ e. omega arith))

    closed_at : 0 < depth → closed (at place (depth + 1) fs) ≡ at place depth (set fs depth no_frame)
    unfolding closed
    closed_at h =
        let e : depth + 1 - 1 ≡ depth = omega arith in
        rw (ne_eqb (depth + 1) 1 (λ e. omega arith), e)

  -- an object that is looked up by a call, from a state that may be another: the first call reads the root
  module _ (called : Reader) (n place depth : ℕ) (fs : List Frame) (after : ℕ → Reader)
      (passes : (q : ℕ) → passed (at place depth fs) q ≡ after q)
      (inside : Shape → ℕ → ℕ → Says)
      (enters : (s : Shape) (k offset : ℕ) → look_of file l n ≡ container s k offset → next_of file called ≡ enter (at place depth fs) n s k offset → Tells file called after (inside s k offset)) where
    arrive_tells : next_of file called ≡ arrive (at place depth fs) n (look_of file l n) → Tells file called after (by_look file place n inside (look_of file l n))
    unfolding arrive by_look heard
    arrive_tells h = go (look_of file l n) refl h
      where
        go : (x : Looked) → look_of file l n ≡ x → next_of file called ≡ arrive (at place depth fs) n x → Tells file called after (by_look file place n inside x)
        go (barred number values) e g = tells_refused file called after number values place (ap (λ (t : Step). t.answer) g)
        go missing e g = tells_refused file called after 17 [] 0 (ap (λ (t : Step). t.answer) g)
        go (faulty number values offset) e g = tells_refused file called after number values offset (ap (λ (t : Step). t.answer) g)
        go (scalar v offset) e g =
            tells_one file called (passed (at place depth fs) offset) after _ offset
            (ap (λ (t : Step). heard file t.answer) g)
            (ap (λ (t : Step). t.state) g)
            (passes offset)
        go (container s k offset) e g = enters s k offset e g

module _ (file : List ℕ) (l : Layout) (root : ℕ) (short : length file ≤ max_length) where
  -- a call goes by what is due in the innermost container
  next_at_law : (place depth : ℕ) (fs : List Frame) → 0 < depth → Frames depth fs → next_of file (at file l place depth fs) ≡ follow (source_of file l) (at file l place depth fs) (due_of file l (frame_at fs (depth - 1)))
  unfolding innermost
  next_at_law place depth fs some o =
      next_due file (at file l place depth fs) refl (λ e. omega arith) short refl o.few l (allowed l.offsets) (allowed l.refs) refl refl

  -- a container behind d others, its references handed out up to a position
  module _ (d n k : ℕ) (s : Shape) (offset : ℕ) (look : look_of file l n ≡ container s k offset) (base : List Frame) (o : Frames d base) (few : d < max_open) where
    abbrev frame : ℕ → Frame
    frame p = at_position (new_frame n k offset) p

    abbrev frames : ℕ → List Frame
    frames p = set base d (frame p)

    abbrev refs : List ℕ
    refs = references_of file l n

    abbrev whole : Entered file l n k offset
    whole = record { shape = s; look = look }

    room : d < length base
    room = rw o.room few

    open_at : (p : ℕ) → Frames (d + 1) (frames p)
    open_at p = frames_onto d base (frame p) few o

    frame_is : (p : ℕ) → frame_at (frames p) (d + 1 - 1) ≡ frame p
    frame_is p =
        let e : d + 1 - 1 ≡ d = omega arith in
        rw e (get_or-set_same base d (frame p) no_frame room)

    frames_next : (p : ℕ) → passed_frames file l (d + 1) (frames p) ≡ frames (p + 1)
    unfolding next_in
    frames_next p =
        let e : d + 1 - 1 ≡ d = omega arith in
        rw (frame_is p, e) (set-set base d (frame p) (frame (p + 1)))

    -- its elements, where each says what the reader does
    module _ (object : ℕ → ℕ → Says)
        (objects : (place p m : ℕ) → due_of file l (frame p) ≡ Member m → Tells file (at file l place (d + 1) (frames p)) (λ q. at file l q (d + 1) (frames (p + 1))) (object place m)) where
      each_tells : (ns : List ℕ) (place p : ℕ) → p ≤ length refs → drop p refs ≡ ns
          → Tells file (at file l place (d + 1) (frames p)) (λ q. at file l q (d + 1) (frames (length refs))) (each_of object place ns)
      unfolding each_of
      each_tells [] place p h e =
          let z : length refs - p ≡ 0 = sym (length-drop p refs) ∙ ap (λ (x : List ℕ). length x) e in
          let t : p ≡ length refs = omega arith in
          record { state = at file l place (d + 1) (frames p); walks = refl; finishes = rw t }
      each_tells (m ∷ ms) place p h e =
          let t = due_next file l n k offset whole p m ms h e in
          let z : length refs - p ≡ suc (length ms) = sym (length-drop p refs) ∙ ap (λ (x : List ℕ). length x) e in
          tells_followed file _ _ _ (object place m) (λ q. each_of object q ms)
          (objects place p m t.0)
          (λ q. each_tells ms q (p + 1) (omega arith) t.1)

      -- its elements and its end
      module _ (after : ℕ → Reader) (closes : (q : ℕ) → closed (at file l q (d + 1) (frames (length refs))) ≡ after q) where
        close_next : (q : ℕ) → next_of file (at file l q (d + 1) (frames (length refs))) ≡ record { state = closed (at file l q (d + 1) (frames (length refs))); answer = event_at EndCollection (origin n offset) }
        unfolding follow innermost
        close_next q =
            next_at_law q (d + 1) (frames (length refs)) (omega arith) (open_at (length refs))
            ∙ rw (frame_is (length refs), due_last file l n k offset whole)
            (ap (λ (f : Frame). step (closed (at file l q (d + 1) (frames (length refs)))) (event_at EndCollection (origin f.object offset))) (frame_is (length refs)))

        close_tells : (q : ℕ) → Tells file (at file l q (d + 1) (frames (length refs))) after (one close n offset q)
        unfolding heard meaning_at meaning_of
        close_tells q =
            tells_one file _ (closed (at file l q (d + 1) (frames (length refs)))) after _ q
            (ap (λ (t : Step). heard file t.answer) (close_next q))
            (ap (λ (t : Step). t.state) (close_next q))
            (closes q)

        -- and its start, by a call that opens it
        whole_tells : (called : Reader) → next_of file called ≡ record { state = at file l offset (d + 1) (frames 0); answer = event_at (start_of s k) (origin n offset) }
            → Tells file called after (whole_of object (meaning_of (start_of s k) []) n offset refs)
        unfolding whole_of heard
        whole_tells called h =
            tells_followed file called (λ q. at file l q (d + 1) (frames 0)) after (one (meaning_of (start_of s k) []) n offset offset) (λ p. followed (each_of object p refs) (λ q. one close n offset q))
            (tells_one file called (at file l offset (d + 1) (frames 0)) _ _ offset
            (ap (λ (t : Step). heard file t.answer) h ∙ ap (λ (m : Meaning). event (record { meaning = m; number = n; offset = offset })) (start_means file s k offset))
            (ap (λ (t : Step). t.state) h)
            refl)
            (λ p. tells_followed file _ _ after (each_of object p refs) (λ q. one close n offset q) (each_tells refs p 0 (omega arith) refl) close_tells)

  -- a container is entered, or refused with 14 or 15
  module _ (place depth : ℕ) (fs : List Frame) (some : 0 < depth) (o : Frames depth fs) (opened : List ℕ) (named : Named depth fs opened)
      (n : ℕ) (is_due : due_of file l (frame_at fs (depth - 1)) ≡ Member n) where
    abbrev here : Reader
    here = at file l place depth fs

    abbrev beyond : ℕ → Reader
    beyond q = at file l q depth (passed_frames file l depth fs)

    arrives : next_of file here ≡ arrive here n (look_of file l n)
    unfolding follow source_of
    arrives = next_at_law place depth fs some o ∙ rw is_due

    member_is : member_of (open_of here) n ≡ among opened n
    unfolding open_of
    member_is = named n

    refused_again : (s : Shape) (k offset : ℕ) → next_of file here ≡ enter here n s k offset → among opened n ≡ true → Tells file here beyond (refusal 14 [] offset)
    unfolding enter
    refused_again s k offset h e =
        let t : next_of file here ≡ refuse 14 [] offset = h ∙ rw (member_is, e) in
        tells_refused file here beyond 14 [] offset (ap (λ (t : Step). t.answer) t)

    refused_deep : (s : Shape) (k offset : ℕ) → next_of file here ≡ enter here n s k offset → among opened n ≡ false → max_open ≤ depth → Tells file here beyond (refusal 15 [] offset)
    unfolding enter
    refused_deep s k offset h e f =
        let t : next_of file here ≡ refuse 15 [] offset = h ∙ rw (member_is, e, le-leb max_open depth f) in
        tells_refused file here beyond 15 [] offset (ap (λ (t : Step). t.answer) t)

    -- the frames behind an entry, and what holds of them
    module _ (s : Shape) (k offset : ℕ) (none_same : among opened n ≡ false) (few : depth < max_open) where
      abbrev base : List Frame
      base = passed_frames file l depth fs

      base_frames : Frames depth base
      base_frames = frames_on depth (depth - 1) fs _ (omega arith) o

      entry : next_of file here ≡ enter here n s k offset → next_of file here ≡ record { state = at file l offset (depth + 1) (set base depth (new_frame n k offset)); answer = event_at (start_of s k) (origin n offset) }
      unfolding enter
      entry h = h ∙ rw (member_is, none_same, lt-leb max_open depth few, entered_at file l depth fs place some n k offset)

      -- the frame is cleared again at the end
      entry_closes : (p q : ℕ) → closed (at file l q (depth + 1) (set base depth (at_position (new_frame n k offset) p))) ≡ beyond q
      entry_closes p q =
          closed_at file l depth (set base depth (at_position (new_frame n k offset) p)) q some
          ∙ ap (λ (x : List Frame). at file l q depth x) (set-set base depth (at_position (new_frame n k offset) p) no_frame ∙ ap (λ (f : Frame). set base depth f) (sym (base_frames.clear depth (omega arith))) ∙ set-get_or base depth no_frame)

  -- an object by its number says what the reader does, where so many more containers may be opened
  abbrev Object : ℕ → Type 0
  Object left =
      (place depth : ℕ) (fs : List Frame) → 0 < depth → Frames depth fs → (opened : List ℕ) → Named depth fs opened → left + depth ≡ max_open
      → (n : ℕ) → due_of file l (frame_at fs (depth - 1)) ≡ Member n
      → Tells file (at file l place depth fs) (λ q. at file l q depth (passed_frames file l depth fs)) (object_says file l left opened place n)

  object_last : Object zero
  unfolding object_says
  object_last place depth fs some o opened named full n is_due =
      arrive_tells file l (at file l place depth fs) n place depth fs _ (passed_at file l depth fs place some) _
      (λ s k offset look h. go s k offset h (among opened n) refl)
      (arrives place depth fs some o opened named n is_due)
    where
      go : (s : Shape) (k offset : ℕ) → next_of file (at file l place depth fs) ≡ enter (at file l place depth fs) n s k offset → (b : Bool) → among opened n ≡ b
          → Tells file (at file l place depth fs) (λ q. at file l q depth (passed_frames file l depth fs)) (cond b (refusal 14 [] offset) (refusal 15 [] offset))
      go s k offset h true e = refused_again place depth fs some o opened named n is_due s k offset h e
      go s k offset h false e = refused_deep place depth fs some o opened named n is_due s k offset h e (omega arith)

  -- the elements of a container, where each object a level deeper says what the reader does
  module _ (left : ℕ) (deeper : Object left) (d n k : ℕ) (s : Shape) (offset : ℕ) (look : look_of file l n ≡ container s k offset) (base : List Frame) (o : Frames d base) (few : d < max_open)
      (full : suc left + d ≡ max_open) (opened : List ℕ) (named : Named d base opened) where
    abbrev inner : ℕ → ℕ → Says
    inner p m = object_says file l left (opened ++ (n ∷ [])) p m

    inner_tells : (place p m : ℕ) → due_of file l (at_position (new_frame n k offset) p) ≡ Member m
        → Tells file (at file l place (d + 1) (set base d (at_position (new_frame n k offset) p))) (λ q. at file l q (d + 1) (set base d (at_position (new_frame n k offset) (p + 1)))) (inner place m)
    inner_tells place p m is_due =
        subst (λ (x : List Frame). Tells file (at file l place (d + 1) (set base d (at_position (new_frame n k offset) p))) (λ q. at file l q (d + 1) x) (inner place m))
        (frames_next d n k s offset look base o few p)
        (deeper place (d + 1) (set base d (at_position (new_frame n k offset) p)) (omega arith) (open_at d n k s offset look base o few p) (opened ++ (n ∷ []))
        (named_onto d base opened (at_position (new_frame n k offset) p) (room d n k s offset look base o few) named)
        (omega arith) m
        (ap (due_of file l) (frame_is d n k s offset look base o few p) ∙ is_due))

    inside_tells : (after : ℕ → Reader) → ((q : ℕ) → closed (at file l q (d + 1) (set base d (at_position (new_frame n k offset) (length (references_of file l n))))) ≡ after q)
        → (called : Reader) → next_of file called ≡ record { state = at file l offset (d + 1) (set base d (new_frame n k offset)); answer = event_at (start_of s k) (origin n offset) }
        → Tells file called after (whole_of inner (meaning_of (start_of s k) []) n offset (references_of file l n))
    inside_tells after closes called h = whole_tells d n k s offset look base o few inner inner_tells after closes called h

  object_more : (left : ℕ) → Object left → Object (suc left)
  unfolding object_says
  object_more left deeper place depth fs some o opened named full n is_due =
      arrive_tells file l (at file l place depth fs) n place depth fs _ (passed_at file l depth fs place some) _
      (λ s k offset look h. go s k offset look h (among opened n) refl)
      (arrives place depth fs some o opened named n is_due)
    where
      few : depth < max_open
      few = omega arith

      go : (s : Shape) (k offset : ℕ) → look_of file l n ≡ container s k offset → next_of file (at file l place depth fs) ≡ enter (at file l place depth fs) n s k offset
          → (b : Bool) → among opened n ≡ b
          → Tells file (at file l place depth fs) (λ q. at file l q depth (passed_frames file l depth fs))
          (cond b (refusal 14 [] offset) (whole_of (λ p m. object_says file l left (opened ++ (n ∷ [])) p m) (meaning_of (start_of s k) []) n offset (references_of file l n)))
      go s k offset look h true e = refused_again place depth fs some o opened named n is_due s k offset h e
      go s k offset look h false e =
          inside_tells left deeper depth n k s offset look (passed_frames file l depth fs) (base_frames place depth fs some o opened named n is_due s k offset e few) few full
          opened (named_on depth (depth - 1) fs opened named)
          (λ q. at file l q depth (passed_frames file l depth fs))
          (entry_closes place depth fs some o opened named n is_due s k offset e few (length (references_of file l n)))
          (at file l place depth fs)
          (entry place depth fs some o opened named n is_due s k offset e few h)

  object_tells : (left : ℕ) → Object left
  object_tells zero = object_last
  object_tells (suc left) = object_more left (object_tells left)

  -- the root, by the first call
  module _ (first : next_of file fresh_reader ≡ arrive (laid_out file l) root (look_of file l root)) where
    abbrev bare : List Frame
    bare = replicate max_open no_frame

    root_enters : (s : Shape) (k offset : ℕ) → enter (at file l l.table 0 bare) root s k offset ≡ record { state = at file l offset 1 (set bare 0 (new_frame root k offset)); answer = event_at (start_of s k) (origin root offset) }
    unfolding enter open_of member_of entered advanced
    root_enters s k offset = refl

    root_closes : (q : ℕ) (fs : List Frame) → closed (at file l q 1 fs) ≡ ended_reader
    unfolding closed
    root_closes q fs = refl

    root_passes : (q : ℕ) → passed (at file l l.table 0 bare) q ≡ ended_reader
    unfolding passed
    root_passes q = refl

    root_tells : (left : ℕ) → suc left ≡ max_open → Tells file fresh_reader (λ q. ended_reader) (object_says file l (suc left) [] l.table root)
    unfolding object_says among laid_out
    root_tells left full =
        arrive_tells file l fresh_reader root l.table 0 bare (λ q. ended_reader) root_passes _
        (λ s k offset look h.
        inside_tells left (object_tells left) 0 root k s offset look bare frames_none (lit< tt) (add-zero (suc left) ∙ full) [] (named_none bare) (λ q. ended_reader)
        (λ q. root_closes q (set bare 0 (at_position (new_frame root k offset) (length (references_of file l root)))))
        fresh_reader (h ∙ root_enters s k offset))
        first

module _ (file : List ℕ) where
  -- a fresh reader on a file says what the file says, and has ended then
  pub file_tells : Tells file fresh_reader (λ q. ended_reader) (file_says file)
  unfolding file_says trailer_says begin
  file_tells = go (trailer_in file) refl (next_begin file fresh_reader refl)
    where
      go : (t : Trailer) → trailer_in file ≡ t → next_of file fresh_reader ≡ begin file fresh_reader t → Tells file fresh_reader (λ q. ended_reader) (trailer_says file t)
      go (keeps number values place) e h = tells_refused file fresh_reader _ number values place (ap (λ (t : Step). t.answer) h)
      go (ends number values place) e h = tells_refused file fresh_reader _ number values place (ap (λ (t : Step). t.answer) h)
      go (lays l root) e h = root_tells file l root (laid_short file l root e) h (max_open - 1) refl

  -- the answer that an ending is
  unfoldable pub last_heard : End → Heard
  last_heard (done place) = ended
  last_heard (refused number values place) = walks.refused number values place

  ends_so : (s : Reader) (e : End) → Finishes file (λ q. ended_reader) s e → heard file (next_of file s).answer ≡ last_heard e
  unfolding heard last_heard
  ends_so s (done place) h = ap (λ (r : Reader). heard file (next_of file r).answer) h ∙ ap (λ (t : Step). heard file t.answer) (next_ended file ended_reader refl refl)
  ends_so s (refused number values place) h = ap (heard file) h

  -- THE AGREEMENT, over all files: the stepwise reader's answers, from a fresh one on, are the events that the file says, and then how it
  -- ends
  pub agreement : heard_from (suc (length (file_says file).events)) file fresh_reader ≡ map event (file_says file).events ++ (last_heard (file_says file).ending ∷ [])
  agreement =
      let w = file_tells in
      walks_answers file (file_says file).events fresh_reader w.state w.walks
      ∙ ap (λ (t : Heard). map event (file_says file).events ++ (t ∷ [])) (ends_so w.state (file_says file).ending w.finishes)
