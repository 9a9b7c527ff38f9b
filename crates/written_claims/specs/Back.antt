-- A reader whose calls go by a source that shows the objects of some events answers those events.
use Rattle.std.specs.Prelude.{◌≡◌, Bool, true, false, cond, ◌⊎◌, eqb, ltb, drop}
use Rattle.std.proofs.Math.Path.{refl}
use Rattle.std.proofs.Common.{sym, ap, ◌∙◌, inl, inr, arith, lit≤, get_or-set_other}
use Rattle.std.proofs.lemmas.Bool.{false≢true}
use mathlib.Core.List.{List, [], ◌∷◌, map, ◌++◌}
use Prim.Native.Nat.{ℕ, suc, ◌+◌, ◌*◌, ◌/◌, ◌%◌, ◌≤◌, ◌<◌, zero}
use Rattle.std.proofs.Math.Numerals.{add-one}
use borrow.Author.Tests.{eqb-true, eqb-false, ltb-true}
use Rattle.std.proofs.Math.ListN.{length, get_or, set, replicate, length-set}
use Rattle.std.proofs.lemmas.List.{length-map}
use Rattle.std.proofs.Math.Seq.{get_or-set_same}
use Rattle.event.specs.declared.Event.{Event}
use Rattle.layout.specs.Looked.{Source, container, start_of}
use Rattle.layout.specs.Looked as looked
use Rattle.layout.specs.Frame.{new_frame, no_frame, next_in}
use Rattle.layout.specs.declared.layout.Due.TheVariants.{Close, Member}
use Rattle.layout.specs.declared.frame.Frame.{Frame}
use Rattle.reader.specs.Calls.{calls, answers_of}
use Rattle.reader.specs.Machine.{Said, Origin, origin, event_at, ended, step, arrive, step_of}
use Rattle.reader.specs.Next.{next_of}
use Rattle.reader.specs.NextLaws.{next_ended}
use Rattle.reader.specs.State.{max_open, ended_reader, moved}
use Rattle.written.specs.Graph.{Scalar, Kind, arr, dic, Piece, start, Name, val, box, kids, evens, odds, order, number, body_of, object_of, scalar, end}
use Rattle.written.proofs.NameLaws.{In, drop_lt, drop_next, drop_get_d, drop_done, get_d_map_lt, length_evens, in_drop, in_turn_law}
use Rattle.written.proofs.NumberLaws.{number_one, kid_named, root_named, root_number}
use Rattle.written.specs.Shape.{inside, Due, later, takes, opens, closes, fits, whole}
use Rattle.written.specs.Weigh.{counted}
use Rattle.written.proofs.WholeLaws.{Parity, passed, parity}
use Rattle.written_claims.specs.Filled.{shape_of, event_in, origin_of, said_from}
use Rattle.written_claims.specs.Shown.{Shown}
use Rattle.written_claims.specs.Writable.{box_in}
use Rattle.std.proofs.Math.Nat.{zero-add, suc-add}
use Rattle.event.specs.declared.Event.TheVariants.{EndCollection}
use Rattle.reader.specs.declared.state.Reader.{Reader}
use Rattle.written_claims.specs.Frames as frames

same_or_not : (i j : ℕ) → (i ≡ j) ⊎ (i ≡ j → ⊥)
same_or_not i j = go (eqb i j) refl
  where
    go : (b : Bool) → eqb i j ≡ b → (i ≡ j) ⊎ (i ≡ j → ⊥)
    go true e = inl (eqb-true _ _ e)
    go false e = inr (eqb-false _ _ e)

-- the event that a source looks up for a scalar
unfoldable pub event_by : List Piece → Source → Scalar → Event
event_by all src s = event_in (src.look (number all (val s)))

-- all objects of the events are shown
abbrev pub Shows : List Piece → List ℕ → Source → (Name → ℕ) → Type 0
Shows all file src place_of = (x : Name) → In x (order all) → Shown file src (number all x) (place_of x) (object_of all x)

module _ (all : List Piece) (file : List ℕ) (src : Source) (place_of : Name → ℕ) (shows : Shows all file src place_of) where
  -- a frame: of the container that begins at place; the members l are left
  pub record Known (n place : ℕ) (l : List Name) (f : Frame) : Type 0 where
    pub kind : Kind
    pub post : List Piece
    pub before : place < n
    pub begins : drop place all ≡ start kind ∷ post
    pub named : In (box place) (order all)
    pub obj_is : f.object ≡ number all (box place)
    pub at_is : f.offset ≡ place_of (box place)
    pub len_is : f.length ≡ counted kind (length (kids 0 (suc place) post))
    pub even : Parity (inside kind) (length (kids 0 (suc place) post))
    pub upto : f.position ≤ length (kids 0 (suc place) post)
    pub rest : drop f.position (kids 0 (suc place) post) ≡ l

  -- the frames of the open containers, by their places, the innermost first: frame i of the reader is i levels below the outermost
  abbrev pub Frames : ℕ → (ℕ → List Name) → List Frame → List ℕ → Type 0
  Frames n l fr [] = Unit {0}
  Frames n l fr (p ∷ ps) = Known n p (l 0) (get_or fr (length ps) no_frame) × Frames n (λ (j : ℕ). l (suc j)) fr ps

  pub older : (n p : ℕ) (l : List Name) (f : Frame) → Known n p l f → Known (suc n) p l f
  older n p l f o = record { kind = o.kind; post = o.post; before = omega (arith, o.before); begins = o.begins; named = o.named; obj_is = o.obj_is; at_is = o.at_is; len_is = o.len_is; even = o.even; upto = o.upto; rest = o.rest }

  -- one event older, and a frame further in is another
  pub olders : (n : ℕ) (l : ℕ → List Name) (fr : List Frame) (ps : List ℕ) (i : ℕ) (x : Frame) → length ps ≤ i → Frames n l fr ps → Frames (suc n) l (set fr i x) ps
  olders n l fr [] i x h o = tt
  olders n l fr (p ∷ ps) i x h o =
      (rw (get_or-set_other fr i (length ps) x no_frame (λ e. omega arith)) (older n p (l 0) (get_or fr (length ps) no_frame) o.0), olders n (λ (j : ℕ). l (suc j)) fr ps i x (omega arith) o.1)

  -- a frame further in is another
  pub apart : (n : ℕ) (l : ℕ → List Name) (fr : List Frame) (ps : List ℕ) (i : ℕ) (x : Frame) → length ps ≤ i → Frames n l fr ps → Frames n l (set fr i x) ps
  apart n l fr [] i x h o = tt
  apart n l fr (p ∷ ps) i x h o =
      (rw (get_or-set_other fr i (length ps) x no_frame (λ e. omega arith)) o.0, apart n (λ (j : ℕ). l (suc j)) fr ps i x (omega arith) o.1)

  -- after a member
  pub next_known : (n p : ℕ) (x : Name) (l : List Name) (f : Frame) → Known n p (x ∷ l) f → Known (suc n) p l (next_in f)
  unfolding next_in
  next_known n p x l f o =
      let lt : f.position < length (kids 0 (suc p) o.post) = drop_lt (kids 0 (suc p) o.post) f.position x l o.rest in
      record { kind = o.kind; post = o.post; before = omega (arith, o.before); begins = o.begins; named = o.named; obj_is = o.obj_is; at_is = o.at_is; len_is = o.len_is; even = o.even; upto = omega arith; rest = rw add-one (drop_next (kids 0 (suc p) o.post) f.position x l o.rest) }

  -- what is shown of the object of a frame
  frame_shown : (n p : ℕ) (l : List Name) (f : Frame) (o : Known n p l f) → Shown file src f.object (place_of (box p)) (body_of (number all) p (start o.kind ∷ o.post))
  unfolding object_of
  frame_shown n p l f o = rw (o.obj_is, ← o.begins) (shows (box p) o.named)

  -- the next member is due
  pub due_member : (n p : ℕ) (x : Name) (l : List Name) (f : Frame) → Known n p (x ∷ l) f → src.due f ≡ Member (number all x)
  unfolding body_of counted
  due_member n p x l f o = go o.kind o.len_is o.even (frame_shown n p (x ∷ l) f o)
    where
      ms : List Name
      ms = kids 0 (suc p) o.post

      lt : f.position < length ms
      lt = drop_lt ms f.position x l o.rest

      go : (k : Kind) → f.length ≡ counted k (length ms) → Parity (inside k) (length ms) → Shown file src f.object (place_of (box p)) (body_of (number all) p (start k ∷ o.post)) → src.due f ≡ Member (number all x)
      go arr q e s =
          let h : f.position < length (map (number all) ms) = rw (length-map ms (number all)) lt in
          let r : get_or (map (number all) ms) f.position 0 ≡ number all x = get_d_map_lt (number all) ms f.position x 0 lt ∙ ap (number all) (drop_get_d ms f.position x x l o.rest) in
          s.member f f.position (record { object = refl; kept = o.at_is; long = q ∙ sym (length-map ms (number all)); stands = refl }) h ∙ ap Member r
      go dic q e s = turn (eqb (f.position % 2) 0) refl (in_turn_law (number all) ms f.position x l o.rest)
        where
          i : ℕ
          i = f.position / 2

          long : f.length ≡ length (map (number all) (evens ms))
          long = omega (arith, q, e, length-map (evens ms) (number all), length_evens ms)

          turn : (b : Bool) → eqb (f.position % 2) 0 ≡ b → cond b (get_or (map (number all) (evens ms)) (f.position / 2) 0) (get_or (map (number all) (odds ms)) (f.position / 2) 0) ≡ number all x → src.due f ≡ Member (number all x)
          turn true t r =
              let z : f.position % 2 ≡ 0 = eqb-true _ _ t in
              s.key f (f.position / 2) (record { object = refl; kept = o.at_is; long = long; stands = let g : f.position ≡ 2 * (f.position / 2) = omega arith in g }) (omega (arith, lt, q, e, long)) ∙ ap Member r
          turn false t r =
              let z : f.position % 2 ≡ 0 → ⊥ = eqb-false _ _ t in
              s.value f (f.position / 2) (record { object = refl; kept = o.at_is; long = long; stands = let g : f.position ≡ 2 * (f.position / 2) + 1 = omega arith in g }) (omega (arith, lt, q, e, long)) ∙ ap Member r

  -- after the last member the end is due
  pub due_end : (n p : ℕ) (f : Frame) → Known n p [] f → src.due f ≡ Close (place_of (box p))
  unfolding body_of counted
  due_end n p f o = go o.kind o.len_is o.even (frame_shown n p [] f o)
    where
      ms : List Name
      ms = kids 0 (suc p) o.post

      all_there : f.position ≡ length ms
      all_there = omega (arith, o.upto, drop_done ms f.position o.rest)

      go : (k : Kind) → f.length ≡ counted k (length ms) → Parity (inside k) (length ms) → Shown file src f.object (place_of (box p)) (body_of (number all) p (start k ∷ o.post)) → src.due f ≡ Close (place_of (box p))
      go arr q e s = s.end f (record { object = refl; kept = o.at_is; long = q ∙ sym (length-map ms (number all)); stands = all_there ∙ sym (length-map ms (number all)) })
      go dic q e s =
          let long : f.length ≡ length (map (number all) (evens ms)) = omega (arith, q, e, length-map (evens ms) (number all), length_evens ms) in
          s.end f (record { object = refl; kept = o.at_is; long = long; stands = omega (arith, all_there, q, e, long) })

  -- a container that begins at n is looked up with its length
  pub look_box : (n : ℕ) (k : Kind) (post : List Piece) → drop n all ≡ start k ∷ post → In (box n) (order all) → Parity (inside k) (length (kids 0 (suc n) post)) → src.look (number all (box n)) ≡ container (shape_of k) (counted k (length (kids 0 (suc n) post))) (place_of (box n))
  unfolding object_of body_of counted
  look_box n k post b h e = go k e (rw b at (shows (box n) h))
    where
      ms : List Name
      ms = kids 0 (suc n) post

      go : (k : Kind) → Parity (inside k) (length ms) → Shown file src (number all (box n)) (place_of (box n)) (body_of (number all) n (start k ∷ post)) → src.look (number all (box n)) ≡ container (shape_of k) (counted k (length ms)) (place_of (box n))
      go arr e s = s.look ∙ rw (length-map ms (number all))
      go dic e s =
          let q : length (map (number all) (evens ms)) ≡ length ms / 2 = omega (arith, e, length-map (evens ms) (number all), length_evens ms) in
          s.look ∙ rw q

  pub look_val : (s : Scalar) → In (val s) (order all) → src.look (number all (val s)) ≡ looked.scalar (event_by all src s) (place_of (val s))
  unfolding object_of event_by event_in
  look_val s h = let r = shows (val s) h in rw r.look

  -- a container that begins at n or later is not open
  pub none_open : (n m : ℕ) (l : ℕ → List Name) (fr : List Frame) (ps : List ℕ) → In (box m) (order all) → n ≤ m → Frames n l fr ps → (i : ℕ) → i < length ps → (get_or fr i no_frame).object ≡ number all (box m) → ⊥
  none_open n m l fr [] h b o i lt e = omega arith
  none_open n m l fr (p ∷ ps) h b o i lt e = go (same_or_not i (length ps)) (λ k. none_open n m (λ (j : ℕ). l (suc j)) fr ps h b o.1 i k e)
    where
      go : (i ≡ length ps) ⊎ (i ≡ length ps → ⊥) → (i < length ps → ⊥) → ⊥
      go (inl q) ih =
          let d : (get_or fr (length ps) no_frame).object ≡ number all (box m) = rw q at e in
          let s : box p ≡ box m = number_one all (box p) (box m) o.0.named h (sym o.0.obj_is ∙ d) in
          let t : p ≡ m = ap box_in s in
          omega (arith, o.0.before)
      go (inr d) ih = ih (omega arith)

  pub next_named : (n p : ℕ) (x : Name) (l : List Name) (f : Frame) → Known n p (x ∷ l) f → In x (order all)
  next_named n p x l f o = kid_named all p o.kind o.post x o.begins (in_drop x (kids 0 (suc p) o.post) f.position l o.rest)

  -- a frame for a container that begins at n
  abbrev pub frame_for : ℕ → Kind → List Piece → Frame
  frame_for n k post = new_frame (number all (box n)) (counted k (length (kids 0 (suc n) post))) (place_of (box n))

  pub fresh_frame : (n : ℕ) (k : Kind) (post : List Piece) → drop n all ≡ start k ∷ post → In (box n) (order all) → Parity (inside k) (length (kids 0 (suc n) post)) → Known (suc n) n (kids 0 (suc n) post) (frame_for n k post)
  fresh_frame n k post e h p = record { kind = k; post = post; before = omega arith; begins = e; named = h; obj_is = refl; at_is = refl; len_is = refl; even = p; upto = omega arith; rest = refl }

  -- where containers are open, a call goes on by the source
  module _ (base : Reader) (opened : (q k : ℕ) (fr : List Frame) → suc k ≤ max_open → next_of file (frames.inside base q k fr) ≡ step_of src (frames.inside base q k fr)) where
    abbrev by : Scalar → Event
    by = event_by all src

    abbrev from : Name → Origin
    from = origin_of all place_of

    -- the state, the places of the open containers given
    abbrev state_of : ℕ → List Frame → List ℕ → Reader
    state_of q fr [] = ended_reader
    state_of q fr (p ∷ ps) = frames.inside base q (length ps) fr

    all_ended : (m : ℕ) → answers_of (calls m file ended_reader) ≡ replicate m ended
    unfolding calls
    all_ended zero = refl
    all_ended (suc m) = rw (next_ended file ended_reader refl refl) (ap (λ (l : List Said). ended ∷ l) (all_ended m))

    -- one step gives an answer and leads on
    onward : (m : ℕ) (s : Reader) (a : Said) (r : Reader) (l : List Said) → next_of file s ≡ step r a → answers_of (calls m file r) ≡ l → answers_of (calls (suc m) file s) ≡ a ∷ l
    unfolding calls
    onward m s a r l e h = rw (e, h)

    simulates : (es : List Piece) (n : ℕ) (cs : List Due) (ps : List ℕ) (fr : List Frame) (q m : ℕ) → drop n all ≡ es → fits max_open cs es ≡ true
        → length ps ≡ length cs → length ps ≤ max_open → length fr ≡ max_open → Frames n (λ (j : ℕ). kids j n es) fr ps
        → answers_of (calls (length es + m) file (state_of q fr ps)) ≡ said_from by from n ps es ++ replicate m ended
    unfolding fits kids said_from
    simulates [] n [] [] fr q m d e c few full o = rw zero-add (all_ended m)
    simulates [] n [] (p ∷ ps) fr q m d e c few full o = absurd (omega arith)
    simulates [] n (b ∷ cs) ps fr q m d e c few full o = absurd (false≢true e)
    simulates (x ∷ es) n [] ps fr q m d e c few full o = absurd (false≢true e)
    simulates (scalar s ∷ es) n (b ∷ cs) [] fr q m d e c few full o = absurd (omega arith)
    simulates (scalar s ∷ es) n (b ∷ cs) (p ∷ ps) fr q m d e c few full o =
        let k = length ps in
        let f = get_or fr (length ps) no_frame in
        let l = kids 0 (suc n) es in
        let h : In (val s) (order all) = next_named n p (val s) l f o.0 in
        let fr' : List Frame = set fr k (next_in f) in
        let t : get_or fr' k no_frame ≡ next_in f = get_or-set_same fr k (next_in f) no_frame (omega arith) in
        rw suc-add (onward (length es + m) (state_of q fr (p ∷ ps)) (event_at (by s) (from (val s))) (state_of (place_of (val s)) fr' (p ∷ ps)) (said_from by from (suc n) (p ∷ ps) es ++ replicate m ended)
        (opened q k fr few ∙ frames.step_scalar base q k fr src (number all (val s)) (by s) (place_of (val s)) (due_member n p (val s) l f o.0) (look_val s h))
        (simulates es (suc n) (later b ∷ cs) (p ∷ ps) fr' (place_of (val s)) m (drop_next all n (scalar s) es d) (passed (takes b s) _ e).1 c few (length-set fr k (next_in f) ∙ full)
        (rw t (next_known n p (val s) l f o.0), olders n (λ (j : ℕ). kids (suc j) (suc n) es) fr ps k (next_in f) (omega arith) o.1)))
    simulates (start a ∷ es) n (b ∷ cs) [] fr q m d e c few full o = absurd (omega arith)
    simulates (start a ∷ es) n (b ∷ cs) (p ∷ ps) fr q m d e c few full o =
        let k = length ps in
        let f = get_or fr (length ps) no_frame in
        let l = kids 1 (suc n) es in
        let h : In (box n) (order all) = next_named n p (box n) l f o.0 in
        let w = passed (ltb (suc (length cs)) max_open) _ (passed (opens b) _ e).1 in
        let lt : suc (length cs) < max_open = ltb-true (suc (length cs)) max_open w.0 in
        let v : Parity (inside a) (length (kids 0 (suc n) es)) = parity max_open es (inside a ∷ later b ∷ cs) 0 (suc n) w.1 in
        let new : Frame = frame_for n a es in
        let fr' : List Frame = set fr k (next_in f) in
        let fr'' : List Frame = set fr' (suc k) new in
        let t : get_or fr' k no_frame ≡ next_in f = get_or-set_same fr k (next_in f) no_frame (omega arith) in
        let full' : length fr' ≡ max_open = length-set fr k (next_in f) ∙ full in
        let t' : get_or fr'' (suc k) no_frame ≡ new = get_or-set_same fr' (suc k) new no_frame (omega arith) in
        let o' : Frames (suc n) (λ (j : ℕ). kids (suc j) (suc n) es) fr' (p ∷ ps) = (rw t (next_known n p (box n) l f o.0), olders n (λ (j : ℕ). kids (suc (suc j)) (suc n) es) fr ps k (next_in f) (omega arith) o.1) in
        rw suc-add (onward (length es + m) (state_of q fr (p ∷ ps)) (event_at (start_of (shape_of a) (counted a (length (kids 0 (suc n) es)))) (from (box n))) (state_of (place_of (box n)) fr'' (n ∷ p ∷ ps)) (said_from by from (suc n) (n ∷ p ∷ ps) es ++ replicate m ended)
        (opened q k fr few ∙ frames.step_start base q k fr src (number all (box n)) (shape_of a) (counted a (length (kids 0 (suc n) es))) (place_of (box n)) (due_member n p (box n) l f o.0) (look_box n a es d h v) (none_open n n (λ (j : ℕ). kids j n (start a ∷ es)) fr (p ∷ ps) h (omega arith) o) (omega arith))
        (simulates es (suc n) (inside a ∷ later b ∷ cs) (n ∷ p ∷ ps) fr'' (place_of (box n)) m (drop_next all n (start a) es d) w.1 (ap suc c) (omega arith) (length-set fr' (suc k) new ∙ full')
        (rw t' (fresh_frame n a es d h v), apart (suc n) (λ (j : ℕ). kids (suc j) (suc n) es) fr' (p ∷ ps) (suc k) new (omega arith) o')))
    simulates (end ∷ es) n (b ∷ cs) [] fr q m d e c few full o = absurd (omega arith)
    simulates (end ∷ es) n (b ∷ cs) (p ∷ []) fr q m d e c few full o =
        rw suc-add (onward (length es + m) (state_of q fr (p ∷ [])) (event_at EndCollection (from (box p))) ended_reader (said_from by from (suc n) [] es ++ replicate m ended)
        (opened q 0 fr few ∙ frames.step_last base q fr src (number all (box p)) (place_of (box p)) o.0.obj_is (due_end n p (get_or fr 0 no_frame) o.0))
        (simulates es (suc n) cs [] fr q m (drop_next all n end es d) (passed (closes b) _ e).1 (omega arith) (omega arith) full tt))
    simulates (end ∷ es) n (b ∷ cs) (p ∷ (p' ∷ ps)) fr q m d e c few full o =
        let k = length ps in
        rw suc-add (onward (length es + m) (state_of q fr (p ∷ (p' ∷ ps))) (event_at EndCollection (from (box p))) (state_of q (set fr (suc k) no_frame) (p' ∷ ps)) (said_from by from (suc n) (p' ∷ ps) es ++ replicate m ended)
        (opened q (suc k) fr few ∙ frames.step_end base q k fr src (number all (box p)) (place_of (box p)) o.0.obj_is (due_end n p (get_or fr (suc k) no_frame) o.0))
        (simulates es (suc n) cs (p' ∷ ps) (set fr (suc k) no_frame) q m (drop_next all n end es d) (passed (closes b) _ e).1 (omega arith) (omega arith) (length-set fr (suc k) no_frame ∙ full)
        (olders n (λ (j : ℕ). kids j (suc n) es) fr (p' ∷ ps) (suc k) no_frame (omega arith) o.1)))

-- THE READ-BACK over any source that shows the objects: the events with their lengths filled in, then ended for ever
pub read_from : (all : List Piece) (file : List ℕ) (src : Source) (place_of : Name → ℕ) → Shows all file src place_of
    → (base : Reader) → ((q k : ℕ) (fr : List Frame) → suc k ≤ max_open → next_of file (frames.inside base q k fr) ≡ step_of src (frames.inside base q k fr))
    → (first : Reader) (q : ℕ) (fr : List Frame) → next_of file first ≡ arrive (moved base q 0 fr) 0 (src.look 0) → length fr ≡ max_open
    → (m : ℕ) → whole max_open all ≡ true → answers_of (calls (length all + m) file first) ≡ said_from (event_by all src) (origin_of all place_of) 0 [] all ++ replicate m ended
unfolding whole fits kids said_from
read_from [] file src place_of sh base opened first q fr begins full m e = absurd (false≢true e)
read_from (scalar s ∷ []) file src place_of sh base opened first q fr begins full m e =
    let all = scalar s ∷ [] in
    let z : number all (val s) ≡ 0 = root_number all (val s) [] refl in
    let l : src.look 0 ≡ looked.scalar (event_by all src s) (place_of (val s)) = ap src.look (sym z) ∙ look_val all file src place_of sh s (root_named all (val s) [] refl) in
    rw suc-add (onward all file src place_of sh base opened (0 + m) first (event_at (event_by all src s) (origin_of all place_of (val s))) ended_reader (replicate m ended)
    (begins ∙ rw l (frames.root_scalar (moved base q 0 fr) 0 (event_by all src s) (place_of (val s)) refl) ∙ ap (λ (i : ℕ). step ended_reader (event_at (event_by all src s) (origin i (place_of (val s))))) (sym z))
    (rw zero-add (all_ended all file src place_of sh base opened m)))
read_from (scalar s ∷ (x ∷ es)) file src place_of sh base opened first q fr begins full m e = absurd (false≢true e)
read_from (start k ∷ es) file src place_of sh base opened first q fr begins full m e =
    let all = start k ∷ es in
    let z : number all (box 0) ≡ 0 = root_number all (box 0) (kids 1 1 es) refl in
    let h : In (box 0) (order all) = root_named all (box 0) (kids 1 1 es) refl in
    let w = passed (ltb 0 max_open) _ e in
    let p : Parity (inside k) (length (kids 0 1 es)) = parity max_open es (inside k ∷ []) 0 1 w.1 in
    let len : ℕ = counted k (length (kids 0 1 es)) in
    let l : src.look 0 ≡ container (shape_of k) len (place_of (box 0)) = ap src.look (sym z) ∙ look_box all file src place_of sh 0 k es refl h p in
    let new : Frame = frame_for all file src place_of sh 0 k es in
    let fr' : List Frame = set fr 0 new in
    let t : get_or fr' 0 no_frame ≡ new = get_or-set_same fr 0 new no_frame (omega arith) in
    rw suc-add (onward all file src place_of sh base opened (length es + m) first (event_at (start_of (shape_of k) (counted k (length (kids 0 1 es)))) (origin_of all place_of (box 0))) (frames.inside base (place_of (box 0)) 0 fr') (said_from (event_by all src) (origin_of all place_of) 1 (0 ∷ []) es ++ replicate m ended)
    (begins ∙ rw l (frames.root_start base q 0 fr (shape_of k) len (place_of (box 0))) ∙ ap (λ (i : ℕ). step (frames.inside base (place_of (box 0)) 0 (set fr 0 (new_frame i len (place_of (box 0))))) (event_at (start_of (shape_of k) len) (origin i (place_of (box 0))))) (sym z))
    (simulates all file src place_of sh base opened es 1 (inside k ∷ []) (0 ∷ []) fr' (place_of (box 0)) m refl w.1 refl (lit≤ tt) (length-set fr 0 new ∙ full)
    (rw t (fresh_frame all file src place_of sh 0 k es refl h p), tt)))
read_from (end ∷ es) file src place_of sh base opened first q fr begins full m e = absurd (false≢true e)
