-- What a reader answers, in any state and on any file: the file gives every record that it hands out, and its text is UTF-8 or UTF-16; a
-- refusal has a step's number, or 17.
use Rattle.std.specs.Prelude.{Bool, cond, not, ◌&&◌, List, [], ◌∷◌, ◌⊎◌, ℕ, leb, length, drop, None, Option, Some}
use Rattle.std.proofs.Math.Bool.{true, false}
use Rattle.std.proofs.Common.{true≢false, sym, ◌∙◌, arith}
use Rattle.std.proofs.Math.Logic.{inl, inr}
use Rattle.std.proofs.Math.Path.{◌≡◌, refl}
use Rattle.std.proofs.Math.Dec.{ltb, eqb}
use Rattle.number.specs.Among.{among, among_not}
use Rattle.number.specs.BeLaws.{Bytes}
use Rattle.number.specs.Width.{width_of}
use Rattle.number.specs.declared.width.Width.{Width}
use Rattle.utf.specs.Bounds.{Below}
use Rattle.utf.specs.ChangeLaws.{to_utf8_good}
use Rattle.utf.specs.Unicode.{is_utf16, to_utf8}
use Rattle.event.specs.Bare.{Bare}
use Rattle.event.specs.Meaning.{meaning_of}
use Rattle.event.specs.declared.Event.{Event}
use Rattle.event.specs.declared.Event.TheVariants.{StartArray, StartDictionary, EndCollection, Boolean, Data, Date, Integer, Real, Nan, String, Uid}
use Rattle.number.specs.Part.{part}
use Rattle.layout.specs.Layout.{due_of, look_of, source_of}
use Rattle.layout.specs.FoundLaws.{start_asked_law, end_asked_law}
use Rattle.layout.specs.LookLaws.{BytesRight, LookedRight, look_right}
use Rattle.layout.specs.Looked.{Shape, array, dictionary, Looked, barred, missing, faulty, scalar, container, start_of}
use Rattle.layout.specs.Bytes.{Asked, in_file, in_utf16, no_bytes, denied, event_asked, has_bytes}
use Rattle.number.specs.Either.{either}
use Rattle.layout.specs.Refusals.{file_refusal, keeps_refusal, ends_refusal, long_refusal}
use Rattle.layout.specs.TrailerLaws.{Tells, tells}
use Rattle.layout.specs.Trailer.{Trailer, keeps, ends, lays, trailer_of}
use Rattle.layout.specs.declared.layout.Due.{Due}
use Rattle.layout.specs.declared.layout.Due.TheVariants.{Wrong, Close, Member}
use Rattle.layout.specs.declared.layout.Layout.{Layout}
use Rattle.reader.specs.Machine.{Said, Step, event, ended, refused, step, enter, arrive, follow, step_of}
use Rattle.reader.specs.Meanings.{bytes_asked}
use Rattle.reader.specs.Next.{too_long, begin, laid_out, with_refs, go_on, next_of}
use Rattle.reader.specs.Refusals.{step_refusals, step_refusal}
use Rattle.reader.specs.State.{max_open, max_length, open_of, innermost, member_of}
use Rattle.reader.specs.declared.answer.Record.{Record}
use Rattle.reader.specs.declared.state.Reader.{Reader}
use Rattle.tape.specs.Code.{allowed}
use Rattle.number.specs.PartLaws.{bytes_take, bytes_drop}

-- an event that the file gives, by where its bytes stand: in the file, and then the tape takes them; as UTF-16, which text alone does; nowhere,
-- if it has none
abbrev pub Given : List ℕ → Event → Asked → Type 0
Given file e (in_file start n) = (has_bytes e ≡ true) × (allowed (meaning_of e (part file start n)) ≡ true)
Given file e (in_utf16 start n) = (e ≡ String) × (is_utf16 (part file start n) ≡ true)
Given file e no_bytes = Bare e
Given file e (denied number values) = ⊥

-- the numbers that a reader refuses with
abbrev pub Own : ℕ → Type 0
Own number = (among step_refusals number ≡ true) ⊎ (number ≡ 17)

-- and no others
pub own_not : (number other : ℕ) → Own number → among step_refusals other ≡ false → (other ≡ 17 → ⊥) → number ≡ other → ⊥
own_not number other (inl h) k n e = among_not step_refusals number other h k e
own_not number other (inr h) k n e = n (sym e ∙ h)

listed_14 : among step_refusals 14 ≡ true
unfolding step_refusals among
listed_14 = refl

listed_15 : among step_refusals 15 ≡ true
unfolding step_refusals among
listed_15 = refl

pub start_bare : (shape : Shape) (n : ℕ) → Bare (start_of shape n)
unfolding start_of
start_bare array n = tt
start_bare dictionary n = tt

module _ (file : List ℕ) where
  -- bytes that stand rightly are given
  stand_given : (e : Event) (a : Asked) → BytesRight file e a → Given file e a
  unfolding allowed meaning_of has_bytes
  stand_given e (in_file start n) (inl d) = rw d (refl, refl)
  stand_given e (in_file start n) (inr (d, h)) = rw d (refl, h)
  stand_given e (in_utf16 start n) h = h
  stand_given e no_bytes h = h
  stand_given e (denied number values) h = h

  -- the bytes of a scalar that is looked up are given
  pub scalar_given : (l : Layout) (n : ℕ) (e : Event) (offset : ℕ) → look_of file l n ≡ scalar e offset → Given file e (event_asked file e offset)
  scalar_given l n e offset f = stand_given e (event_asked file e offset) (rw f at (look_right file l n))

  -- an answer: the bytes of an event are given, a refusal has a reader's number
  abbrev pub Handed : Said → Type 0
  Handed (event e) = Given file e.event (event_asked file e.event e.offset)
  Handed ended = Unit {0}
  Handed (refused number values place) = Own number

  abbrev Answers : Step → Type 0
  Answers s = Handed s.answer

  enter_right : (r : Reader) (object : ℕ) (shape : Shape) (n offset : ℕ) → Handed (enter r object shape n offset).answer
  unfolding enter
  enter_right r object shape n offset =
      either Answers (member_of (open_of r) object) _ _ (λ h. inl listed_14) (λ h. either Answers (leb max_open r.depth) _ _ (λ k. inl listed_15) (λ k. rw (start_asked_law file shape n offset) (start_bare shape n)))

  arrive_right : (l : Layout) (r : Reader) (object : ℕ) (x : Looked) → LookedRight file l object x → Handed (arrive r object x).answer
  unfolding arrive
  arrive_right l r object (barred number values) h = inl (step_refusal number (file_refusal number h))
  arrive_right l r object missing h = inr refl
  arrive_right l r object (faulty number values offset) h = inl (step_refusal number (file_refusal number h))
  arrive_right l r object (scalar e offset) h = stand_given e (event_asked file e offset) h
  arrive_right l r object (container shape n offset) h = enter_right r object shape n offset

  follow_right : (l : Layout) (r : Reader) (d : Due) → due_of file l (innermost r) ≡ d → Handed (follow (source_of file l) r d).answer
  unfolding follow source_of
  follow_right l r Wrong h = inr refl
  follow_right l r (Close offset) h = rw (end_asked_law file offset) tt
  follow_right l r (Member object) h = arrive_right l r object (look_of file l object) (look_right file l object)

  refs_right : (r : Reader) (offsets : Width) (refs : Option Width) → Handed (with_refs file r offsets refs).answer
  unfolding with_refs step_of source_of
  refs_right r offsets (Some refs) = follow_right _ r _ refl
  refs_right r offsets None = inr refl

  on_right : (r : Reader) (offsets refs : Option Width) → Handed (go_on file r offsets refs).answer
  unfolding go_on
  on_right r (Some offsets) refs = refs_right r offsets refs
  on_right r None refs = inr refl

  begin_right : (r : Reader) (t : Trailer) → Tells file t → Handed (begin file r t).answer
  unfolding begin
  begin_right r (keeps number values place) h = inl (step_refusal number (keeps_refusal number h))
  begin_right r (ends number values place) h = inl (step_refusal number (ends_refusal number h))
  begin_right r (lays l root) h = arrive_right l (laid_out file l) root (look_of file l root) (look_right file l root)

  -- an answer to any call is such a one
  pub next_handed : (r : Reader) → Handed (next_of file r).answer
  unfolding next_of
  next_handed r =
      either Answers (not r.fresh && eqb r.depth 0) _ _ (λ h. tt)
      (λ h. either Answers (ltb max_length (length file)) _ _ (λ h. inl (step_refusal 1 long_refusal))
      (λ h. either Answers r.fresh _ _ (λ h. begin_right r (trailer_of file) (tells file))
      (λ h. either Answers (not (eqb r.length (length file))) _ _ (λ h. inr refl)
      (λ h. either Answers (ltb max_open r.depth) _ _ (λ h. inr refl)
      (λ h. on_right r (width_of r.offsets) (width_of r.refs))))))

  -- and a file that an event was read from isn't too long
  pub next_short : (r : Reader) (e : Record) → (next_of file r).answer ≡ event e → ltb max_length (length file) ≡ false
  unfolding next_of
  next_short r e h = first (not r.fresh && eqb r.depth 0) (ltb max_length (length file)) _ refl h
    where
      first : (a b : Bool) (x : Step) → ltb max_length (length file) ≡ b → (cond a (step r ended) (cond b (too_long r) x)).answer ≡ event e → ltb max_length (length file) ≡ false
      first true b x f g = let z : ◌≡◌ {A = ℕ} 0 1 = cc in absurd (omega arith)
      first false true x f g = let z : ◌≡◌ {A = ℕ} 0 1 = cc in absurd (omega arith)
      first false false x f g = f

-- an event without bytes means the same whatever stands beside it
pub plain_same : (e : Event) (s : List ℕ) → has_bytes e ≡ false → meaning_of e s ≡ meaning_of e []
unfolding meaning_of has_bytes
plain_same (StartArray n) s h = refl
plain_same (StartDictionary n) s h = refl
plain_same EndCollection s h = refl
plain_same (Boolean b) s h = refl
plain_same Data s h = absurd (true≢false h)
plain_same (Date b) s h = refl
plain_same (Integer i) s h = refl
plain_same (Real x) s h = refl
plain_same (Nan b) s h = refl
plain_same String s h = absurd (true≢false h)
plain_same (Uid n) s h = refl

-- one that is known without bytes, the tape takes
pub bare_allowed : (e : Event) → Bare e → allowed (meaning_of e []) ≡ true
unfolding meaning_of allowed
bare_allowed (StartArray n) h = refl
bare_allowed (StartDictionary n) h = refl
bare_allowed EndCollection h = refl
bare_allowed (Boolean b) h = refl
bare_allowed Data h = absurd h
bare_allowed (Date b) h = h
bare_allowed (Integer i) h = refl
bare_allowed (Real x) h = refl
bare_allowed (Nan b) h = refl
bare_allowed String h = absurd h
bare_allowed (Uid n) h = refl

bytes_below : (s : List ℕ) → Bytes s → Below 256 s
bytes_below [] b = tt
bytes_below (x ∷ xs) b = (b.0, bytes_below xs b.1)

-- what is handed out of a file of bytes, the tape takes
pub given_allowed : (file : List ℕ) → Bytes file → (e : Event) (a : Asked) → Given file e a → allowed (meaning_of e (bytes_asked file a)) ≡ true
unfolding bytes_asked allowed meaning_of
given_allowed file b e (in_file start n) g = g.1
given_allowed file b e (in_utf16 start n) g = rw g.0 (is_text_law (part file start n) (bytes_below (part file start n) (bytes_take n (drop start file) (bytes_drop start file b))) g.1)
  where
    is_text_law : (s : List ℕ) → Below 256 s → is_utf16 s ≡ true → allowed (meaning_of String (to_utf8 s)) ≡ true
    is_text_law s b h = to_utf8_good s b h
given_allowed file b e no_bytes g = bare_allowed e g
given_allowed file b e (denied number values) g = absurd g
