-- A value among events that fit is one whole root by itself, and the events behind it fit where something is due behind a value.
use Rattle.std.specs.Prelude.{Bool, ◌≡◌}
use Rattle.std.proofs.Math.Bool.{true, false, false≢true}
use mathlib.Core.List.{List, [], ◌∷◌, ◌++◌}
use Rattle.std.proofs.Math.Path.{refl, sym}
use Rattle.std.proofs.Common.{◌∙◌}
use Prim.Native.Nat.{ℕ, suc, ◌-◌}
use native.Mathlib.Omega.{arith}
use borrow.Author.Tests.{lt-leb, leb-false}
use Rattle.std.proofs.Math.Dec.{leb}
use Rattle.std.proofs.Math.ListN.{length, length-append}
use Rattle.event.specs.Format.{max_open}
use Rattle.event.specs.Meaning.{Meaning, array, dictionary, close, boolean, bytes, date, integer, real, text, uid}
use Rattle.grammar.specs.Check.{onto, barred, move_of}
use Rattle.grammar.specs.Fits.{fits_from}
use Rattle.grammar.specs.Turn.{is_nothing, after_of, unexpected_of, unless_key, end_turn, text_turn, turn_of}
use Rattle.grammar.specs.TurnLaws.{turn_trails}
use Rattle.grammar.specs.declared.answer.EventKind.{EventKind}
use Rattle.grammar.specs.declared.answer.EventKind.TheVariants as kind
use Rattle.grammar.specs.declared.answer.Refusal.{Refusal}
use Rattle.grammar.specs.declared.answer.Refusal.TheVariants.{TooDeep, UnexpectedEventType, TrailingEvents}
use Rattle.grammar.specs.declared.turn.Due.{Due}
use Rattle.grammar.specs.declared.turn.Due.TheVariants.{Root, Element, Key, Value, Nothing}
use Rattle.grammar.specs.declared.turn.Turn.{Turn}
use Rattle.grammar.specs.declared.turn.Turn.TheVariants.{Pass, Open, Close, Stop}
use Rattle.lookup.specs.Value.{deeper, value_from, behind}
use Rattle.lookup.proofs.ValueLaws.{value_here, value_on, behind_here, behind_on}

-- what may be due inside a container
abbrev Inside : Due → Type 0
Inside Root = ⊥
Inside Element = Unit {0}
Inside Key = Unit {0}
Inside Value = Unit {0}
Inside Nothing = ⊥

abbrev AllInside : List Due → Type 0
AllInside [] = Unit {0}
AllInside (d ∷ ds) = Inside d × AllInside ds

inside_after : (due : Due) → Inside due → Inside (after_of due)
unfolding after_of
inside_after Root h = absurd h
inside_after Element h = tt
inside_after Key h = tt
inside_after Value h = tt
inside_after Nothing h = absurd h

inside_some : (due : Due) → Inside due → is_nothing due ≡ true → ⊥
unfolding is_nothing
inside_some Root h e = h
inside_some Element h e = false≢true e
inside_some Key h e = false≢true e
inside_some Value h e = false≢true e
inside_some Nothing h e = h

-- a value is due: the root, with nothing open, or that of a key
abbrev pub Awaits : Due → List Due → Type 0
Awaits Root around = around ≡ []
Awaits Element around = ⊥
Awaits Key around = ⊥
Awaits Value around = Unit {0}
Awaits Nothing around = ⊥

-- the turn of an event, and how many containers are open behind it
abbrev Counts : Due → Turn → Meaning → Type 0
Counts due (Pass x) m = ((n : ℕ) → deeper n m ≡ n) × (x ≡ after_of due)
Counts due (Open x) m = ((n : ℕ) → deeper n m ≡ suc n) × Inside x
Counts due Close m = ((n : ℕ) → deeper n m ≡ n - 1) × (due ≡ Value → ⊥)
Counts due (Stop r) m = Unit {0}

counts_unless : (due : Due) (k : EventKind) (t : Turn) (m : Meaning) → Counts due t m → Counts due (unless_key due k t) m
unfolding unless_key unexpected_of
counts_unless Root k t m h = h
counts_unless Element k t m h = h
counts_unless Key k t m h = tt
counts_unless Value k t m h = h
counts_unless Nothing k t m h = tt

counts_end : (due : Due) → Counts due (end_turn due) close
unfolding end_turn unexpected_of deeper
counts_end Root = (λ n. refl, λ e. let z : ◌≡◌ {A = ℕ} 0 1 = cc in omega arith)
counts_end Element = (λ n. refl, λ e. let z : ◌≡◌ {A = ℕ} 0 1 = cc in omega arith)
counts_end Key = (λ n. refl, λ e. let z : ◌≡◌ {A = ℕ} 0 1 = cc in omega arith)
counts_end Value = tt
counts_end Nothing = tt

counts_text : (due : Due) (s : List ℕ) → Counts due (text_turn due) (text s)
unfolding text_turn is_nothing deeper
counts_text Root s = (λ n. refl, refl)
counts_text Element s = (λ n. refl, refl)
counts_text Key s = (λ n. refl, refl)
counts_text Value s = (λ n. refl, refl)
counts_text Nothing s = tt

counts : (due : Due) (m : Meaning) → Counts due (turn_of due m) m
unfolding turn_of deeper
counts due (array n) = counts_unless due kind.StartArray (Open Element) (array n) (λ i. refl, tt)
counts due (dictionary n) = counts_unless due kind.StartDictionary (Open Key) (dictionary n) (λ i. refl, tt)
counts due close = counts_end due
counts due (boolean b) = counts_unless due kind.Boolean (Pass (after_of due)) (boolean b) (λ i. refl, refl)
counts due (bytes s) = counts_unless due kind.Data (Pass (after_of due)) (bytes s) (λ i. refl, refl)
counts due (date b) = counts_unless due kind.Date (Pass (after_of due)) (date b) (λ i. refl, refl)
counts due (integer z) = counts_unless due kind.Integer (Pass (after_of due)) (integer z) (λ i. refl, refl)
counts due (real b) = counts_unless due kind.Real (Pass (after_of due)) (real b) (λ i. refl, refl)
counts due (text s) = counts_text due s
counts due (uid n) = counts_unless due kind.Uid (Pass (after_of due)) (uid n) (λ i. refl, refl)

-- the turn of an event where a value is due, and where it is the root
abbrev AsRoot : Turn → Turn → Type 0
AsRoot (Pass x) t = t ≡ Pass Nothing
AsRoot (Open x) t = t ≡ Open x
AsRoot Close t = Unit {0}
AsRoot (Stop r) t = Unit {0}

as_root_unless : (due : Due) (around : List Due) → Awaits due around → (k : EventKind) (t u : Turn) → AsRoot t u → AsRoot (unless_key due k t) (unless_key Root k u)
unfolding unless_key
as_root_unless Root around a k t u h = h
as_root_unless Element around a k t u h = absurd a
as_root_unless Key around a k t u h = absurd a
as_root_unless Value around a k t u h = h
as_root_unless Nothing around a k t u h = absurd a

as_root_text : (due : Due) (around : List Due) → Awaits due around → AsRoot (text_turn due) (text_turn Root)
unfolding text_turn is_nothing after_of
as_root_text Root around a = refl
as_root_text Element around a = absurd a
as_root_text Key around a = absurd a
as_root_text Value around a = refl
as_root_text Nothing around a = absurd a

as_root_end : (due : Due) (around : List Due) → Awaits due around → AsRoot (end_turn due) (end_turn Root)
unfolding end_turn unexpected_of
as_root_end Root around a = tt
as_root_end Element around a = absurd a
as_root_end Key around a = absurd a
as_root_end Value around a = tt
as_root_end Nothing around a = absurd a

as_root : (due : Due) (around : List Due) → Awaits due around → (m : Meaning) → AsRoot (turn_of due m) (turn_of Root m)
unfolding turn_of after_of
as_root due around a (array n) = as_root_unless due around a kind.StartArray (Open Element) (Open Element) refl
as_root due around a (dictionary n) = as_root_unless due around a kind.StartDictionary (Open Key) (Open Key) refl
as_root due around a close = as_root_end due around a
as_root due around a (boolean b) = as_root_unless due around a kind.Boolean (Pass (after_of due)) (Pass Nothing) refl
as_root due around a (bytes s) = as_root_unless due around a kind.Data (Pass (after_of due)) (Pass Nothing) refl
as_root due around a (date b) = as_root_unless due around a kind.Date (Pass (after_of due)) (Pass Nothing) refl
as_root due around a (integer z) = as_root_unless due around a kind.Integer (Pass (after_of due)) (Pass Nothing) refl
as_root due around a (real b) = as_root_unless due around a kind.Real (Pass (after_of due)) (Pass Nothing) refl
as_root due around a (text s) = as_root_text due around a
as_root due around a (uid n) = as_root_unless due around a kind.Uid (Pass (after_of due)) (Pass Nothing) refl

-- one event, by its turn
module _ (due : Due) (around : List Due) (m : Meaning) (ms : List Meaning) where
  pub fits_onto : (t : Turn) (d : Due) (ds : List Due) → turn_of due m ≡ t → move_of t due around ≡ onto d ds → fits_from due around (m ∷ ms) ≡ fits_from d ds ms
  unfolding fits_from
  fits_onto t d ds e f = rw (e, f, fits_from)

  pub fits_barred : (t : Turn) (r : Refusal) → turn_of due m ≡ t → move_of t due around ≡ barred r → fits_from due around (m ∷ ms) ≡ true → ⊥
  unfolding fits_from
  fits_barred t r e f h = false≢true (rw (e, f, fits_from) at h)

  -- a start that fits has room for its container
  pub fits_open : (x : Due) → turn_of due m ≡ Open x → fits_from due around (m ∷ ms) ≡ true → (leb max_open (length around) ≡ false) × (fits_from x (after_of due ∷ around) ms ≡ true)
  unfolding move_of
  fits_open x e h = go (leb max_open (length around)) refl
    where
      go : (b : Bool) → leb max_open (length around) ≡ b → (leb max_open (length around) ≡ false) × (fits_from x (after_of due ∷ around) ms ≡ true)
      go true f = absurd (fits_barred (Open x) TooDeep e (rw f) h)
      go false f = (f, sym (fits_onto (Open x) x (after_of due ∷ around) e (rw f)) ∙ h)

-- The events of a value fit with one thing due, and those behind it with another. It began with d containers fewer open.
abbrev Split : Due → List Due → Due → List Due → ℕ → List Meaning → Type 0
Split due around next outer d ms = (fits_from due around (value_from d ms) ≡ true) × (fits_from next outer (behind d ms) ≡ true)

module _ (due : Due) (around : List Due) (next : Due) (outer : List Due) (d : ℕ) (m : Meaning) (ms : List Meaning) (t : Turn) (turns : turn_of due m ≡ t) where
  -- the event ends the value
  split_here : deeper d m ≡ 0 → move_of t due around ≡ onto Nothing [] → fits_from next outer ms ≡ true → Split due around next outer d (m ∷ ms)
  unfolding fits_from is_nothing
  split_here e f h = (rw (value_here d m ms e) (fits_onto due around m [] t Nothing [] turns f), rw (behind_here d m ms e) h)

  -- or it goes on behind the event
  split_on : (k : ℕ) → deeper d m ≡ suc k → (x : Due) (xs : List Due) → move_of t due around ≡ onto x xs → Split x xs next outer (suc k) ms → Split due around next outer d (m ∷ ms)
  split_on k e x xs f s =
      let some : deeper d m ≡ 0 → ⊥ = λ z. omega (arith, e, z) in
      (rw (value_on d m ms some, e) (fits_onto due around m (value_from (suc k) ms) t x xs turns f ∙ s.0), rw (behind_on d m ms some, e) s.1)

-- inside a container the same events fit with nothing around it, up to its end
abbrev Inner : List Meaning → Type 0
Inner ms =
    (due : Due) (inner : List Due) (x : Due) (around : List Due) → Inside due → AllInside inner →
    fits_from due (inner ++ (x ∷ around)) ms ≡ true → Split due (inner ++ (Nothing ∷ [])) x around (suc (length inner)) ms

module _ (m : Meaning) (ms : List Meaning) (later : Inner ms) (due : Due) (h : Inside due) (x : Due) (around : List Due) where
  inner_pass : (inner : List Due) → AllInside inner → (y : Due) → turn_of due m ≡ Pass y → Counts due (Pass y) m → fits_from due (inner ++ (x ∷ around)) (m ∷ ms) ≡ true → Split due (inner ++ (Nothing ∷ [])) x around (suc (length inner)) (m ∷ ms)
  unfolding move_of
  inner_pass inner hs y f c e =
      let fits : fits_from y (inner ++ (x ∷ around)) ms ≡ true = sym (fits_onto due (inner ++ (x ∷ around)) m ms (Pass y) y (inner ++ (x ∷ around)) f refl) ∙ e in
      split_on due (inner ++ (Nothing ∷ [])) x around (suc (length inner)) m ms (Pass y) f (length inner) (c.0 (suc (length inner))) y (inner ++ (Nothing ∷ [])) refl
      (later y inner x around (rw c.1 (inside_after due h)) hs fits)

  inner_open : (inner : List Due) → AllInside inner → (y : Due) → turn_of due m ≡ Open y → Counts due (Open y) m → fits_from due (inner ++ (x ∷ around)) (m ∷ ms) ≡ true → Split due (inner ++ (Nothing ∷ [])) x around (suc (length inner)) (m ∷ ms)
  unfolding move_of
  inner_open inner hs y f c e =
      let o = fits_open due (inner ++ (x ∷ around)) m ms y f e in
      let few = leb-false max_open (length (inner ++ (x ∷ around))) o.0 in
      let room : leb max_open (length (inner ++ (Nothing ∷ []))) ≡ false = lt-leb max_open (length (inner ++ (Nothing ∷ []))) (omega (arith, few, length-append inner (x ∷ around), length-append inner (Nothing ∷ []))) in
      split_on due (inner ++ (Nothing ∷ [])) x around (suc (length inner)) m ms (Open y) f (suc (length inner)) (c.0 (suc (length inner))) y (after_of due ∷ (inner ++ (Nothing ∷ []))) (rw room)
      (later y (after_of due ∷ inner) x around c.1 (inside_after due h, hs) o.1)

  inner_close : (inner : List Due) → AllInside inner → turn_of due m ≡ Close → Counts due Close m → fits_from due (inner ++ (x ∷ around)) (m ∷ ms) ≡ true → Split due (inner ++ (Nothing ∷ [])) x around (suc (length inner)) (m ∷ ms)
  unfolding move_of
  inner_close [] hs f c e =
      let none : deeper 1 m ≡ 0 = c.0 1 in
      split_here due (Nothing ∷ []) x around 1 m ms Close f none refl (sym (fits_onto due (x ∷ around) m ms Close x around f refl) ∙ e)
  inner_close (y ∷ inner) hs f c e =
      let k = length inner in
      let less : deeper (suc (suc k)) m ≡ suc k = c.0 (suc (suc k)) ∙ omega arith in
      let fits : fits_from y (inner ++ (x ∷ around)) ms ≡ true = sym (fits_onto due (y ∷ (inner ++ (x ∷ around))) m ms Close y (inner ++ (x ∷ around)) f refl) ∙ e in
      split_on due (y ∷ (inner ++ (Nothing ∷ []))) x around (suc (suc k)) m ms Close f k less y (inner ++ (Nothing ∷ [])) refl (later y inner x around hs.0 hs.1 fits)

inner_fits : (ms : List Meaning) → Inner ms
unfolding fits_from move_of
inner_fits [] due inner x around h hs e = absurd (inside_some due h e)
inner_fits (m ∷ ms) due inner x around h hs e = go (turn_of due m) refl (counts due m) (inner_fits ms)
  where
    go : (t : Turn) → turn_of due m ≡ t → Counts due t m → Inner ms → Split due (inner ++ (Nothing ∷ [])) x around (suc (length inner)) (m ∷ ms)
    go (Pass y) f c later = inner_pass m ms later due h x around inner hs y f c e
    go (Open y) f c later = inner_open m ms later due h x around inner hs y f c e
    go Close f c later = inner_close m ms later due h x around inner hs f c e
    go (Stop r) f c later = absurd (fits_barred due (inner ++ (x ∷ around)) m ms (Stop r) r f refl e)

awaits_some : (due : Due) (around : List Due) → Awaits due around → is_nothing due ≡ true → ⊥
unfolding is_nothing
awaits_some Root around a e = false≢true e
awaits_some Element around a e = a
awaits_some Key around a e = a
awaits_some Value around a e = false≢true e
awaits_some Nothing around a e = a

-- where a value is due no end fits
no_end : (due : Due) (around : List Due) (m : Meaning) (ms : List Meaning) → Awaits due around → turn_of due m ≡ Close → Counts due Close m → fits_from due around (m ∷ ms) ≡ true → ⊥
unfolding move_of
no_end Root around m ms a f c e = fits_barred Root around m ms Close (UnexpectedEventType kind.ValueOrStartCollection kind.EndCollection) f (rw a) e
no_end Element around m ms a f c e = a
no_end Key around m ms a f c e = a
no_end Value around m ms a f c e = c.1 refl
no_end Nothing around m ms a f c e = a

-- THE VALUE: it is a whole root, and what is behind it fits behind a value
pub value_fits : (due : Due) (around : List Due) (ms : List Meaning) → Awaits due around → fits_from due around ms ≡ true → (fits_from Root [] (value_from 0 ms) ≡ true) × (fits_from (after_of due) around (behind 0 ms) ≡ true)
unfolding fits_from move_of after_of
value_fits due around [] a e = absurd (awaits_some due around a e)
value_fits due around (m ∷ ms) a e = go (turn_of due m) refl (counts due m) (as_root due around a m)
  where
    go : (t : Turn) → turn_of due m ≡ t → Counts due t m → AsRoot t (turn_of Root m) → Split Root [] (after_of due) around 0 (m ∷ ms)
    go (Pass y) f c r = split_here Root [] (after_of due) around 0 m ms (Pass Nothing) r (c.0 0) refl (rw (← c.1) (sym (fits_onto due around m ms (Pass y) y around f refl) ∙ e))
    go (Open y) f c r = split_on Root [] (after_of due) around 0 m ms (Open y) r 0 (c.0 0) y (Nothing ∷ []) refl (inner_fits ms y [] (after_of due) around c.1 tt (fits_open due around m ms y f e).1)
    go Close f c r = absurd (no_end due around m ms a f c e)
    go (Stop r) f c s = absurd (fits_barred due around m ms (Stop r) r f refl e)

-- nothing comes behind the root
pub fits_ended : (around : List Due) (ms : List Meaning) → fits_from Nothing around ms ≡ true → ms ≡ []
unfolding is_nothing move_of
fits_ended around [] e = refl
fits_ended around (m ∷ ms) e = absurd (fits_barred Nothing around m ms (Stop TrailingEvents) TrailingEvents (turn_trails Nothing m refl) refl e)
