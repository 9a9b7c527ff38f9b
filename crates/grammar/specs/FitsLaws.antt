-- A check finds a tape whole exactly where it is short enough and its events fit.
use Rattle.std.specs.Prelude.{Bool, cond, List, [], ◌∷◌, ◌≡◌, ℕ, zero, suc, ◌+◌, ◌<◌, ◌≤◌, ltb, length}
use Rattle.std.proofs.Math.Bool.{true, false}
use Rattle.std.proofs.lemmas.Bool.{false≢true, lt-leb}
use Rattle.std.proofs.Math.Path.{refl}
use Rattle.std.proofs.Common.{sym, ap, ◌∙◌, zero-add, add-zero, arith, lt-ltb, le-ltb, le-leb, ltb-true, ltb-false}
use Rattle.event.specs.Format.{max_length}
use Rattle.event.specs.Meaning.{Meaning}
use Rattle.tape.specs.Events.{Events, whole as whole_tape, broken, before, events_from, events_of}
use Rattle.tape.specs.Item.{Reading, event, bad, read_at}
use Rattle.grammar.specs.Check.{Move, onto, barred, move_of, finish_of, check_from, check_of}
use Rattle.grammar.specs.Fits.{fits_from}
use Rattle.grammar.specs.Said.{whole, refused_at}
use Rattle.grammar.specs.Turn.{is_nothing, Turned, stopped_at, turn_by, turn_of, turn_at}
use Rattle.grammar.specs.TurnLaws.{turn_trails}
use Rattle.grammar.specs.declared.answer.Refusal.{Refusal}
use Rattle.grammar.specs.declared.answer.Refusal.TheVariants.{TooLong, IncompleteRoot, TrailingEvents}
use Rattle.grammar.specs.declared.turn.Due.{Due}
use Rattle.grammar.specs.declared.turn.Due.TheVariants.{Root}

not_whole : (r : Refusal) (place m : ℕ) → refused_at r place ≡ whole m → ⊥
unfolding refused_at
not_whole r place m e = let z : ◌≡◌ {A = ℕ} 0 1 = cc in omega arith

not_onto : (r : Refusal) (d : Due) (ds : List Due) → barred r ≡ onto d ds → ⊥
not_onto r d ds e = let z : ◌≡◌ {A = ℕ} 0 1 = cc in omega arith

finish_whole : (tape : List ℕ) (n : ℕ) (due : Due) (m : ℕ) → finish_of tape n due ≡ whole m → (n ≡ m) × (is_nothing due ≡ true)
unfolding finish_of
finish_whole tape n due m = go (is_nothing due)
  where
    go : (b : Bool) → cond b (whole n) (refused_at IncompleteRoot (length tape)) ≡ whole m → (n ≡ m) × (b ≡ true)
    go true e = (cc, refl)
    go false e = absurd (not_whole IncompleteRoot (length tape) m e)

-- one event: the machine moves on over the tape where it moves on over the meaning
module _ (tape : List ℕ) (at : ℕ) (due : Due) (around : List Due) (d : Due) (ds : List Due) where
  abbrev turned : Bool → Reading → Turned
  turned b r = cond b (stopped_at TrailingEvents at) (turn_by due at r)

  move_event : move_of (turn_at tape at due).turn due around ≡ onto d ds → (m : Meaning) × (read_at tape at ≡ event m (turn_at tape at due).next) × (move_of (turn_of due m) due around ≡ onto d ds)
  unfolding turn_at turn_by stopped_at move_of
  move_event = go (is_nothing due) (read_at tape at) refl
    where
      go : (b : Bool) (r : Reading) → read_at tape at ≡ r → move_of (turned b r).turn due around ≡ onto d ds → (m : Meaning) × (read_at tape at ≡ event m (turned b r).next) × (move_of (turn_of due m) due around ≡ onto d ds)
      go true r e x = absurd (not_onto _ d ds x)
      go false (event m next) e x = (m, e, x)
      go false bad e x = absurd (not_onto _ d ds x)

  event_turn : (m : Meaning) (next : ℕ) → read_at tape at ≡ event m next → move_of (turn_of due m) due around ≡ onto d ds → turn_at tape at due ≡ record { turn = turn_of due m; next = next }
  unfolding turn_at turn_by move_of
  event_turn m next e x = go (is_nothing due) refl
    where
      go : (b : Bool) → is_nothing due ≡ b → turn_at tape at due ≡ record { turn = turn_of due m; next = next }
      go true f = absurd (not_onto TrailingEvents d ds (rw (turn_trails due m f) at x))
      go false f = rw (f, e)

  check_next : (k n : ℕ) (m : Meaning) (next : ℕ) → at < length tape → read_at tape at ≡ event m next → move_of (turn_of due m) due around ≡ onto d ds → check_from (suc k) tape n at due around ≡ check_from k tape (n + 1) next d ds
  unfolding check_from
  check_next k n m next h e x =
      let u = event_turn m next e x in
      rw (lt-ltb at (length tape) h, check_from, u, x, u)

-- the events from a place on, counted from n
record Left (k : ℕ) (tape : List ℕ) (n at : ℕ) (due : Due) (around : List Due) (m : ℕ) : Type 0 where
  ms : List Meaning
  events : events_from k tape at ≡ whole_tape ms
  count : n + length ms ≡ m
  fits : fits_from due around ms ≡ true

abbrev Later : ℕ → List ℕ → ℕ → ℕ → ℕ → Type 0
Later k tape n at m = (due : Due) (around : List Due) → check_from k tape n at due around ≡ whole m → Left k tape n at due around m

left : (k : ℕ) (tape : List ℕ) (n at : ℕ) (due : Due) (around : List Due) (m : ℕ) → check_from k tape n at due around ≡ whole m → Left k tape n at due around m
unfolding check_from events_from before fits_from
left zero tape n at due around m e =
    let f = finish_whole tape n due m e in
    record { ms = []; events = refl; count = omega (arith, f.0); fits = f.1 }
left (suc k) tape n at due around m e = go (ltb at (length tape)) refl (λ d ds. left k tape (n + 1) (turn_at tape at due).next d ds m)
  where
    moved : (v : Move) → move_of (turn_at tape at due).turn due around ≡ v → at < length tape → Later k tape (n + 1) (turn_at tape at due).next m → Left (suc k) tape n at due around m
    moved (barred r) f h later = absurd (not_whole r at m (rw (lt-ltb at (length tape) h, f) at e))
    moved (onto d ds) f h later =
        let i = later d ds (rw (lt-ltb at (length tape) h, f) at e) in
        let x = move_event tape at due around d ds f in
        record { ms = x.0 ∷ i.ms; events = rw (lt-leb (length tape) at h, x.1, i.events); count = omega (arith, i.count); fits = rw (x.2, fits_from) i.fits }

    go : (b : Bool) → ltb at (length tape) ≡ b → Later k tape (n + 1) (turn_at tape at due).next m → Left (suc k) tape n at due around m
    go true f later = moved (move_of (turn_at tape at due).turn due around) refl (ltb-true at (length tape) f) later
    go false f later =
        let x = finish_whole tape n due m (rw f at e) in
        record { ms = []; events = rw (le-leb (length tape) at (ltb-false at (length tape) f)); count = omega (arith, x.0); fits = x.1 }

-- what a whole tape is: its events, as many as were counted
pub record Whole (tape : List ℕ) (m : ℕ) : Type 0 where
  pub ms : List Meaning
  pub events : events_of tape ≡ whole_tape ms
  pub count : length ms ≡ m
  pub fits : fits_from Root [] ms ≡ true
  pub short : length tape ≤ max_length

pub check_whole : (tape : List ℕ) (m : ℕ) → check_of tape ≡ whole m → Whole tape m
unfolding check_of events_of
check_whole tape m e = go (ltb max_length (length tape)) refl
  where
    go : (b : Bool) → ltb max_length (length tape) ≡ b → Whole tape m
    go true f = absurd (not_whole TooLong 0 m (rw f at e))
    go false f =
        let i = left (length tape) tape 0 0 Root [] m (rw f at e) in
        record { ms = i.ms; events = i.events; count = omega (arith, i.count); fits = i.fits; short = ltb-false max_length (length tape) f }

-- the events that follow one
tail_whole : (m : Meaning) (es : Events) (ms : List Meaning) → before m es ≡ whole_tape ms → (ns : List Meaning) × (es ≡ whole_tape ns) × (ms ≡ m ∷ ns)
unfolding before
tail_whole m (whole_tape ns) ms e = let f : m ∷ ns ≡ ms = cc in (ns, refl, sym f)
tail_whole m (broken ns place) ms e = let z : ◌≡◌ {A = ℕ} 0 1 = cc in absurd (omega arith)

-- an event that fits moves the machine on, and so do those behind it
fits_move : (due : Due) (around : List Due) (m : Meaning) (ms : List Meaning) → fits_from due around (m ∷ ms) ≡ true → (d : Due) × (ds : List Due) × (move_of (turn_of due m) due around ≡ onto d ds) × (fits_from d ds ms ≡ true)
unfolding fits_from
fits_move due around m ms e = go (move_of (turn_of due m) due around) refl
  where
    go : (v : Move) → move_of (turn_of due m) due around ≡ v → (d : Due) × (ds : List Due) × (move_of (turn_of due m) due around ≡ onto d ds) × (fits_from d ds ms ≡ true)
    go (barred r) f = absurd (false≢true (rw (f, fits_from) at e))
    go (onto d ds) f = (d, ds, f, rw (f, fits_from) at e)

abbrev Onward : ℕ → List ℕ → ℕ → Type 0
Onward k tape n = (at : ℕ) (due : Due) (around : List Due) (ms : List Meaning) → events_from k tape at ≡ whole_tape ms → fits_from due around ms ≡ true → check_from k tape n at due around ≡ whole (n + length ms)

finished : (k : ℕ) (tape : List ℕ) (n at : ℕ) (due : Due) (around : List Due) (ms : List Meaning) → events_from k tape at ≡ whole_tape ms → fits_from due around ms ≡ true → check_from k tape n at due around ≡ whole (n + length ms)
unfolding check_from events_from fits_from finish_of
finished zero tape n at due around ms e f =
    let z : ms ≡ [] = cc in
    let g : is_nothing due ≡ true = rw (z, fits_from) at f in
    rw (g, z, add-zero)
finished (suc k) tape n at due around ms e f = go (ltb at (length tape)) refl (λ next d ds ns. finished k tape (n + 1) next d ds ns)
  where
    follow :
        (m : Meaning) (next : ℕ) (ns : List Meaning) (d : Due) (ds : List Due) →
        at < length tape → read_at tape at ≡ event m next → ms ≡ m ∷ ns → move_of (turn_of due m) due around ≡ onto d ds →
        check_from k tape (n + 1) next d ds ≡ whole (n + 1 + length ns) → check_from (suc k) tape n at due around ≡ whole (n + length ms)
    follow m next ns d ds h g is v later =
        let l : length ms ≡ suc (length ns) = ap length is in
        check_next tape at due around d ds k n m next h g v ∙ later ∙ ap whole (omega (arith, l))

    read : (r : Reading) → read_at tape at ≡ r → at < length tape → Onward k tape (n + 1) → check_from (suc k) tape n at due around ≡ whole (n + length ms)
    read bad g h later =
        let y : broken [] at ≡ whole_tape ms = rw (lt-leb (length tape) at h, g, events_from) at e in
        let z : ◌≡◌ {A = ℕ} 0 1 = cc in
        absurd (omega arith)
    read (event m next) g h later =
        let t = tail_whole m (events_from k tape next) ms (rw (lt-leb (length tape) at h, g, events_from) at e) in
        let v = fits_move due around m t.0 (rw t.2 at f) in
        follow m next t.0 v.0 v.1 h g t.2 v.2 (later next v.0 v.1 t.0 t.1 v.3)

    go : (b : Bool) → ltb at (length tape) ≡ b → Onward k tape (n + 1) → check_from (suc k) tape n at due around ≡ whole (n + length ms)
    go true g later = read (read_at tape at) refl (ltb-true at (length tape) g) later
    go false g later =
        let y : whole_tape [] ≡ whole_tape ms = rw (le-leb (length tape) at (ltb-false at (length tape) g)) at e in
        let z : ms ≡ [] = cc in
        let i : is_nothing due ≡ true = rw (z, fits_from) at f in
        rw (g, i, z, add-zero)

-- the other way
pub fits_check : (tape : List ℕ) (ms : List Meaning) → length tape ≤ max_length → events_of tape ≡ whole_tape ms → fits_from Root [] ms ≡ true → check_of tape ≡ whole (length ms)
unfolding check_of events_of
fits_check tape ms short e f = rw (le-ltb max_length (length tape) short) (finished (length tape) tape 0 0 Root [] ms e f ∙ rw zero-add)
