-- A whole tape is a list of events, or has a first bad place.
use Rattle.std.specs.Prelude.{Bool, true, false, List, [], ◌∷◌, ◌++◌, ◌≡◌, refl, ℕ, zero, suc, ◌+◌, ◌-◌, ◌≤◌, ◌<◌, leb, length, get_or, take, drop}
use Rattle.std.proofs.Common.{append_assoc, append-nil, ap, sym, ◌∙◌, zero-add, add-zero, suc-add, arith, le-leb, leb-true, leb-false, length-append, drop_of_length-le, take_at}
use Rattle.std.proofs.lemmas.Bool.{lt-leb}
use Rattle.event.specs.Date.{is_date}
use Rattle.event.specs.Meaning.{Meaning, close, date}
use Rattle.number.specs.BeLaws.{Bytes}
use Rattle.tape.specs.Append.{held, append_of, append_to}
use Rattle.tape.proofs.AppendLaws.{append_held, appended}
use Rattle.tape.specs.Code.{bytes_for, InRange, allowed, OnTape}
use Rattle.tape.proofs.CodeLaws.{reads_back, bytes_some}
use Rattle.tape.specs.Events.{Events, whole, broken, before, events_from, events_of, tape_of}
use Rattle.tape.proofs.FormLaws.{Stands, Written, reads_written}
use Rattle.tape.specs.Item.{Reading, event, bad, read_at}
use Rattle.tape.proofs.SameLaws.{item_within}

-- events that have their bytes on the tape
abbrev pub AllOnTape : List Meaning → Type 0
AllOnTape [] = Unit {0}
AllOnTape (m ∷ ms) = OnTape m × AllOnTape ms

-- whichever of them is a date has a date's bits
pub all_dates : (ms : List Meaning) → AllOnTape ms → (n b : ℕ) → get_or ms n close ≡ date b → is_date b ≡ true
unfolding allowed
all_dates [] h n b e = let z : ◌≡◌ {A = ℕ} 0 1 = cc in absurd (omega arith)
all_dates (m ∷ ms) h zero b e = sym (ap allowed e) ∙ h.0.1
all_dates (m ∷ ms) h (suc n) b e = all_dates ms h.1 n b e

-- the three turns of the walk
events_end : (k : ℕ) (tape : List ℕ) (at : ℕ) → length tape ≤ at → events_from k tape at ≡ whole []
unfolding events_from
events_end zero tape at h = refl
events_end (suc k) tape at h = rw (le-leb (length tape) at h)

events_bad : (k : ℕ) (tape : List ℕ) (at : ℕ) → at < length tape → read_at tape at ≡ bad → events_from (suc k) tape at ≡ broken [] at
unfolding events_from
events_bad k tape at h e = rw (lt-leb (length tape) at h, e, events_from)

events_next : (k : ℕ) (tape : List ℕ) (at : ℕ) (m : Meaning) (next : ℕ) → at < length tape → read_at tape at ≡ event m next → events_from (suc k) tape at ≡ before m (events_from k tape next)
unfolding events_from
events_next k tape at m next h e = rw (lt-leb (length tape) at h, e, events_from)

-- what the walk from a place answers: the events are on the tape, and their bytes stand there up to the end or the first bad place
abbrev Told : List ℕ → ℕ → Events → Type 0
Told tape at (whole ms) = AllOnTape ms × (drop at tape ≡ tape_of ms)
Told tape at (broken ms place) = AllOnTape ms × Stands tape at (tape_of ms) place × (place < length tape) × (read_at tape place ≡ bad)

told_before : (tape : List ℕ) (at : ℕ) (m : Meaning) (next : ℕ) (es : Events) → Written tape at m next → Told tape next es → Told tape at (before m es)
unfolding before tape_of
told_before tape at m next (whole ms) w t = ((w.held, t.0), w.stands.split ∙ ap (λ (l : List ℕ). bytes_for m ++ l) t.1)
told_before tape at m next (broken ms place) w t = (
  (w.held, t.0),
  record { split = rw (append_assoc (bytes_for m) (tape_of ms) (drop place tape)) (w.stands.split ∙ ap (λ (l : List ℕ). bytes_for m ++ l) t.1.split); ends = simp length-append (omega (arith, w.stands.ends, t.1.ends)) },
  t.2,
  t.3,
)

told : (k : ℕ) (tape : List ℕ) (at : ℕ) → Bytes tape → length tape ≤ at + k → Told tape at (events_from k tape at)
unfolding tape_of
told zero tape at good f = rw (events_end zero tape at (omega arith)) (tt, drop_of_length-le tape {i = at} (omega arith))
told (suc k) tape at good f = go (leb (length tape) at) refl (λ (next : ℕ). told k tape next good)
  where
    walk : (r : Reading) → read_at tape at ≡ r → at < length tape → ((next : ℕ) → length tape ≤ next + k → Told tape next (events_from k tape next)) → Told tape at (events_from (suc k) tape at)
    walk bad e h ih = rw (events_bad k tape at h e) (tt, record { split = refl; ends = omega arith }, h, e)
    walk (event m next) e h ih =
        let i = item_within tape at m next good e in
        rw (events_next k tape at m next h e) (told_before tape at m next (events_from k tape next) (reads_written tape at m next good e) (ih next (omega arith)))

    go : (b : Bool) → leb (length tape) at ≡ b → ((next : ℕ) → length tape ≤ next + k → Told tape next (events_from k tape next)) → Told tape at (events_from (suc k) tape at)
    go true e ih =
        let h : length tape ≤ at = leb-true (length tape) at e in
        rw (events_end (suc k) tape at h) (tt, drop_of_length-le tape {i = at} h)
    go false e ih = walk (read_at tape at) refl (leb-false (length tape) at e) ih

-- a tape that is whole is its events' bytes
pub whole_is : (tape : List ℕ) (ms : List Meaning) → Bytes tape → events_of tape ≡ whole ms → AllOnTape ms × (tape ≡ tape_of ms)
unfolding events_of
whole_is tape ms good e = rw e at (told (length tape) tape 0 good (omega arith))

-- one that isn't is bad at its place, and its events' bytes stand in front of that
pub record BrokenAt (tape : List ℕ) (ms : List Meaning) (place : ℕ) : Type 0 where
  pub held : AllOnTape ms
  pub front : take place tape ≡ tape_of ms
  pub within : place < length tape
  pub is_bad : read_at tape place ≡ bad

pub broken_is : (tape : List ℕ) (ms : List Meaning) (place : ℕ) → Bytes tape → events_of tape ≡ broken ms place → BrokenAt tape ms place
unfolding events_of
broken_is tape ms place good e =
    let t : Told tape 0 (broken ms place) = rw e at (told (length tape) tape 0 good (omega arith)) in
    let s : tape ≡ tape_of ms ++ drop place tape = t.1.split in
    record { held = t.0; front = ap (take place) s ∙ take_at (tape_of ms) (drop place tape) place (omega (arith, t.1.ends)); within = t.2; is_bad = t.3 }

-- two tapes with the same events are the same bytes
pub same_tape : (s t : List ℕ) (ms : List Meaning) → Bytes s → Bytes t → events_of s ≡ whole ms → events_of t ≡ whole ms → s ≡ t
same_tape s t ms f g d e = (whole_is s ms f d).1 ∙ sym (whole_is t ms g e).1

-- events in front of what follows them
before_all : List Meaning → Events → Events
before_all [] es = es
before_all (m ∷ ms) es = before m (before_all ms es)

all_whole : (ms : List Meaning) → before_all ms (whole []) ≡ whole ms
unfolding before before_all
all_whole [] = refl
all_whole (m ∷ ms) = rw (all_whole ms)

all_broken : (ms : List Meaning) (place : ℕ) → before_all ms (broken [] place) ≡ broken ms place
unfolding before before_all
all_broken [] place = refl
all_broken (m ∷ ms) place = rw (all_broken ms place)

-- the bytes of events are walked over event by event
events_run : (ms : List Meaning) (k : ℕ) (p q : List ℕ) → AllOnTape ms → events_from (length ms + k) (p ++ (tape_of ms ++ q)) (length p) ≡ before_all ms (events_from k (p ++ (tape_of ms ++ q)) (length p + length (tape_of ms)))
unfolding tape_of before_all
events_run [] k p q h = rw (zero-add, add-zero)
events_run (m ∷ ms) k p q h =
    let s = bytes_for m in
    let t : List ℕ = p ++ (s ++ tape_of ms ++ q) in
    let e : t ≡ p ++ (s ++ (tape_of ms ++ q)) = rw (append_assoc s (tape_of ms) q) in
    let l : length p < length t = simp length-append (omega (arith, bytes_some m)) in
    let r : read_at t (length p) ≡ event m (length p + length s) = rw e (reads_back p m (tape_of ms ++ q) h.0) in
    let f : (p ++ s) ++ (tape_of ms ++ q) ≡ t = simp append_assoc in
    let n : length p + length s + length (tape_of ms) ≡ length p + length (s ++ tape_of ms) = simp length-append (omega arith) in
    let ih : events_from (length ms + k) t (length p + length s) ≡ before_all ms (events_from k t (length p + length (s ++ tape_of ms))) = rw (f, length-append p s, n) at (events_run ms k (p ++ s) q h.1) in
    rw suc-add (events_next (length ms + k) t (length p) m (length p + length s) l r ∙ ap (before m) ih)

-- an event has a byte at least
pub tape_long : (ms : List Meaning) → length ms ≤ length (tape_of ms)
unfolding tape_of
tape_long [] = omega arith
tape_long (m ∷ ms) = simp length-append (omega (arith, bytes_some m, tape_long ms))

-- the bytes of events are a whole tape of them
pub tape_whole : (ms : List Meaning) → AllOnTape ms → events_of (tape_of ms) ≡ whole ms
unfolding events_of
tape_whole ms h =
    let t = tape_of ms in
    let k = length t - length ms in
    let f : length ms + k ≡ length t = omega (arith, tape_long ms) in
    let r : events_from (length t) t 0 ≡ before_all ms (events_from k t (0 + length t)) = rw (append-nil, f) at (events_run ms k [] [] h) in
    r ∙ ap (before_all ms) (events_end k t (0 + length t) (omega arith)) ∙ all_whole ms

-- and with bytes behind them that are no event, a tape that is bad there
pub tape_broken : (ms : List Meaning) (q : List ℕ) → AllOnTape ms → 0 < length q → read_at (tape_of ms ++ q) (length (tape_of ms)) ≡ bad → events_of (tape_of ms ++ q) ≡ broken ms (length (tape_of ms))
unfolding events_of
tape_broken ms q h some e =
    let t : List ℕ = tape_of ms ++ q in
    let l : length t ≡ length (tape_of ms) + length q = length-append (tape_of ms) q in
    let j = length t - length ms - 1 in
    let f : length ms + suc j ≡ length t = omega (arith, tape_long ms) in
    let z : 0 + length (tape_of ms) ≡ length (tape_of ms) = omega arith in
    let r : events_from (length t) t 0 ≡ before_all ms (events_from (suc j) t (length (tape_of ms))) = rw (f, z) at (events_run ms (suc j) [] q h) in
    r ∙ ap (before_all ms) (events_bad j t (length (tape_of ms)) (omega arith) e) ∙ all_broken ms (length (tape_of ms))

pub tape_append : (ms ns : List Meaning) → tape_of (ms ++ ns) ≡ tape_of ms ++ tape_of ns
unfolding tape_of
tape_append [] ns = refl
tape_append (m ∷ ms) ns = rw (tape_append ms ns, append_assoc)

pub all_append : (ms ns : List Meaning) → AllOnTape ms → AllOnTape ns → AllOnTape (ms ++ ns)
all_append [] ns f g = g
all_append (m ∷ ms) ns f g = (f.0, all_append ms ns f.1 g)

-- an event appended to a whole tape is its last
pub append_last : (tape : List ℕ) (at : ℕ) (ms : List Meaning) (m : Meaning) (next : ℕ) → Bytes (take at tape) → events_of (take at tape) ≡ whole ms → InRange m → append_of tape at m ≡ held next → events_of (take next (append_to tape at m)) ≡ whole (ms ++ (m ∷ []))
unfolding tape_of
append_last tape at ms m next good w h e =
    let i = whole_is (take at tape) ms good w in
    let t : tape_of (ms ++ (m ∷ [])) ≡ take at tape ++ bytes_for m = tape_append ms (m ∷ []) ∙ rw (append-nil, ← i.1) in
    rw (append_held tape at m next e, ← t) (tape_whole (ms ++ (m ∷ [])) (all_append ms (m ∷ []) i.0 ((h, (appended tape at m next e).takes), tt)))
