-- The check of events and of more behind them: where the first are led on, the verdict on the others counts; where one of them is refused, nothing behind
-- it counts.
use Rattle.std.specs.Prelude.{Bool, false, cond, ◌⊎◌, ◌≡◌, refl}
use Rattle.std.proofs.Math.Bool.{true}
use mathlib.Core.List.{List, [], ◌∷◌, ◌++◌, append-nil}
use Rattle.std.proofs.Common.{inl, inr, sym, ap, ◌∙◌, zero-add, suc-add, arith}
use Prim.Native.Nat.{ℕ, suc, ◌+◌, ◌≤◌, ◌<◌}
use Rattle.std.proofs.Math.Nat.{add-zero}
use Rattle.std.proofs.Math.ListN.{length}
use Rattle.std.proofs.Math.Seq.{take_at, take-length}
use Rattle.number.specs.BeLaws.{Bytes}
use Rattle.event.specs.Format.{max_length}
use Rattle.event.specs.Meaning.{Meaning}
use Rattle.tape.specs.Code.{bytes_for, OnTape}
use Rattle.tape.specs.Events.{whole, broken, events_of, tape_of, meant_by, meanings_in, is_broken, start_at}
use Rattle.tape.proofs.EventsLaws.{AllOnTape, all_append, tape_append, tape_whole, tape_broken}
use Rattle.tape.specs.Item as item
use Rattle.tape.proofs.StartLaws.{Among}
use Rattle.grammar.specs.Check.{Move, onto, barred, move_of, check_of}
use Rattle.grammar.specs.More.{leads, behind, more_of, more_said}
use Rattle.grammar.specs.Said.{refused_at}
use Rattle.grammar.specs.Said as check
use Rattle.grammar.specs.Turn.{is_nothing, turn_of}
use Rattle.grammar.specs.TurnLaws.{turn_trails}
use Rattle.grammar.specs.Verdict.{Verdict, passes, unfinished, stops, later, last_of, judge_from, judge, said_by}
use Rattle.grammar.specs.VerdictLaws.{judge_meant, check_judged}
use Rattle.grammar.specs.declared.answer.Refusal.{Refusal}
use Rattle.grammar.specs.declared.answer.Refusal.TheVariants.{BadTape, IncompleteRoot, TrailingEvents}
use Rattle.grammar.specs.declared.turn.Due.{Due}
use Rattle.grammar.specs.declared.turn.Due.TheVariants.{Root}

behind_none : (v : Verdict) → behind 0 v ≡ v
unfolding behind
behind_none (passes n) = rw zero-add
behind_none unfinished = refl
behind_none (stops i r) = rw zero-add

behind_later : (n : ℕ) (v : Verdict) → later (behind n v) ≡ behind (suc n) v
unfolding behind later
behind_later n (passes k) = rw suc-add
behind_later n unfinished = refl
behind_later n (stops i r) = rw suc-add

-- events that are led on, and more
pub leads_append : (due : Due) (around : List Due) (ms ns : List Meaning) (d : Due) (ds : List Due) → leads due around ms ≡ onto d ds → leads due around (ms ++ ns) ≡ leads d ds ns
unfolding leads
leads_append due around [] ns d ds e =
    let a : due ≡ d = cc in
    let b : around ≡ ds = cc in
    rw (a, b)
leads_append due around (m ∷ ms) ns d ds e = go (move_of (turn_of due m) due around) refl (λ x xs. leads_append x xs ms ns d ds)
  where
    go : (v : Move) → move_of (turn_of due m) due around ≡ v → ((x : Due) (xs : List Due) → leads x xs ms ≡ onto d ds → leads x xs (ms ++ ns) ≡ leads d ds ns) → leads due around (m ∷ (ms ++ ns)) ≡ leads d ds ns
    go (onto x xs) f ih = rw (f, leads) (ih x xs (rw (f, leads) at e))
    go (barred r) f ih =
        let z : barred r ≡ onto d ds = rw (f, leads) at e in
        let y : ◌≡◌ {A = ℕ} 0 1 = cc in
        absurd (omega arith)

pub judge_led : (bad : Bool) (due : Due) (around : List Due) (ms ns : List Meaning) (d : Due) (ds : List Due) → leads due around ms ≡ onto d ds → judge_from bad due around (ms ++ ns) ≡ behind (length ms) (judge_from bad d ds ns)
unfolding leads judge_from
judge_led bad due around [] ns d ds e =
    let a : due ≡ d = cc in
    let b : around ≡ ds = cc in
    rw (a, b) (sym (behind_none _))
judge_led bad due around (m ∷ ms) ns d ds e = go (move_of (turn_of due m) due around) refl (λ x xs. judge_led bad x xs ms ns d ds)
  where
    go : (v : Move) → move_of (turn_of due m) due around ≡ v → ((x : Due) (xs : List Due) → leads x xs ms ≡ onto d ds → judge_from bad x xs (ms ++ ns) ≡ behind (length ms) (judge_from bad d ds ns))
        → judge_from bad due around (m ∷ (ms ++ ns)) ≡ behind (suc (length ms)) (judge_from bad d ds ns)
    go (onto x xs) f ih = rw (f, judge_from) (ap later (ih x xs (rw (f, leads) at e)) ∙ behind_later (length ms) _)
    go (barred r) f ih =
        let z : barred r ≡ onto d ds = rw (f, leads) at e in
        let y : ◌≡◌ {A = ℕ} 0 1 = cc in
        absurd (omega arith)

-- events of which one is refused
pub record Stopped (due : Due) (around : List Due) (ms : List Meaning) (r : Refusal) : Type 0 where
  pub event : ℕ
  pub within : event < length ms
  pub stopped : (bad : Bool) (ns : List Meaning) → judge_from bad due around (ms ++ ns) ≡ stops event r

pub judge_barred : (due : Due) (around : List Due) (ms : List Meaning) (r : Refusal) → leads due around ms ≡ barred r → Stopped due around ms r
unfolding leads judge_from later
judge_barred due around [] r e = let y : ◌≡◌ {A = ℕ} 0 1 = cc in absurd (omega arith)
judge_barred due around (m ∷ ms) r e = go (move_of (turn_of due m) due around) refl (λ x xs. judge_barred x xs ms r)
  where
    go : (v : Move) → move_of (turn_of due m) due around ≡ v → ((x : Due) (xs : List Due) → leads x xs ms ≡ barred r → Stopped x xs ms r) → Stopped due around (m ∷ ms) r
    go (onto x xs) f ih =
        let s = ih x xs (rw (f, leads) at e) in
        record { event = suc s.event; within = omega (arith, s.within); stopped = λ bad ns. rw (f, judge_from) (ap later (s.stopped bad ns)) }
    go (barred q) f ih =
        let z : barred q ≡ barred r = rw (f, leads) at e in
        let y : q ≡ r = cc in
        record { event = 0; within = omega arith; stopped = λ bad ns. rw (f, judge_from, y) }

-- events with nothing behind them, or with what is no event
pub judge_ends : (bad : Bool) (due : Due) (around : List Due) (ms : List Meaning) (d : Due) (ds : List Due) → leads due around ms ≡ onto d ds → judge_from bad due around ms ≡ behind (length ms) (last_of bad d)
unfolding judge_from
judge_ends bad due around ms d ds e = rw append-nil at (judge_led bad due around ms [] d ds e)

stopped : (bad : Bool) (due : Due) (around : List Due) (ms : List Meaning) (r : Refusal) (s : Stopped due around ms r) → judge_from bad due around ms ≡ stops s.event r
stopped bad due around ms r s = rw append-nil at (s.stopped bad [])

-- a tape that is bad behind its events is refused: at one of them, or at what is no event
pub bad_stops : (due : Due) (around : List Due) (ms : List Meaning) → (i : ℕ) × (r : Refusal) × (judge_from true due around ms ≡ stops i r)
unfolding behind last_of
bad_stops due around ms = go (leads due around ms) refl
  where
    go : (v : Move) → leads due around ms ≡ v → (i : ℕ) × (r : Refusal) × (judge_from true due around ms ≡ stops i r)
    go (onto d ds) e = (_, _, judge_ends true due around ms d ds e)
    go (barred r) e = (_, r, stopped true due around ms r (judge_barred due around ms r e))

-- which event is refused: one of them, or what is none behind them all
pub stops_within : (bad : Bool) (due : Due) (around : List Due) (ms : List Meaning) (i : ℕ) (r : Refusal) → judge_from bad due around ms ≡ stops i r → Among (length ms) bad i
unfolding behind last_of
stops_within bad due around ms i r f = go (leads due around ms) refl
  where
    last : (b : Bool) (d : Due) → behind (length ms) (last_of b d) ≡ stops i r → (i ≡ length ms) × (b ≡ true)
    last true d e =
        let x : length ms + 0 ≡ i = cc in
        (omega (arith, x), refl)
    last false d e = none (is_nothing d) e
      where
        none : (x : Bool) → behind (length ms) (cond x (passes 0) unfinished) ≡ stops i r → (i ≡ length ms) × (false ≡ true)
        none true e = let z : ◌≡◌ {A = ℕ} 0 1 = cc in absurd (omega arith)
        none false e = let z : ◌≡◌ {A = ℕ} 0 1 = cc in absurd (omega arith)

    go : (v : Move) → leads due around ms ≡ v → Among (length ms) bad i
    go (onto d ds) e = inr (last bad d (sym (judge_ends bad due around ms d ds e) ∙ f))
    go (barred q) e =
        let s = judge_barred due around ms q e in
        let x : stops s.event q ≡ stops i r = sym (stopped bad due around ms q s) ∙ f in
        let y : s.event ≡ i = cc in
        inl (rw (← y) s.within)

-- of a tape: an event, or the place where it is bad
pub stops_least : (tape : List ℕ) (i : ℕ) (r : Refusal) → judge (events_of tape) ≡ stops i r → i ≤ length (meanings_in tape)
unfolding meanings_in
stops_least tape i r e = go (stops_within (is_broken (events_of tape)) Root [] (meant_by (events_of tape)) i r (sym (judge_meant (events_of tape)) ∙ e))
  where
    go : Among (length (meant_by (events_of tape))) (is_broken (events_of tape)) i → i ≤ length (meant_by (events_of tape))
    go (inl h) = omega arith
    go (inr (h, b)) = omega arith

-- where a tape is bad behind events, and an event follows on another: the same verdict on both, or 20 at what is no event
pub bad_or_same : (bad : Bool) (due : Due) (around : List Due) (ms : List Meaning) (m : Meaning) (ns : List Meaning)
    → (judge_from true due around ms ≡ judge_from bad due around (ms ++ (m ∷ ns))) ⊎ (judge_from true due around ms ≡ stops (length ms) BadTape)
unfolding behind last_of judge_from move_of
bad_or_same bad due around ms m ns = go (leads due around ms) refl
  where
    last : (d : Due) (ds : List Due) (b : Bool) → leads due around ms ≡ onto d ds → is_nothing d ≡ b
        → (judge_from true due around ms ≡ judge_from bad due around (ms ++ (m ∷ ns))) ⊎ (judge_from true due around ms ≡ stops (length ms) BadTape)
    last d ds true e f = inl (judge_ends true due around ms d ds e ∙ rw (f, judge_led bad due around ms (m ∷ ns) d ds e, turn_trails d m f, judge_from))
    last d ds false e f = inr (judge_ends true due around ms d ds e ∙ rw (f, add-zero))

    go : (v : Move) → leads due around ms ≡ v → (judge_from true due around ms ≡ judge_from bad due around (ms ++ (m ∷ ns))) ⊎ (judge_from true due around ms ≡ stops (length ms) BadTape)
    go (onto d ds) e = last d ds (is_nothing d) e refl
    go (barred r) e =
        let s = judge_barred due around ms r e in
        inl (stopped true due around ms r s ∙ sym (s.stopped bad (m ∷ ns)))

-- ONE EVENT MORE, by events
pub judge_more : (due : Due) (around : List Due) (ms : List Meaning) (m : Meaning) (d : Due) (ds : List Due) → leads due around ms ≡ onto d ds → judge_from false due around (ms ++ (m ∷ [])) ≡ more_of (length ms) (move_of (turn_of d m) d ds)
unfolding judge_from more_of behind later last_of
judge_more due around ms m d ds e = judge_led false due around ms (m ∷ []) d ds e ∙ go (move_of (turn_of d m) d ds)
  where
    last : (b : Bool) → behind (length ms) (later (cond b (passes 0) unfinished)) ≡ cond b (passes (suc (length ms))) unfinished
    last true = ap passes (omega arith)
    last false = refl

    go : (v : Move) → behind (length ms) (elim v [ onto x xs ↦ later (judge_from false x xs []) | barred r ↦ stops 0 r ]) ≡ more_of (length ms) v
    go (onto x xs) = last (is_nothing x)
    go (barred r) = rw add-zero

said_more : (n at end : ℕ) (starts : ℕ → ℕ) → starts n ≡ at → (v : Move) → said_by 0 end starts (more_of n v) ≡ more_said n at end v
unfolding said_by more_of more_said
said_more n at end starts e (barred r) = rw e
said_more n at end starts e (onto d ds) = go (is_nothing d)
  where
    go : (b : Bool) → said_by 0 end starts (cond b (passes (suc n)) unfinished) ≡ cond b (check.whole (suc n)) (refused_at IncompleteRoot end)
    go true = rw zero-add
    go false = refl

-- and of its bytes behind theirs
module _ (ms : List Meaning) (held : AllOnTape ms) (due : Due) (around : List Due) (led : leads Root [] ms ≡ onto due around) where
  pub check_more : (m : Meaning) → OnTape m → Bytes (tape_of ms ++ bytes_for m) → length (tape_of ms ++ bytes_for m) ≤ max_length
      → check_of (tape_of ms ++ bytes_for m) ≡ more_said (length ms) (length (tape_of ms)) (length (tape_of ms ++ bytes_for m)) (move_of (turn_of due m) due around)
  unfolding judge meanings_in meant_by start_at tape_of
  check_more m h good short =
      let t : List ℕ = tape_of ms ++ bytes_for m in
      let ns : List Meaning = ms ++ (m ∷ []) in
      let is : tape_of ns ≡ t = tape_append ms (m ∷ []) ∙ rw append-nil in
      let e : events_of t ≡ whole ns = rw (← is) (tape_whole ns (all_append ms (m ∷ []) held (h, tt))) in
      let n : start_at t (length ms) ≡ length (tape_of ms) = rw (e, take_at ms (m ∷ []) (length ms) refl) in
      check_judged t good short ∙ rw (e, judge_more Root [] ms m due around led) (said_more (length ms) (length (tape_of ms)) (length t) (start_at t) n (move_of (turn_of due m) due around))

  -- what is no event behind them: 23 behind a whole root, else 20
  pub check_more_bad : (q : List ℕ) → 0 < length q → item.read_at (tape_of ms ++ q) (length (tape_of ms)) ≡ item.bad → Bytes (tape_of ms ++ q) → length (tape_of ms ++ q) ≤ max_length
      → check_of (tape_of ms ++ q) ≡ refused_at (cond (is_nothing due) TrailingEvents BadTape) (length (tape_of ms))
  unfolding judge meanings_in meant_by start_at last_of behind said_by
  check_more_bad q some b good short =
      let t : List ℕ = tape_of ms ++ q in
      let e : events_of t ≡ broken ms (length (tape_of ms)) = tape_broken ms q held some b in
      check_judged t good short ∙ rw (e, judge_ends true Root [] ms due around led, add-zero, e, take-length)
