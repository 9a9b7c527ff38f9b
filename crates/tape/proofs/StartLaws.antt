-- Where events begin on a tape.
use Rattle.std.specs.Prelude.{Bool, true, List, ◌++◌, ◌⊎◌, ◌≡◌, refl, ℕ, ◌+◌, ◌-◌, ◌≤◌, ◌<◌, length, take, drop}
use Rattle.std.proofs.lemmas.Bool.{false≢true}
use Rattle.std.proofs.Common.{inl, inr, sym, ap, ◌∙◌, arith, length-append, length-drop, take-append-drop, length-take-le}
use Rattle.number.specs.BeLaws.{Bytes}
use Rattle.event.specs.Meaning.{Meaning}
use Rattle.tape.specs.Events.{Events, whole, broken, events_of, tape_of, meant_by, meanings_in, is_broken, start_at}
use Rattle.tape.proofs.EventsLaws.{whole_is, broken_is, tape_append, tape_long}

-- one of n events, or what is none behind them all
abbrev pub Among : ℕ → Bool → ℕ → Type 0
Among n bad i = (i < n) ⊎ ((i ≡ n) × (bad ≡ true))

-- behind an event there are as many bytes as events at least
tape_take : (i : ℕ) (ms : List Meaning) → length (tape_of (take i ms)) + (length ms - i) ≤ length (tape_of ms)
tape_take i ms =
    let e : tape_of ms ≡ tape_of (take i ms) ++ tape_of (drop i ms) = ap tape_of (sym (take-append-drop i ms)) ∙ tape_append (take i ms) (drop i ms) in
    omega (arith, ap length e, length-append (tape_of (take i ms)) (tape_of (drop i ms)), tape_long (drop i ms), length-drop i ms)

-- an event begins within the tape, and so does what is none behind them all
pub start_inside : (tape : List ℕ) (i : ℕ) → Bytes tape → Among (length (meanings_in tape)) (is_broken (events_of tape)) i → start_at tape i < length tape
unfolding meanings_in meant_by start_at
start_inside tape i good = go (events_of tape) refl
  where
    go : (es : Events) → events_of tape ≡ es → Among (length (meant_by es)) (is_broken es) i → length (tape_of (take i (meant_by es))) < length tape
    go (whole ms) e (inl h) = omega (arith, tape_take i ms, ap length (whole_is tape ms good e).1)
    go (whole ms) e (inr (h, f)) = absurd (false≢true f)
    go (broken ms place) e h =
        let w = broken_is tape ms place good e in
        let l : length (tape_of ms) ≡ place = sym (ap length w.front) ∙ length-take-le place tape (omega (arith, w.within)) in
        omega (arith, tape_take i ms, w.within)
