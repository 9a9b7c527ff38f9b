-- The check of a tape is the verdict on its events, with the places of this tape.
use Rattle.std.specs.Prelude.{Bool, cond, List, [], ◌∷◌, map, ltb, length, take}
use Rattle.std.proofs.Math.Bool.{true, false}
use Rattle.std.proofs.Math.Path.{◌≡◌, refl, sym, ap}
use Rattle.std.proofs.Common.{◌∙◌, zero-add, arith}
use Prim.Native.Nat.{ℕ, zero, suc, ◌+◌, ◌≤◌, ◌<◌}
use Rattle.std.proofs.Math.Nat.{add-zero}
use borrow.Author.Tests.{lt-ltb, le-ltb, le-leb, lt-leb, ltb-true, ltb-false}
use Rattle.std.proofs.Math.ListN.{length-append}
use Rattle.number.specs.BeLaws.{Bytes}
use Rattle.event.specs.Format.{max_length}
use Rattle.event.specs.Meaning.{Meaning}
use Rattle.event.specs.Unmeasured.{unmeasured}
use Rattle.tape.specs.Events.{Events, whole, broken, before, events_from, events_of, tape_of, meant_by, meanings_in, is_broken, start_at}
use Rattle.tape.proofs.FormLaws.{reads_written}
use Rattle.tape.specs.Item.{Reading, event, bad, read_at}
use Rattle.grammar.specs.Check.{Move, onto, barred, move_of, finish_of, check_from, check_of}
use Rattle.grammar.specs.Said.{refused_at}
use Rattle.grammar.specs.Said as check
use Rattle.grammar.specs.Turn.{is_nothing, stopped_at, turn_by, turn_of, turn_at}
use Rattle.grammar.specs.TurnLaws.{turn_unmeasured, turn_trails}
use Rattle.grammar.specs.Verdict.{Verdict, passes, unfinished, stops, later, last_of, judge_from, judge, said_by}
use Rattle.grammar.specs.declared.answer.Refusal.TheVariants.{BadTape, IncompleteRoot, TrailingEvents}
use Rattle.grammar.specs.declared.turn.Due.{Due}
use Rattle.grammar.specs.declared.turn.Due.TheVariants.{Root}
use Rattle.grammar.specs.declared.turn.Turn.{Turn}
use Rattle.grammar.specs.declared.turn.Turn.TheVariants.{Stop}

-- where the events that begin at a place stand
abbrev Starts : (ℕ → ℕ) → ℕ → List Meaning → Type 0
Starts starts at ms = (i : ℕ) → starts i ≡ at + length (tape_of (take i ms))

said_later : (n end : ℕ) (starts : ℕ → ℕ) (v : Verdict) → said_by n end starts (later v) ≡ said_by (n + 1) end (λ (i : ℕ). starts (suc i)) v
unfolding said_by later
said_later n end starts (passes k) = ap check.whole (omega arith)
said_later n end starts unfinished = refl
said_later n end starts (stops i r) = refl

meant_before : (m : Meaning) (es : Events) → (meant_by (before m es) ≡ m ∷ meant_by es) × (is_broken (before m es) ≡ is_broken es)
unfolding before meant_by
meant_before m (whole ms) = (refl, refl)
meant_before m (broken ms place) = (refl, refl)

-- the end of the tape
finish_said : (tape : List ℕ) (n : ℕ) (due : Due) (starts : ℕ → ℕ) → finish_of tape n due ≡ said_by n (length tape) starts (last_of false due)
unfolding finish_of said_by last_of
finish_said tape n due starts = go (is_nothing due)
  where
    go : (b : Bool) → cond b (check.whole n) (refused_at IncompleteRoot (length tape)) ≡ said_by n (length tape) starts (cond b (passes 0) unfinished)
    go true = ap check.whole (sym (add-zero n))
    go false = refl

abbrev After : ℕ → List ℕ → ℕ → ℕ → ℕ → Move → check.Said
After k tape n at next (onto d ds) = check_from k tape (n + 1) next d ds
After k tape n at next (barred r) = refused_at r at

-- one turn of the check, and of the walk over events
module _ (k : ℕ) (tape : List ℕ) (n at : ℕ) (due : Due) (around : List Due) (h : at < length tape) where
  check_turn : (t : Turn) (next : ℕ) → (turn_at tape at due).turn ≡ t → (turn_at tape at due).next ≡ next → check_from (suc k) tape n at due around ≡ After k tape n at next (move_of t due around)
  unfolding check_from
  check_turn t next e f =
      rw (← e, ← f, lt-ltb at (length tape) h) (go (turn_at tape at due).next (move_of (turn_at tape at due).turn due around))
    where
      go : (next : ℕ) (v : Move) → ◌≡◌ {A = check.Said} (elim v [ onto d ds ↦ check_from k tape (n + 1) next d ds | barred r ↦ refused_at r at ]) (After k tape n at next v)
      go next (onto d ds) = refl
      go next (barred r) = refl

  -- what is no event
  check_bad : read_at tape at ≡ bad → (starts : ℕ → ℕ) → starts 0 ≡ at → check_from (suc k) tape n at due around ≡ said_by n (length tape) starts (last_of true due)
  unfolding turn_at turn_by stopped_at move_of said_by last_of
  check_bad e starts s = go (is_nothing due) refl
    where
      go : (b : Bool) → is_nothing due ≡ b → check_from (suc k) tape n at due around ≡ said_by n (length tape) starts (last_of true due)
      go true f = check_turn (Stop TrailingEvents) at (rw f) (rw f) ∙ rw (f, s)
      go false f = check_turn (Stop BadTape) at (rw (f, e)) (rw (f, e)) ∙ rw (f, s)

  -- an event; behind the root it isn't looked at, and moves as little
  check_event : (m : Meaning) (next : ℕ) → read_at tape at ≡ event m next → check_from (suc k) tape n at due around ≡ After k tape n at next (move_of (turn_of due m) due around)
  unfolding turn_at turn_by stopped_at move_of
  check_event m next e = go (is_nothing due) refl
    where
      go : (b : Bool) → is_nothing due ≡ b → check_from (suc k) tape n at due around ≡ After k tape n at next (move_of (turn_of due m) due around)
      go true f = check_turn (Stop TrailingEvents) at (rw f) (rw f) ∙ rw (turn_trails due m f)
      go false f = check_turn (turn_of due m) next (rw (f, e)) (rw (f, e))

-- what a check says at a place, behind n events, where these events follow
abbrev Says : List ℕ → ℕ → ℕ → Due → List Due → Events → check.Said → Type 0
Says tape n at due around es said =
    (starts : ℕ → ℕ) → Starts starts at (meant_by es) → said ≡ said_by n (length tape) starts (judge_from (is_broken es) due around (meant_by es))

abbrev Onward : ℕ → List ℕ → Type 0
Onward k tape = (n at : ℕ) (due : Due) (around : List Due) → Says tape n at due around (events_from k tape at) (check_from k tape n at due around)

module _ (k : ℕ) (tape : List ℕ) (n at : ℕ) (due : Due) (around : List Due) (h : at < length tape) where
  says_bad : read_at tape at ≡ bad → Says tape n at due around (events_from (suc k) tape at) (check_from (suc k) tape n at due around)
  unfolding events_from meant_by judge_from tape_of
  says_bad g =
      rw (lt-leb (length tape) at h, g, events_from)
      (λ starts s. check_bad k tape n at due around h g starts (s 0 ∙ add-zero at))

  says_event : Bytes tape → (m : Meaning) (next : ℕ) → read_at tape at ≡ event m next → Onward k tape → Says tape n at due around (events_from (suc k) tape at) (check_from (suc k) tape n at due around)
  unfolding events_from judge_from tape_of said_by
  says_event good m next g onward =
      rw (lt-leb (length tape) at h, g, events_from)
      (let es = events_from k tape next in
      let b = meant_before m es in
      rw (b.0, b.1)
      (λ starts s. check_event k tape n at due around h m next g ∙ moved starts s (move_of (turn_of due m) due around)))
    where
      moved : (starts : ℕ → ℕ) → Starts starts at (m ∷ meant_by (events_from k tape next)) → (v : Move)
          → After k tape n at next v ≡ said_by n (length tape) starts (elim v [ onto d ds ↦ later (judge_from (is_broken (events_from k tape next)) d ds (meant_by (events_from k tape next))) | barred r ↦ stops 0 r ])
      moved starts s (barred r) = ap (refused_at r) (sym (s 0 ∙ add-zero at))
      moved starts s (onto d ds) =
          let ends = (reads_written tape at m next good g).stands.ends in
          let next_starts : Starts (λ (i : ℕ). starts (suc i)) next (meant_by (events_from k tape next)) = λ i. s (suc i) ∙ simp length-append (omega (arith, ends)) in
          onward (n + 1) next d ds (λ (i : ℕ). starts (suc i)) next_starts ∙ sym (said_later n (length tape) starts _)

says : (k : ℕ) (tape : List ℕ) → Bytes tape → Onward k tape
unfolding check_from events_from meant_by judge_from
says zero tape good n at due around = λ starts s. finish_said tape n due starts
says (suc k) tape good n at due around = go (ltb at (length tape)) refl (says k tape good)
  where
    read : (r : Reading) → read_at tape at ≡ r → at < length tape → Onward k tape → Says tape n at due around (events_from (suc k) tape at) (check_from (suc k) tape n at due around)
    read bad g h onward = says_bad k tape n at due around h g
    read (event m next) g h onward = says_event k tape n at due around h good m next g onward

    go : (b : Bool) → ltb at (length tape) ≡ b → Onward k tape → Says tape n at due around (events_from (suc k) tape at) (check_from (suc k) tape n at due around)
    go true f onward = read (read_at tape at) refl (ltb-true at (length tape) f) onward
    go false f onward = rw (f, le-leb (length tape) at (ltb-false at (length tape) f)) (λ starts s. finish_said tape n due starts)

pub judge_meant : (es : Events) → judge es ≡ judge_from (is_broken es) Root [] (meant_by es)
unfolding judge meant_by
judge_meant (whole ms) = refl
judge_meant (broken ms place) = refl

-- THE CHECK of a tape that is not too long
pub check_judged : (t : List ℕ) → Bytes t → length t ≤ max_length → check_of t ≡ said_by 0 (length t) (start_at t) (judge (events_of t))
unfolding check_of events_of start_at meanings_in
check_judged t good short =
    rw (le-ltb max_length (length t) short, judge_meant)
    (says (length t) t good 0 0 Root [] (start_at t) (λ i. sym (zero-add _)))

after_same : (b : Bool) (ms ns : List Meaning) (v : Move) → ((d : Due) (ds : List Due) → judge_from b d ds ms ≡ judge_from b d ds ns)
    → ◌≡◌ {A = Verdict} (elim v [ onto d ds ↦ later (judge_from b d ds ms) | barred r ↦ stops 0 r ]) (elim v [ onto d ds ↦ later (judge_from b d ds ns) | barred r ↦ stops 0 r ])
after_same b ms ns (onto d ds) e = ap later (e d ds)
after_same b ms ns (barred r) e = refl

-- the verdict goes by events without given lengths
pub judge_unmeasured : (b : Bool) (due : Due) (around : List Due) (ms : List Meaning) → judge_from b due around (map unmeasured ms) ≡ judge_from b due around ms
unfolding judge_from
judge_unmeasured b due around [] = refl
judge_unmeasured b due around (m ∷ ms) = rw (turn_unmeasured due m, judge_from) (after_same b (map unmeasured ms) ms (move_of (turn_of due m) due around) (λ d ds. judge_unmeasured b d ds ms))
