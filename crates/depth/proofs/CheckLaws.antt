-- THE CHECK of a tape of arrays that stand inside each other, however many they are: it is whole exactly where they are 1 to max_open.
use Rattle.std.specs.Prelude.{Bool, true, false, cond, List, [], ◌∷◌, ◌++◌, ◌↔◌, ◌≡◌, refl, ℕ, zero, suc, ◌+◌, ◌-◌, ◌≤◌, ◌<◌, ltb, leb, length, take, replicate, None}
use Rattle.std.proofs.Common.{sym, ap, ◌∙◌, zero-add, arith, le-leb, ne_eqb, ltb-false, leb-true, leb-false, lit<, lit≤, length-append}
use Rattle.std.proofs.lemmas.Bool.{lt-leb}
use Rattle.std.proofs.lemmas.List.{length-replicate}
use Rattle.number.specs.BeLaws.{Bytes}
use Rattle.event.specs.Format.{max_length, max_open}
use Rattle.event.specs.Meaning.{Meaning, array, close}
use Rattle.tape.specs.Code.{bytes_for, allowed}
use Rattle.tape.specs.Events.{whole, events_of, tape_of}
use Rattle.tape.proofs.EventsLaws.{AllOnTape, tape_whole, tape_append}
use Rattle.grammar.specs.Check.{move_of, check_of}
use Rattle.grammar.specs.FitsLaws.{check_whole}
use Rattle.grammar.specs.Said as check
use Rattle.grammar.specs.Said.{number_of, kinds_of, refused_at}
use Rattle.grammar.specs.Turn.{is_nothing, after_of, unless_key, end_turn, turn_of}
use Rattle.grammar.specs.declared.answer.Refusal.TheVariants.{TooDeep}
use Rattle.grammar.specs.declared.turn.Due.{Due}
use Rattle.grammar.specs.declared.turn.Due.TheVariants.{Element, Nothing}
use Rattle.tape.specs.Events.{meant_by, meanings_in, start_at}
use Rattle.grammar.specs.Verdict.{Verdict, passes, unfinished, stops, later, last_of, judge_from, judge, said_by}
use Rattle.grammar.specs.VerdictLaws.{check_judged}
use Rattle.depth.specs.Nested.{nest, arrays, short_as, checked_as}

-- the tape is that of the events, and they are its events
copies : (n b : ℕ) (m : Meaning) → bytes_for m ≡ b ∷ [] → tape_of (replicate n m) ≡ replicate n b
unfolding tape_of
copies zero b m e = refl
copies (suc n) b m e = rw (e, copies n b m e)

pub tape_is : (n : ℕ) → tape_of (nest n) ≡ arrays n
unfolding nest arrays bytes_for
tape_is n = tape_append (replicate n (array None)) (replicate n close) ∙ rw (copies n 0x0A (array None) refl, copies n 0x0E close refl)

pub length_nest : (n : ℕ) → length (nest n) ≡ n + n
unfolding nest
length_nest n = length-append (replicate n (array None)) (replicate n close) ∙ rw (length-replicate n (array None), length-replicate n close)

length_arrays : (n : ℕ) → length (arrays n) ≡ n + n
unfolding arrays
length_arrays n = length-append (replicate n 0x0A) (replicate n 0x0E) ∙ rw (length-replicate {A = ℕ} n 0x0A, length-replicate {A = ℕ} n 0x0E)

held : (n : ℕ) → AllOnTape (nest n)
unfolding nest allowed
held n = starts n
  where
    ends : (j : ℕ) → AllOnTape (replicate j close)
    ends zero = tt
    ends (suc j) = ((tt, refl), ends j)

    starts : (i : ℕ) → AllOnTape (replicate i (array None) ++ replicate n close)
    starts zero = ends n
    starts (suc i) = ((tt, refl), starts i)

pub bytes_in_law : (n : ℕ) → Bytes (arrays n)
unfolding arrays
bytes_in_law n = starts n
  where
    ends : (j : ℕ) → Bytes (replicate j 0x0E)
    ends zero = tt
    ends (suc j) = (lit< tt, ends j)

    starts : (i : ℕ) → Bytes (replicate i 0x0A ++ replicate n 0x0E)
    starts zero = ends n
    starts (suc i) = (lit< tt, starts i)

events_are : (n : ℕ) → events_of (arrays n) ≡ whole (nest n)
events_are n = rw (tape_is n) at (tape_whole (nest n) (held n))

pub meanings_are : (n : ℕ) → meanings_in (arrays n) ≡ nest n
unfolding meanings_in meant_by
meanings_are n = rw (events_are n)

-- event i, a start, begins at i
starts_at : (n i : ℕ) → i ≤ n → start_at (arrays n) i ≡ i
unfolding start_at nest bytes_for
starts_at n i h = rw (meanings_are n, front i n h, copies i 0x0A (array None) refl) (length-replicate i 0x0A)
  where
    front : (i k : ℕ) → i ≤ k → take i (replicate k (array None) ++ replicate n close) ≡ replicate i (array None)
    front zero k h = refl
    front (suc i) zero h = absurd (omega arith)
    front (suc i) (suc k) h = ap (λ (l : List Meaning). array None ∷ l) (front i k (omega arith))

-- what is due once each of d + 1 open arrays is closed
abbrev around : ℕ → List Due
around zero = Nothing ∷ []
around (suc d) = Element ∷ around d

length_around : (d : ℕ) → length (around d) ≡ suc d
length_around zero = refl
length_around (suc d) = ap suc (length_around d)

-- one array more, and one too many
judge_start : (d : ℕ) (ms : List Meaning) → suc d < max_open → judge_from false Element (around d) (array None ∷ ms) ≡ later (judge_from false Element (around (suc d)) ms)
unfolding judge_from move_of turn_of unless_key after_of
judge_start d ms h = rw (length_around d, lt-leb max_open (suc d) h, judge_from)

judge_full : (d : ℕ) (ms : List Meaning) → max_open ≤ suc d → judge_from false Element (around d) (array None ∷ ms) ≡ stops 0 TooDeep
unfolding judge_from move_of turn_of unless_key after_of
judge_full d ms h = rw (length_around d, le-leb max_open (suc d) h, judge_from)

judge_ends : (d : ℕ) → judge_from false Element (around d) (replicate (suc d) close) ≡ passes (suc d)
unfolding judge_from move_of turn_of end_turn later last_of is_nothing
judge_ends zero = refl
judge_ends (suc d) = rw (judge_ends d)

-- q arrays more, where they aren't too many, and where they are
judge_within : (q d : ℕ) → q + suc d ≤ max_open → judge_from false Element (around d) (replicate q (array None) ++ replicate (q + suc d) close) ≡ passes (q + (q + suc d))
unfolding later
judge_within zero d h = rw (zero-add (suc d), zero-add (suc d)) (judge_ends d)
judge_within (suc q) d h =
    let e : suc q + suc d ≡ q + suc (suc d) = omega arith in
    let f : suc (q + (q + suc (suc d))) ≡ suc q + (q + suc (suc d)) = omega arith in
    rw e (judge_start d (replicate q (array None) ++ replicate (q + suc (suc d)) close) (omega arith) ∙ ap later (judge_within q (suc d) (omega arith)) ∙ ap passes f)

judge_deep : (q d : ℕ) (ms : List Meaning) → d < max_open → max_open < q + suc d → judge_from false Element (around d) (replicate q (array None) ++ ms) ≡ stops (max_open - suc d) TooDeep
unfolding later
judge_deep zero d ms g h = absurd (omega arith)
judge_deep (suc q) d ms g h = go (leb max_open (suc d)) refl (λ lt. judge_deep q (suc d) ms lt (omega arith))
  where
    rest : List Meaning
    rest = replicate q (array None) ++ ms

    go : (b : Bool) → leb max_open (suc d) ≡ b → (suc d < max_open → judge_from false Element (around (suc d)) rest ≡ stops (max_open - suc (suc d)) TooDeep)
        → judge_from false Element (around d) (array None ∷ rest) ≡ stops (max_open - suc d) TooDeep
    go true e ih =
        let z : 0 ≡ max_open - suc d = omega (arith, leb-true max_open (suc d) e) in
        judge_full d rest (leb-true max_open (suc d) e) ∙ ap (λ (i : ℕ). stops i TooDeep) z
    go false e ih =
        let lt : suc d < max_open = leb-false max_open (suc d) e in
        let z : suc (max_open - suc (suc d)) ≡ max_open - suc d = omega arith in
        judge_start d rest lt ∙ ap later (ih lt) ∙ ap (λ (i : ℕ). stops i TooDeep) z

-- the root
judge_root : (ms : List Meaning) → judge (whole (array None ∷ ms)) ≡ later (judge_from false Element (around 0) ms)
unfolding judge judge_from move_of turn_of unless_key after_of
judge_root ms = refl

judged_within : (k : ℕ) → k < max_open → judge (whole (nest (suc k))) ≡ passes (suc k + suc k)
unfolding nest later
judged_within k h =
    let e : suc k ≡ k + 1 = omega arith in
    let f : suc (k + (k + 1)) ≡ suc k + suc k = omega arith in
    judge_root (replicate k (array None) ++ replicate (suc k) close)
    ∙ ap (λ (j : ℕ). later (judge_from false Element (around 0) (replicate k (array None) ++ replicate j close))) e
    ∙ ap later (judge_within k 0 (omega arith))
    ∙ ap passes f

judged_deep : (k : ℕ) → max_open ≤ k → judge (whole (nest (suc k))) ≡ stops max_open TooDeep
unfolding nest later
judged_deep k h = judge_root (replicate k (array None) ++ replicate (suc k) close) ∙ ap later (judge_deep k 0 (replicate (suc k) close) (lit< tt) (omega arith))

-- what the check says, by the verdict
by_verdict : (n : ℕ) (v : Verdict) → n + n ≤ max_length → judge (whole (nest n)) ≡ v → check_of (arrays n) ≡ said_by 0 (n + n) (start_at (arrays n)) v
by_verdict n v h e = check_judged (arrays n) (bytes_in_law n) (rw (length_arrays n) h) ∙ rw (events_are n, e, length_arrays n)

none_checked : check_of (arrays 0) ≡ check.refused 22 [] 0
unfolding nest judge judge_from last_of is_nothing said_by refused_at number_of kinds_of
none_checked = by_verdict 0 unfinished (lit≤ tt) refl

pub within_checked : (k : ℕ) → k < max_open → check_of (arrays (suc k)) ≡ check.whole (suc k + suc k)
unfolding said_by
within_checked k h = by_verdict (suc k) (passes (suc k + suc k)) (omega arith) (judged_within k h) ∙ ap check.whole (zero-add (suc k + suc k))

pub deep_checked : (k : ℕ) → max_open ≤ k → suc k + suc k ≤ max_length → check_of (arrays (suc k)) ≡ check.refused 15 [] max_open
unfolding said_by refused_at number_of kinds_of
deep_checked k h s = by_verdict (suc k) (stops max_open TooDeep) s (judged_deep k h) ∙ ap (check.refused 15 []) (starts_at (suc k) max_open (omega arith))

-- THE CHECK
checked_short : (n : ℕ) → n + n ≤ max_length → check_of (arrays n) ≡ short_as n
unfolding short_as
checked_short zero s = none_checked
checked_short (suc k) s = rw (ne_eqb (suc k) 0 (λ e. omega arith)) (go (leb (suc k) max_open) refl)
  where
    go : (b : Bool) → leb (suc k) max_open ≡ b → check_of (arrays (suc k)) ≡ cond b (check.whole (suc k + suc k)) (check.refused 15 [] max_open)
    go true e = within_checked k (omega (arith, leb-true (suc k) max_open e))
    go false e = deep_checked k (omega (arith, leb-false (suc k) max_open e)) s

pub checked : (n : ℕ) → check_of (arrays n) ≡ checked_as n
unfolding checked_as check_of refused_at number_of kinds_of
checked n = go (ltb max_length (n + n)) refl
  where
    go : (b : Bool) → ltb max_length (n + n) ≡ b → check_of (arrays n) ≡ cond b (check.refused 1 [] 0) (short_as n)
    go true e = rw (length_arrays n, e)
    go false e = checked_short n (ltb-false max_length (n + n) e)

-- so the tape is whole exactly where there are 1 to max_open
pub whole_exactly : (n : ℕ) → ((m : ℕ) × (check_of (arrays n) ≡ check.whole m)) ↔ ((0 < n) × (n ≤ max_open))
whole_exactly n = (only n, are n)
  where
    apart : {A : Type 0} (number place m : ℕ) → check.refused number [] place ≡ check.whole m → A
    apart number place m e = let z : ◌≡◌ {A = ℕ} 0 1 = cc in absurd (omega arith)

    only : (n : ℕ) → (m : ℕ) × (check_of (arrays n) ≡ check.whole m) → (0 < n) × (n ≤ max_open)
    only zero w = apart 22 0 w.0 (sym none_checked ∙ w.1)
    only (suc k) w = (omega arith, go (leb (suc k) max_open) refl)
      where
        go : (b : Bool) → leb (suc k) max_open ≡ b → suc k ≤ max_open
        go true e = leb-true (suc k) max_open e
        go false e =
            let s : suc k + suc k ≤ max_length = rw (length_arrays (suc k)) at (check_whole (arrays (suc k)) w.0 w.1).short in
            apart 15 max_open w.0 (sym (deep_checked k (omega (arith, leb-false (suc k) max_open e)) s) ∙ w.1)

    are : (n : ℕ) → (0 < n) × (n ≤ max_open) → (m : ℕ) × (check_of (arrays n) ≡ check.whole m)
    are zero h = absurd (omega (arith, h.0))
    are (suc k) h = (suc k + suc k, within_checked k (omega (arith, h.1)))
