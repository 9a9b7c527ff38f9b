-- What calls lead to: the bytes held are those of the events that were taken, and the state is the one behind them. A call is refused as the check
-- refuses what is held with the event behind it.
use Rattle.std.specs.Prelude.{Bool, ℕ, suc, ◌+◌, ◌≤◌, ◌<◌, leb, eqb}
use Rattle.std.proofs.Math.Bool.{true, false, cond}
use mathlib.Core.List.{List, [], ◌∷◌, ◌++◌, append-nil}
use Rattle.std.proofs.Math.Path.{◌≡◌, refl, ap}
use Rattle.std.proofs.Common.{sym, ◌∙◌, arith, length-take-le}
use borrow.Author.Tests.{le-ltb, lt-ltb, ltb-true, ltb-false, leb-true}
use Rattle.std.proofs.Math.Dec.{ltb}
use Rattle.std.proofs.Math.ListN.{length, take, length-append}
use Rattle.std.proofs.Math.Seq.{sets, length-sets}
use Rattle.event.specs.Format.{max_length}
use Rattle.event.specs.Meaning.{Meaning}
use Rattle.number.specs.BeLaws.{Bytes, bytes_append}
use Rattle.grammar.specs.Check.{onto, barred, check_of}
use Rattle.grammar.specs.More.{leads, more_said}
use Rattle.grammar.specs.MoreLaws.{leads_append, check_more, check_more_bad}
use Rattle.grammar.specs.Said as check
use Rattle.grammar.specs.Said.{number_of, kinds_of, refused_at}
use Rattle.grammar.specs.Turn.{is_nothing, turn_of}
use Rattle.grammar.specs.TurnLaws.{turn_trails}
use Rattle.grammar.specs.Way.{way_by, way_of, move_by}
use Rattle.grammar.specs.WayLaws.{Tells, way_tells}
use Rattle.grammar.specs.declared.answer.EventKind.{EventKind}
use Rattle.grammar.specs.declared.answer.Refusal.{Refusal}
use Rattle.grammar.specs.declared.answer.Refusal.TheVariants.{BadTape, IncompleteRoot, TrailingEvents}
use Rattle.grammar.specs.declared.turn.Due.{Due}
use Rattle.grammar.specs.declared.turn.Due.TheVariants.{Root}
use Rattle.grammar.specs.declared.way.Way.{Way}
use Rattle.grammar.specs.declared.way.Way.TheVariants.{Past, Into, Out, Barred}
use Rattle.tape.specs.Append as append
use Rattle.tape.specs.Append.{fits, put_of, put_to, append_of, append_to}
use Rattle.tape.proofs.AppendLaws.{append_held}
use Rattle.tape.proofs.BadLaws.{bad_here}
use Rattle.tape.specs.BytesLaws.{Sound, sound_bytes}
use Rattle.tape.specs.Code.{bytes_for, allowed}
use Rattle.tape.proofs.CodeLaws.{bytes_some}
use Rattle.tape.specs.Events.{tape_of}
use Rattle.tape.proofs.EventsLaws.{AllOnTape, all_append, tape_append}
use Rattle.writer.specs.Write.{write_of, output_of, used_of}
use Rattle.builder.specs.Build.{Said, holds, refused, judge_of, fitted_of, by_way, build_of, tape_by, tape_after, builder_by, builder_after}
use Rattle.builder.specs.FitLaws.{Fits, way_fits}
use Rattle.builder.specs.Finish.{finish_of, finish_output, finish_used}
use Rattle.builder.specs.SaneLaws.{Sane, sane_empty, sane_open, sane_moves, Follows, follows}
use Rattle.builder.specs.State.{empty_builder, due_of, open_from, open_of, moved_by}
use Rattle.builder.specs.declared.state.Builder.{Builder}

-- a refused call leaves the builder and the tape as they were
pub refused_keeps : (b : Builder) (tape : List ℕ) (m : Meaning) (n : ℕ) (ks : List EventKind) (p : ℕ) → build_of b (length tape) m ≡ refused n ks p → (builder_after b (length tape) m ≡ b) × (tape_after b tape m ≡ tape)
unfolding builder_after builder_by tape_after tape_by
refused_keeps b tape m n ks p e = (rw e, rw e)

-- a builder behind events, over a tape of which it holds the front
pub record Stands (b : Builder) (tape : List ℕ) (ms : List Meaning) : Type 0 where
  pub sane : Sane b
  pub fine : AllOnTape ms
  pub good : Bytes (tape_of ms)
  pub led : leads Root [] ms ≡ onto (due_of b.due) (open_of b)
  pub lent : b.held ≤ length tape
  pub front : take b.held tape ≡ tape_of ms

-- an empty builder is behind no event, whatever is lent
pub stands_empty : (tape : List ℕ) → Stands empty_builder tape []
unfolding leads due_of open_of open_from tape_of
stands_empty tape = record { sane = sane_empty; fine = tt; good = tt; led = refl; lent = omega arith; front = refl }

-- what lies on the tape behind the bytes held doesn't count
pub stands_still : (b : Builder) (s t : List ℕ) (ms : List Meaning) → Stands b s ms → b.held ≤ length t → take b.held t ≡ take b.held s → Stands b t ms
stands_still b s t ms x h e = record { sane = x.sane; fine = x.fine; good = x.good; led = x.led; lent = h; front = e ∙ x.front }

-- as many bytes are held as the events have
pub held_length : (b : Builder) (tape : List ℕ) (ms : List Meaning) → Stands b tape ms → b.held ≡ length (tape_of ms)
held_length b tape ms x = sym (length-take-le b.held tape x.lent) ∙ ap length x.front

-- an event that the tape takes is judged by its way; one that isn't barred is such an event
pub judge_way : (due : Due) (depth : ℕ) (m : Meaning) → allowed m ≡ true → judge_of due depth m ≡ way_of due depth m
unfolding judge_of way_of way_by
judge_way due depth m a = go (is_nothing due) refl
  where
    go : (x : Bool) → is_nothing due ≡ x → judge_of due depth m ≡ way_of due depth m
    go true f = rw (f, turn_trails due m f)
    go false f = rw (f, a)

-- its way is not barred
abbrev pub Clear : Way → Type 0
Clear w = (r : Refusal) → w ≡ Barred r → ⊥

judge_clear : (due : Due) (depth : ℕ) (m : Meaning) → Clear (judge_of due depth m) → allowed m ≡ true
unfolding judge_of
judge_clear due depth m led = go (is_nothing due) (allowed m) refl refl
  where
    go : (x y : Bool) → is_nothing due ≡ x → allowed m ≡ y → allowed m ≡ true
    go true y f g = absurd (led TrailingEvents (rw f))
    go false false f g = absurd (led BadTape (rw (f, g)))
    go false true f g = g

-- what the way of an event that is judged tells of the state
pub judge_tells : (due : Due) (depth : ℕ) (m : Meaning) → Tells depth (judge_of due depth m)
unfolding judge_of way_of
judge_tells due depth m = go (is_nothing due) (allowed m)
  where
    go : (x y : Bool) → Tells depth (cond x (Barred TrailingEvents) (cond y (way_by (turn_of due m) due depth) (Barred BadTape)))
    go true y = tt
    go false true = way_tells (turn_of due m) due depth
    go false false = tt

-- what a call that is taken tells
pub record Taken (b : Builder) (tape : List ℕ) (m : Meaning) (n : ℕ) : Type 0 where
  pub clear : Clear (judge_of (due_of b.due) b.depth m)
  pub room : leb (b.held + length (bytes_for m)) (length tape) ≡ true
  pub ends : n ≡ b.held + length (bytes_for m)

fitted_holds : (at size room n : ℕ) → fitted_of at size room ≡ holds n → (leb (at + size) room ≡ true) × (n ≡ at + size)
unfolding fitted_of
fitted_holds at size room n = go (leb (at + size) room)
  where
    go : (x : Bool) → cond x (holds (at + size)) (refused 27 [] at) ≡ holds n → (x ≡ true) × (n ≡ at + size)
    go true e = (refl, cc)
    go false e = let z : ◌≡◌ {A = ℕ} 0 1 = cc in absurd (omega arith)

way_holds : (at size room n : ℕ) (w : Way) → by_way at size room w ≡ holds n → Clear w × (fitted_of at size room ≡ holds n)
unfolding by_way
way_holds at size room n (Past next) e = ((λ r f. let z : ◌≡◌ {A = ℕ} 0 1 = cc in omega arith), e)
way_holds at size room n (Into first after) e = ((λ r f. let z : ◌≡◌ {A = ℕ} 0 1 = cc in omega arith), e)
way_holds at size room n Out e = ((λ r f. let z : ◌≡◌ {A = ℕ} 0 1 = cc in omega arith), e)
way_holds at size room n (Barred r) e = let z : ◌≡◌ {A = ℕ} 0 1 = cc in absurd (omega arith)

module _ (b : Builder) (tape : List ℕ) (m : Meaning) where
  pub taken : (n : ℕ) → build_of b (length tape) m ≡ holds n → Taken b tape m n
  unfolding build_of
  taken n e = go (ltb (length tape) b.held) (ltb max_length (b.held + length (bytes_for m))) refl refl
    where
      go : (x y : Bool) → ltb (length tape) b.held ≡ x → ltb max_length (b.held + length (bytes_for m)) ≡ y → Taken b tape m n
      go true y f g =
          let h : refused 32 [] 0 ≡ holds n = rw f at e in
          let z : ◌≡◌ {A = ℕ} 0 1 = cc in
          absurd (omega arith)
      go false true f g =
          let h : refused 1 [] 0 ≡ holds n = rw (f, g) at e in
          let z : ◌≡◌ {A = ℕ} 0 1 = cc in
          absurd (omega arith)
      go false false f g =
          let h : by_way b.held (length (bytes_for m)) (length tape) (judge_of (due_of b.due) b.depth m) ≡ holds n = rw (f, g) at e in
          let k = way_holds b.held (length (bytes_for m)) (length tape) n (judge_of (due_of b.due) b.depth m) h in
          let j = fitted_holds b.held (length (bytes_for m)) (length tape) n k.1 in
          record { clear = k.0; room = j.0; ends = j.1 }

  moved_held : (n : ℕ) (w : Way) → Clear w → (moved_by w b n).held ≡ n
  unfolding moved_by
  moved_held n (Past next) led = refl
  moved_held n (Into first after) led = refl
  moved_held n Out led = refl
  moved_held n (Barred r) led = absurd (led r refl)

  -- where the event leads
  judged_follows : (n : ℕ) → Sane b → Clear (judge_of (due_of b.due) b.depth m) → Follows b (judge_of (due_of b.due) b.depth m) n
  judged_follows n sane led =
      let due = due_of b.due in
      let e : judge_of due b.depth m ≡ way_of due b.depth m = judge_way due b.depth m (judge_clear due b.depth m led) in
      follows b n sane (judge_of due b.depth m) (judge_tells due b.depth m) (rw e (way_fits due b.depth m)) led

  led_on : (ms : List Meaning) (n : ℕ) → Stands b tape ms → Clear (judge_of (due_of b.due) b.depth m) → leads Root [] (ms ++ (m ∷ [])) ≡ onto (due_of (moved_by (judge_of (due_of b.due) b.depth m) b n).due) (open_of (moved_by (judge_of (due_of b.due) b.depth m) b n))
  unfolding leads
  led_on ms n x led =
      let due = due_of b.due in
      let e : judge_of due b.depth m ≡ way_of due b.depth m = judge_way due b.depth m (judge_clear due b.depth m led) in
      let f : move_by (way_of due b.depth m) (open_of b) ≡ onto (due_of (moved_by (judge_of due b.depth m) b n).due) (open_of (moved_by (judge_of due b.depth m) b n)) = ap (λ (w : Way). move_by w (open_of b)) (sym e) ∙ (judged_follows n x.sane led).0 in
      leads_append Root [] ms (m ∷ []) due (open_of b) x.led ∙ rw (sane_moves b x.sane m ∙ f, leads)

  front_on : (ms : List Meaning) (n : ℕ) → Stands b tape ms → Taken b tape m n → allowed m ≡ true → take n (sets tape b.held (bytes_for m)) ≡ tape_of (ms ++ (m ∷ []))
  unfolding tape_of append_of append_to put_of put_to fits
  front_on ms n x k ok =
      let p : append_of tape b.held m ≡ append.held n = rw (ok, k.room, k.ends) in
      let q : append_to tape b.held m ≡ sets tape b.held (bytes_for m) = rw (ok, k.room) in
      let h : take n (sets tape b.held (bytes_for m)) ≡ take b.held tape ++ bytes_for m = rw q at (append_held tape b.held m n p) in
      h ∙ rw (x.front, tape_append ms (m ∷ []), append-nil (bytes_for m))

  good_on : (ms : List Meaning) → Bytes (tape_of ms) → Sound m → Bytes (tape_of (ms ++ (m ∷ [])))
  unfolding tape_of
  good_on ms g s = rw (tape_append ms (m ∷ []), append-nil (bytes_for m)) (bytes_append (tape_of ms) (bytes_for m) g (sound_bytes m s))

  -- behind a call that is taken the builder stands behind one event more
  pub stands_taken : (ms : List Meaning) (n : ℕ) → Stands b tape ms → Sound m → build_of b (length tape) m ≡ holds n → Stands (builder_after b (length tape) m) (tape_after b tape m) (ms ++ (m ∷ []))
  unfolding builder_after builder_by tape_after tape_by
  stands_taken ms n x sound e =
      let due = due_of b.due in
      let w : Way = judge_of due b.depth m in
      let k = taken n e in
      let ok : allowed m ≡ true = judge_clear due b.depth m k.clear in
      let held : (moved_by w b n).held ≡ n = moved_held n w k.clear in
      let within : b.held + length (bytes_for m) ≤ length tape = leb-true _ _ k.room in
      rw e (record { sane = (judged_follows n x.sane k.clear).1; fine = all_append ms (m ∷ []) x.fine ((sound.0, ok), tt); good = good_on ms x.good sound; led = led_on ms n x k.clear; lent = rw (held, length-sets) (omega (arith, k.ends)); front = rw held (front_on ms n x k ok) })

-- what the check of the bytes held with the event's behind them says of the event: it is taken where they are whole, or only not yet complete
unfoldable pub answer_by : check.Said → Said → Said
answer_by (check.whole n) fitted = fitted
answer_by (check.refused n ks p) fitted = cond (eqb n 22) fitted (refused n ks p)

more_fitted : (n at end : ℕ) (d : Due) (ds : List Due) (fitted : Said) → answer_by (more_said n at end (onto d ds)) fitted ≡ fitted
unfolding answer_by more_said refused_at number_of
more_fitted n at end d ds fitted = go (is_nothing d)
  where
    go : (x : Bool) → answer_by (cond x (check.whole (suc n)) (refused_at IncompleteRoot end)) fitted ≡ fitted
    go true = refl
    go false = refl

more_refuses : (n at end : ℕ) (r : Refusal) (fitted : Said) → eqb (number_of r) 22 ≡ false → refused (number_of r) (kinds_of r) at ≡ answer_by (more_said n at end (barred r)) fitted
unfolding more_said answer_by refused_at
more_refuses n at end r fitted f = rw f

-- by a way, among what is open
more_way : (n at end size room : ℕ) (b : Builder) (w : Way) → Fits (due_of b.due) w → (w ≡ Out → length (open_of b) ≡ 0 → ⊥)
    → by_way at size room w ≡ answer_by (more_said n at end (move_by w (open_of b))) (fitted_of at size room)
unfolding by_way move_by
more_way n at end size room b (Past next) f some = sym (more_fitted n at end next (open_of b) (fitted_of at size room))
more_way n at end size room b (Into first after) f some = sym (more_fitted n at end first (after ∷ open_of b) (fitted_of at size room))
more_way n at end size room b Out f some = go (open_of b) refl
  where
    go : (around : List Due) → open_of b ≡ around → fitted_of at size room ≡ answer_by (more_said n at end (move_by Out around)) (fitted_of at size room)
    go [] e = absurd (some refl (ap length e))
    go (d ∷ ds) e = sym (more_fitted n at end d ds (fitted_of at size room))
more_way n at end size room b (Barred r) f some = more_refuses n at end r (fitted_of at size room) f

-- THE ANSWER behind events: what the check says of them with the event behind them
module _ (b : Builder) (tape : List ℕ) (m : Meaning) (ms : List Meaning) (x : Stands b tape ms) (sound : Sound m) where
  both : List ℕ
  both = tape_of ms ++ bytes_for m

  both_long : length both ≡ b.held + length (bytes_for m)
  unfolding both
  both_long = length-append (tape_of ms) (bytes_for m) ∙ ap (λ (k : ℕ). k + length (bytes_for m)) (sym (held_length b tape ms x))

  both_good : Bytes both
  unfolding both
  both_good = bytes_append (tape_of ms) (bytes_for m) x.good (sound_bytes m sound)

  fitted : Said
  fitted = fitted_of b.held (length (bytes_for m)) (length tape)

  out_some : way_of (due_of b.due) b.depth m ≡ Out → length (open_of b) ≡ 0 → ⊥
  unfolding way_of
  out_some e z =
      let t : Tells b.depth Out = rw e at (way_tells (turn_of (due_of b.due) m) (due_of b.due) b.depth) in
      t (sym (sane_open b x.sane) ∙ z)

  -- an event that the tape takes
  by_event : length both ≤ max_length → allowed m ≡ true → by_way b.held (length (bytes_for m)) (length tape) (judge_of (due_of b.due) b.depth m) ≡ answer_by (check_of both) fitted
  unfolding both fitted
  by_event short ok =
      let due = due_of b.due in
      let c = check_more ms x.fine due (open_of b) x.led m (sound.0, ok) both_good short in
      let w = more_way (length ms) b.held (length both) (length (bytes_for m)) (length tape) b (way_of due b.depth m) (way_fits due b.depth m) out_some in
      rw (judge_way due b.depth m ok, c, ← held_length b tape ms x, sane_moves b x.sane m) w

  -- one that it doesn't take
  by_bad : length both ≤ max_length → allowed m ≡ false → by_way b.held (length (bytes_for m)) (length tape) (judge_of (due_of b.due) b.depth m) ≡ answer_by (check_of both) fitted
  unfolding both fitted judge_of by_way answer_by refused_at number_of
  by_bad short a =
      let due = due_of b.due in
      let c = check_more_bad ms x.fine due (open_of b) x.led (bytes_for m) (bytes_some m) (bad_here (tape_of ms) m both_good sound.0 a) both_good short in
      rw (c, ← held_length b tape ms x, a) (go (is_nothing due))
    where
      go : (y : Bool) → by_way b.held (length (bytes_for m)) (length tape) (cond y (Barred TrailingEvents) (Barred BadTape)) ≡ answer_by (refused_at (cond y TrailingEvents BadTape) b.held) (fitted_of b.held (length (bytes_for m)) (length tape))
      go true = refl
      go false = refl

  -- a tape that is too long with it
  by_length : max_length < length both → refused 1 [] 0 ≡ answer_by (check_of both) fitted
  unfolding check_of answer_by refused_at number_of kinds_of
  by_length h = rw (lt-ltb max_length (length both) h)

  pub build_checks : build_of b (length tape) m ≡ answer_by (check_of (tape_of ms ++ bytes_for m)) (fitted_of b.held (length (bytes_for m)) (length tape))
  unfolding both fitted build_of
  build_checks = rw (le-ltb (length tape) b.held x.lent) (go (ltb max_length (b.held + length (bytes_for m))) (allowed m) refl refl)
    where
      go : (y a : Bool) → ltb max_length (b.held + length (bytes_for m)) ≡ y → allowed m ≡ a
          → cond (ltb max_length (b.held + length (bytes_for m))) (refused 1 [] 0) (by_way b.held (length (bytes_for m)) (length tape) (judge_of (due_of b.due) b.depth m)) ≡ answer_by (check_of both) fitted
      go true a f g =
          let l : max_length < b.held + length (bytes_for m) = ltb-true _ _ f in
          rw f (by_length (omega (arith, both_long)))
      go false true f g =
          let l : b.held + length (bytes_for m) ≤ max_length = ltb-false _ _ f in
          rw f (by_event (omega (arith, both_long)) g)
      go false false f g =
          let l : b.held + length (bytes_for m) ≤ max_length = ltb-false _ _ f in
          rw f (by_bad (omega (arith, both_long)) g)

-- the file of the bytes held is the writer's, for the tape of those events
pub finish_writes : (b : Builder) (tape : List ℕ) (ms : List Meaning) (words : ℕ) (out : List ℕ) → Stands b tape ms → (finish_of b tape words (length out) ≡ write_of (tape_of ms) words (length out)) × (finish_output b tape words out ≡ output_of (tape_of ms) words out) × (finish_used b tape words ≡ used_of (tape_of ms) words)
unfolding finish_of finish_output finish_used
finish_writes b tape ms words out x =
    let e : ltb (length tape) b.held ≡ false = le-ltb _ _ x.lent in
    (rw (e, x.front), rw (e, x.front), rw (e, x.front))
