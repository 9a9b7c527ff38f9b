-- What `build` does on each way is what its definition says.
use mathlib.Core.Bool.{Bool, true, false, cond}
use mathlib.Core.List.{List, []}
use mathlib.Core.Path.{◌≡◌, refl, sym, ◌∙◌}
use Prim.Native.Nat.{ℕ, ◌+◌, ◌≤◌, ◌<◌}
use native.Mathlib.Omega.{arith}
use borrow.Author.Tests.{lt-ltb, le-ltb}
use lib.Dec.{ltb}
use lib.ListN.{length}
use lib.Seq.{sets}
use Rattle.event.specs.Format.{max_length}
use Rattle.event.specs.Meaning.{Meaning, meaning_of}
use Rattle.event.specs.declared.Event.{Event}
use Rattle.event.specs.declared.Event.TheVariants.{StartArray, StartDictionary, EndCollection, Boolean, Data, Date, Integer, Real, Nan, String, Uid}
use Rattle.number.specs.BeLaws.{Bytes}
use Rattle.grammar.specs.Said.{number_of, kinds_of}
use Rattle.grammar.specs.declared.answer.EventKind.{EventKind}
use Rattle.grammar.specs.declared.answer.Refusal.{Refusal}
use Rattle.grammar.specs.declared.way.Way.{Way}
use Rattle.grammar.specs.declared.way.Way.TheVariants.{Past, Into, Out, Barred}
use Rattle.tape.specs.Append as append
use Rattle.tape.specs.Append.{said, fits, put_of, put_to}
use Rattle.tape.specs.BytesLaws.{Filled, Sound}
use Rattle.tape.specs.Code.{bytes_for}
use Rattle.tape.specs.declared.append.Appended.{Appended}
use Rattle.tape.specs.declared.append.Appended.TheVariants.{Held as HeldOn, BadEvent, NoRoom as NoRoomOn}
use Rattle.builder.specs.Build.{Said, holds, refused, answer_said, judge_of, fitted_of, by_way, build_of, tape_by, tape_after, builder_by, builder_after}
use Rattle.builder.specs.CallsLaws.{Clear}
use Rattle.builder.specs.State.{due_of, moved_by}
use Rattle.std.specs.Prelude.{Ok}
use Rattle.builder.specs.declared.state.Builder.{Builder}

-- an event with bytes beside it
pub filled : (e : Event) (s : List ℕ) → Bytes s → Filled (meaning_of e s)
unfolding meaning_of
filled (StartArray n) s h = tt
filled (StartDictionary n) s h = tt
filled EndCollection s h = tt
filled (Boolean b) s h = tt
filled Data s h = h
filled (Date b) s h = tt
filled (Integer z) s h = tt
filled (Real x) s h = tt
filled (Nan b) s h = tt
filled String s h = h
filled (Uid n) s h = tt

clear_fitted : (at size room : ℕ) (w : Way) → Clear w → by_way at size room w ≡ fitted_of at size room
unfolding by_way
clear_fitted at size room (Past next) k = refl
clear_fitted at size room (Into first after) k = refl
clear_fitted at size room Out k = refl
clear_fitted at size room (Barred r) k = absurd (k r refl)

-- what the tape answers where the event doesn't fit
abbrev pub Full : Appended → Type 0
Full a = (k : ℕ) × (p : ℕ) × (said a ≡ append.refused k p)

pub full_by : (a : Appended) → ((n : ℕ) → a ≡ HeldOn n → ⊥) → Full a
unfolding said
full_by (HeldOn n) k = absurd (k n refl)
full_by (BadEvent p) k = (20, p, refl)
full_by (NoRoomOn p) k = (27, p, refl)

module _ (b : Builder) (tape : List ℕ) (m : Meaning) (sound : Sound m) where
  -- an answer, the tape and the builder as they are promised
  abbrev pub Promised : Said → List ℕ → Builder → Type 0
  Promised a t c = record { answer_value : a ≡ build_of b (length tape) m; tape_after : t ≡ tape_after b tape m; builder_after : c ≡ builder_after b (length tape) m; sound : Sound m }

  -- neither 32 nor 1
  abbrev pub Short : Type 0
  Short = (b.held ≤ length tape) × (ltb max_length (b.held + length (bytes_for m)) ≡ false)

  refusal : (n : ℕ) (ks : List EventKind) (p : ℕ) → build_of b (length tape) m ≡ refused n ks p → Promised (refused n ks p) tape b
  unfolding tape_after tape_by builder_after builder_by
  refusal n ks p e = record { answer_value = sym e; tape_after = rw e; builder_after = rw e; sound = sound }

  pub shrank : length tape < b.held → Promised (refused 32 [] 0) tape b
  unfolding build_of
  shrank h = refusal 32 [] 0 (rw (lt-ltb (length tape) b.held h))

  pub long : b.held ≤ length tape → ltb max_length (b.held + length (bytes_for m)) ≡ true → Promised (refused 1 [] 0) tape b
  unfolding build_of
  long h e = refusal 1 [] 0 (rw (le-ltb (length tape) b.held h, e))

  by_way_law : Short → build_of b (length tape) m ≡ by_way b.held (length (bytes_for m)) (length tape) (judge_of (due_of b.due) b.depth m)
  unfolding build_of
  by_way_law s = rw (le-ltb (length tape) b.held s.0, s.1)

  module _ (s : Short) {w : Way} (is : w ≡ judge_of (due_of b.due) b.depth m) where
    pub stopped : (r : Refusal) → w ≡ Barred r → Promised (refused (number_of r) (kinds_of r) b.held) tape b
    unfolding by_way
    stopped r e =
        let f : judge_of (due_of b.due) b.depth m ≡ Barred r = sym is ∙ e in
        refusal _ _ _ (by_way_law s ∙ rw f)

    module _ (free : Clear w) where
      -- the event may come there: it counts whether it fits
      by_room : build_of b (length tape) m ≡ cond (fits tape b.held (bytes_for m)) (holds (b.held + length (bytes_for m))) (refused 27 [] b.held)
      unfolding fitted_of fits
      by_room = by_way_law s ∙ rw (← is) (clear_fitted b.held (length (bytes_for m)) (length tape) w free)

      pub taken : {x : Appended} {l : List ℕ} {c : Builder} (end : ℕ) → x ≡ HeldOn end → said x ≡ put_of tape b.held (bytes_for m) → l ≡ put_to tape b.held (bytes_for m) → c ≡ moved_by w b end → Promised (answer_said (Ok end)) l c
      unfolding said put_of put_to answer_said tape_after tape_by builder_after builder_by
      taken {x} {l} {c} end e p q g = go (fits tape b.held (bytes_for m)) refl
        where
          go : (v : Bool) → fits tape b.held (bytes_for m) ≡ v → Promised (answer_said (Ok end)) l c
          go true h =
              let k : append.held end ≡ append.held (b.held + length (bytes_for m)) = rw (e, h) at p in
              let n : end ≡ b.held + length (bytes_for m) = cc in
              let y : build_of b (length tape) m ≡ holds (b.held + length (bytes_for m)) = rw h at by_room in
              let z : l ≡ sets tape b.held (bytes_for m) = rw h at q in
              record { answer_value = rw (n, y); tape_after = rw y z; builder_after = rw (y, ← n, ← is) g; sound = sound }
          go false h =
              let k : append.held end ≡ append.refused 27 b.held = rw (e, h) at p in
              let z : ◌≡◌ {A = ℕ} 0 1 = cc in
              absurd (omega arith)

      pub full : (x : Appended) {l : List ℕ} → said x ≡ put_of tape b.held (bytes_for m) → l ≡ put_to tape b.held (bytes_for m) → Full x → Promised (refused 27 [] b.held) l b
      unfolding put_of put_to
      full x {l} p q (k, n, e) = go (fits tape b.held (bytes_for m)) refl
        where
          go : (v : Bool) → fits tape b.held (bytes_for m) ≡ v → Promised (refused 27 [] b.held) l b
          go true h =
              let j : append.refused k n ≡ append.held (b.held + length (bytes_for m)) = sym e ∙ (rw h at p) in
              let z : ◌≡◌ {A = ℕ} 0 1 = cc in
              absurd (omega arith)
          go false h =
              let y : build_of b (length tape) m ≡ refused 27 [] b.held = rw h at by_room in
              let z : l ≡ tape = rw h at q in
              rw z (refusal 27 [] b.held y)
