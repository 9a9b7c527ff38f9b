-- Every state that calls lead to is sane, and where an event leads it is where the grammar says.
use Rattle.std.specs.Prelude.{Bool, true, false, ◌∷◌, ◌⊎◌, ◌≡◌, refl, eqb, min}
use Rattle.std.proofs.Common.{inl, sym, ◌∙◌, arith, eqb-true, eq-eqb, ne_eqb}
use Rattle.std.proofs.Math.Logic.{inr}
use Prim.Native.Nat.{ℕ, zero, suc, ◌+◌, ◌-◌, ◌/◌, ◌≤◌, ◌<◌}
use Rattle.std.proofs.lemmas.Bool.{eqb-false}
use Rattle.std.proofs.Math.ListN.{length, length-set}
use Rattle.std.proofs.Math.Nat.{min-eq_left}
use Rattle.event.specs.Format.{max_open}
use Rattle.event.specs.Meaning.{Meaning}
use Rattle.grammar.specs.Check.{onto, move_of}
use Rattle.grammar.specs.Turn.{is_nothing, after_of, turn_of}
use Rattle.grammar.specs.Way.{way_of, move_by}
use Rattle.grammar.specs.WayLaws.{Tells, way_moves}
use Rattle.grammar.specs.declared.answer.Refusal.{Refusal}
use Rattle.grammar.specs.declared.turn.Due.{Due}
use Rattle.grammar.specs.declared.turn.Due.TheVariants.{Root, Element, Key, Value, Nothing}
use Rattle.grammar.specs.declared.way.Way.{Way}
use Rattle.grammar.specs.declared.way.Way.TheVariants.{Past, Into, Out, Barred}
use Rattle.builder.specs.BitsLaws.{Keeps, pushed}
use Rattle.builder.specs.FitLaws.{Takes, First, Fits}
use Rattle.builder.specs.OpenLaws.{length_open, open_top}
use Rattle.builder.specs.State.{open_words, empty_builder, due_of, code_of, behind_of, push_of, pop_of, open_from, open_of, moved_by}
use Rattle.builder.specs.declared.state.Builder.{Builder}

-- with nothing open the root or nothing is due, and else an element, a key or a value
pub record Sane (b : Builder) : Type 0 where
  pub shallow : b.depth ≤ max_open
  pub words : length b.bits ≡ open_words
  pub outside : b.depth ≡ 0 → (b.due ≡ 0) ⊎ (b.due ≡ 4)
  pub inside : 0 < b.depth → (0 < b.due) × (b.due < 4)

pub sane_empty : Sane empty_builder
sane_empty = record { shallow = omega arith; words = refl; outside = λ e. inl refl; inside = λ h. absurd (omega arith) }

-- a number is what it was made from; above 3 nothing is due
pub due_code : (d : Due) → due_of (code_of d) ≡ d
unfolding due_of code_of
due_code Root = refl
due_code Element = refl
due_code Key = refl
due_code Value = refl
due_code Nothing = refl

pub due_none : (c : ℕ) → 3 < c → due_of c ≡ Nothing
unfolding due_of
due_none c h = rw (ne_eqb c 0 (omega arith), ne_eqb c 1 (omega arith), ne_eqb c 2 (omega arith), ne_eqb c 3 (omega arith))

pub due_some : (c : ℕ) → c ≤ 3 → is_nothing (due_of c) ≡ false
unfolding due_of is_nothing
due_some zero h = refl
due_some (suc zero) h = refl
due_some (suc (suc zero)) h = refl
due_some (suc (suc (suc zero))) h = refl
due_some (suc (suc (suc (suc c)))) h = absurd (omega arith)

-- as many are open as the state says
pub sane_open : (b : Builder) → Sane b → length (open_of b) ≡ b.depth
sane_open b sane = length_open b ∙ min-eq_left sane.shallow

-- so the move of an event is its way
pub sane_moves : (b : Builder) → Sane b → (m : Meaning) → move_of (turn_of (due_of b.due) m) (due_of b.due) (open_of b) ≡ move_by (way_of (due_of b.due) b.depth m) (open_of b)
sane_moves b sane m = sym (rw (sane_open b sane) at (way_moves (due_of b.due) m (open_of b)))

-- what is due behind a value
after_outside : (c : ℕ) → (c ≡ 0) ⊎ (c ≡ 4) → (code_of (after_of (due_of c)) ≡ 0) ⊎ (code_of (after_of (due_of c)) ≡ 4)
unfolding code_of after_of due_of
after_outside c (inl e) = rw e (inr refl)
after_outside c (inr e) = rw e (inr refl)

after_inside : (c : ℕ) → (0 < c) × (c < 4) → (0 < code_of (after_of (due_of c))) × (code_of (after_of (due_of c)) < 4)
unfolding code_of after_of due_of
after_inside zero h = absurd (omega arith)
after_inside (suc zero) h = (omega arith, omega arith)
after_inside (suc (suc zero)) h = (omega arith, omega arith)
after_inside (suc (suc (suc zero))) h = (omega arith, omega arith)
after_inside (suc (suc (suc (suc c)))) h = absurd (omega arith)

first_inside : (first : Due) → First first → (0 < code_of first) × (code_of first < 4)
unfolding code_of
first_inside first (inl e) = rw e (omega arith, omega arith)
first_inside first (inr e) = rw e (omega arith, omega arith)

-- something is open where neither the root nor nothing is due
some_open : (d c : ℕ) → 0 < c → c < 4 → (d ≡ 0 → (c ≡ 0) ⊎ (c ≡ 4)) → 0 < d
some_open d c h k out = go (eqb d 0) refl
  where
    go : (t : Bool) → eqb d 0 ≡ t → 0 < d
    go true e = elim (out (eqb-true d 0 e)) [ inl z ↦ absurd (omega (arith, z)) | inr z ↦ absurd (omega (arith, z)) ]
    go false e =
        let n : d ≡ 0 → ⊥ = eqb-false d 0 e in
        omega arith

-- what a container keeps that opens where a sane state has something due
keeps : (d c : ℕ) → Takes (due_of c) → (d ≡ 0 → (c ≡ 0) ⊎ (c ≡ 4)) → (0 < d → (0 < c) × (c < 4)) → Keeps d (after_of (due_of c))
unfolding due_of after_of
keeps d zero h out ins = go (eqb d 0) refl
  where
    go : (t : Bool) → eqb d 0 ≡ t → d ≡ 0
    go true e = eqb-true d 0 e
    go false e =
        let n : d ≡ 0 → ⊥ = eqb-false d 0 e in
        let k : 0 < d = omega arith in
        absurd (let i = ins k in omega (arith, i.0))
keeps d (suc zero) h out ins = some_open d 1 (omega arith) (omega arith) out
keeps d (suc (suc zero)) h out ins = absurd h
keeps d (suc (suc (suc zero))) h out ins = some_open d 3 (omega arith) (omega arith) out
keeps d (suc (suc (suc (suc c)))) h out ins =
    let e : due_of (suc (suc (suc (suc c)))) ≡ Nothing = due_none (suc (suc (suc (suc c)))) (omega arith) in
    absurd (rw e at h)

behind_inside : (w d : ℕ) → 0 < d → (0 < behind_of w d) × (behind_of w d < 4)
unfolding behind_of
behind_inside w d h = rw (ne_eqb d 0 (omega arith)) (omega arith, omega arith)

behind_outside : (w d : ℕ) → d ≡ 0 → behind_of w d ≡ 4
unfolding behind_of
behind_outside w d e = rw (eq-eqb d 0 e)

-- the state behind an event that is taken is where the grammar's machine is, and sane
abbrev pub Follows : Builder → Way → ℕ → Type 0
Follows b w n = (move_by w (open_of b) ≡ onto (due_of (moved_by w b n).due) (open_of (moved_by w b n))) × Sane (moved_by w b n)

module _ (b : Builder) (n : ℕ) (sane : Sane b) where
  follows_past : (next : Due) → next ≡ after_of (due_of b.due) → Follows b (Past next) n
  unfolding move_by moved_by open_of
  follows_past next e = (
    rw (due_code next),
    record { shallow = sane.shallow; words = sane.words; outside = λ z. rw e (after_outside b.due (sane.outside z)); inside = λ h. rw e (after_inside b.due (sane.inside h)) },
  )

  follows_into : (first after : Due) → b.depth < max_open → First first → Takes (due_of b.due) → after ≡ after_of (due_of b.due) → Follows b (Into first after) n
  unfolding move_by moved_by open_of push_of
  follows_into first after h i k e =
      let l : min b.depth max_open ≡ b.depth = min-eq_left sane.shallow in
      let s : min (b.depth + 1) max_open ≡ suc b.depth = omega arith in
      let room : b.depth / 64 < length b.bits = omega (arith, sane.words) in
      let keep : Keeps b.depth after = rw e (keeps b.depth b.due k sane.outside sane.inside) in
      let o : open_from (suc b.depth) (push_of b.bits b.depth after) ≡ after ∷ open_from b.depth b.bits = pushed b.depth after b.bits room keep in (
        rw (due_code first, s, o, l),
        record { shallow = omega arith; words = rw length-set sane.words; outside = λ z. absurd (omega (arith, z)); inside = λ z. first_inside first i },
      )

  follows_out : (b.depth ≡ 0 → ⊥) → Follows b Out n
  unfolding move_by moved_by open_of pop_of
  follows_out h =
      let d = min b.depth max_open in
      let k : 0 < d = omega arith in
      let w : d ≤ max_open = omega arith in
      let l : min (d - 1) max_open ≡ d - 1 = omega arith in (
        rw (open_top d b.bits k, l),
        record { shallow = omega arith; words = rw length-set sane.words; outside = λ z. inr (behind_outside _ (d - 1) z); inside = λ z. behind_inside _ (d - 1) z },
      )

  pub follows : (w : Way) → Tells b.depth w → Fits (due_of b.due) w → ((r : Refusal) → w ≡ Barred r → ⊥) → Follows b w n
  follows (Past next) t f led = follows_past next f
  follows (Into first after) t f led = follows_into first after t f.1.0 f.1.1 f.0
  follows Out t f led = follows_out t
  follows (Barred r) t f led = absurd (led r refl)
