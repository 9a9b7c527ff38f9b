-- Where the loop of a check stands, and what one turn does to what is left of it.
use mathlib.Core.Bool.{true, false}
use mathlib.Core.List.{List, [], ◌∷◌}
use mathlib.Core.Path.{◌≡◌, refl, sym, ◌∙◌}
use Prim.Native.Nat.{ℕ, zero, suc, ◌+◌, ◌-◌, ◌<◌, ◌≤◌}
use native.Mathlib.Omega.{arith}
use borrow.Author.Tests.{lt-ltb, le-ltb}
use lib.ListN.{length, get_or}
use Rattle.event.specs.Format.{max_length, max_open}
use Rattle.number.specs.BeLaws.{Bytes, bytes_of_law}
use Rattle.grammar.specs.Check.{onto, barred, move_of, finish_of, check_from, check_of}
use Rattle.grammar.specs.Said.{whole, refused_at}
use Rattle.grammar.specs.Turn.{is_nothing, turn_at}
use Rattle.grammar.specs.Way.{move_by, way_at}
use Rattle.grammar.specs.WayLaws.{way_move, Tells, way_tells}
use Rattle.grammar.specs.declared.answer.Refusal.{Refusal}
use Rattle.grammar.specs.declared.answer.Refusal.TheVariants.{IncompleteRoot}
use Rattle.grammar.specs.declared.turn.Due.{Due}
use Rattle.grammar.specs.declared.turn.Due.TheVariants.{Root}
use Rattle.grammar.specs.declared.way.Gone.{Gone}
use Rattle.grammar.specs.declared.way.Way.TheVariants.{Past, Into, Out, Barred}
use Rattle.grammar.proofs.Turning.{Goes, way_leads}

-- behind so many events, what is left to check gives the answer
pub record Stands (tape : List ℕ) (around : List Due) (due : Due) (events at : ℕ) : Type 0 where
  pub few : events ≤ at
  pub within : at ≤ length tape
  pub shallow : length around ≤ max_open
  pub left : check_from (length tape - events) tape events at due around ≡ check_of tape

pub stands_first : (tape : List ℕ) → length tape ≤ max_length → Stands tape [] Root 0 0
unfolding check_of
stands_first tape short =
    let z : length tape - 0 ≡ length tape = omega arith in
    record { few = omega arith; within = omega arith; shallow = omega arith; left = rw (z, le-ltb max_length (length tape) short) }

-- at the tape's end
finishes : (k : ℕ) (tape : List ℕ) (n at : ℕ) (due : Due) (around : List Due) → length tape ≤ at → check_from k tape n at due around ≡ finish_of tape n due
unfolding check_from
finishes zero tape n at due around h = refl
finishes (suc k) tape n at due around h = rw (le-ltb at (length tape) h)

module _ {tape : List ℕ} {around : List Due} {due : Due} {events at : ℕ} (s : Stands tape around due events at) (h : length tape ≤ at) where
  ended : finish_of tape events due ≡ check_of tape
  ended = sym (finishes (length tape - events) tape events at due around h) ∙ s.left

  pub is_whole : is_nothing due ≡ true → whole events ≡ check_of tape
  unfolding finish_of
  is_whole e = rw e at ended

  pub is_incomplete : is_nothing due ≡ false → refused_at IncompleteRoot (length tape) ≡ check_of tape
  unfolding finish_of
  is_incomplete e = rw e at ended

-- before it, the way of the next event is known
pub record Met (tape : List ℕ) (around : List Due) (due : Due) (events at : ℕ) (g : Gone) : Type 0 where
  pub good : Bytes tape
  pub stands : Stands tape around due events at
  pub inside : at < length tape
  pub is : g ≡ way_at tape at due (length around)

pub meets : {tape : List ℕ} {around : List Due} {due : Due} {events at depth : ℕ} {g : Gone} →
    ((i : ℕ) → get_or tape i 0 < 256) → Stands tape around due events at → at < length tape → depth ≡ length around → g ≡ way_at tape at due depth → Met tape around due events at g
meets {tape = tape} {due = due} {at = at} b s h d e = record { good = bytes_of_law tape b; stands = s; inside = h; is = rw d at e }

module _ {tape : List ℕ} {around : List Due} {due : Due} {events at : ℕ} {g : Gone} (x : Met tape around due events at g) where
  on : Goes g.way → (at < g.next) × (g.next ≤ length tape)
  on = rw x.is (way_leads tape at due (length around) x.good)

  pub is_less : Goes g.way → length tape - g.next < length tape - at
  is_less o = let w = on o in omega (arith, w.0, w.1)

  -- what is left, by the way
  moves : move_of (turn_at tape at due).turn due around ≡ move_by g.way around
  unfolding way_at
  moves = rw x.is (sym (way_move (turn_at tape at due).turn due around))

  after : (turn_at tape at due).next ≡ g.next
  unfolding way_at
  after = rw x.is

  refuses : (r : Refusal) → move_by g.way around ≡ barred r → refused_at r at ≡ check_of tape
  unfolding check_from
  refuses r e =
      let k : length tape - events ≡ suc (length tape - (events + 1)) = omega (arith, x.inside, x.stands.few) in
      rw (k, check_from, lt-ltb at (length tape) x.inside, moves, e) at x.stands.left

  leads : Goes g.way → (d : Due) (l : List Due) → move_by g.way around ≡ onto d l → length l ≤ max_open → Stands tape l d (events + 1) g.next
  unfolding check_from
  leads o d l e shallow =
      let w = on o in
      let k : length tape - events ≡ suc (length tape - (events + 1)) = omega (arith, x.inside, x.stands.few) in
      record { few = omega (arith, w.0, x.stands.few); within = w.1; shallow = shallow; left = rw (k, check_from, lt-ltb at (length tape) x.inside, moves, e, after) at x.stands.left }

  pub is_barred : {r : Refusal} → g.way ≡ Barred r → refused_at r at ≡ check_of tape
  unfolding move_by
  is_barred {r} e = refuses r (rw e)

  pub is_past : {d : Due} → g.way ≡ Past d → Stands tape around d (events + 1) g.next
  unfolding move_by
  is_past {d} e = leads (rw e tt) d around (rw e) x.stands.shallow

  -- what the way tells of the open containers
  tells : Tells (length around) g.way
  unfolding way_at
  tells = rw x.is (way_tells (turn_at tape at due).turn due (length around))

  pub is_room : {d behind : Due} → g.way ≡ Into d behind → length around < max_open
  is_room e = rw e at tells

  pub is_into : {d behind : Due} → g.way ≡ Into d behind → Stands tape (behind ∷ around) d (events + 1) g.next
  unfolding move_by
  is_into {d} {behind} e = leads (rw e tt) d (behind ∷ around) (rw e) (let h = is_room e in omega arith)

  pub is_open : g.way ≡ Out → length around ≡ 0 → ⊥
  is_open e = rw e at tells

  pub is_out : {d : Due} {l : List Due} → g.way ≡ Out → around ≡ d ∷ l → Stands tape l d (events + 1) g.next
  unfolding move_by
  is_out {d} {l} e f =
      let h : suc (length l) ≤ max_open = rw f at x.stands.shallow in
      leads (rw e tt) d l (rw (e, f, move_by)) (omega arith)
