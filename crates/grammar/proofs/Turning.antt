-- The way of an item of the tape, and where it leads.
use Rattle.std.specs.Prelude.{None, Some}
use mathlib.Core.Bool.{Bool, true, false, cond}
use mathlib.Core.List.{List, []}
use mathlib.Core.Path.{◌≡◌, refl}
use Prim.Native.Nat.{ℕ, ◌<◌, ◌≤◌}
use denote.Enum.Bare.{sameb}
use lib.ListN.{length}
use Rattle.event.specs.Meaning.{meaning_of}
use Rattle.number.specs.BeLaws.{Bytes}
use Rattle.tape.specs.Item.{item_at, meaning_in, Reading, event, bad, read_at}
use Rattle.tape.specs.ItemLaws.{item_reads, bad_reads}
use Rattle.tape.proofs.SameLaws.{item_within}
use Rattle.tape.specs.declared.item.Item.{Item}
use Rattle.grammar.specs.Turn.{is_nothing, Turned, stopped_at, turn_by, turn_at}
use Rattle.grammar.specs.TurnLaws.{turn_any}
use Rattle.grammar.specs.Way.{way_by, way_of, barred_at, way_at}
use Rattle.grammar.specs.declared.answer.Refusal.TheVariants.{BadTape, TrailingEvents}
use Rattle.grammar.specs.contracts.turn.Due.{the_type}
use Rattle.grammar.specs.declared.turn.Due.{Due}
use Rattle.grammar.specs.declared.turn.Due.TheVariants.{Root, Element, Key, Value, Nothing}
use Rattle.grammar.specs.declared.way.Way.{Way}
use Rattle.grammar.specs.declared.way.Way.TheVariants.{Past, Into, Out, Barred}

-- a way that isn't barred
abbrev pub Goes : Way → Type 0
Goes (Past d) = Unit {0}
Goes (Into d e) = Unit {0}
Goes Out = Unit {0}
Goes (Barred r) = ⊥

-- the code's test for nothing that is due
pub same_nothing : (due : Due) → sameb the_type due Nothing ≡ is_nothing due
unfolding is_nothing
same_nothing Root = refl
same_nothing Element = refl
same_nothing Key = refl
same_nothing Value = refl
same_nothing Nothing = refl

module _ (tape : List ℕ) (at : ℕ) (due : Due) (depth : ℕ) where
  pub way_trails : is_nothing due ≡ true → way_at tape at due depth ≡ barred_at TrailingEvents at
  unfolding way_at turn_at stopped_at way_by barred_at
  way_trails f = rw f

  pub way_item : is_nothing due ≡ false → (i : Item) → item_at tape at ≡ Some i → way_at tape at due depth ≡ record { way = way_of due depth (meaning_of i.event []); next = i.next }
  unfolding way_at turn_at turn_by way_of meaning_in
  way_item f i e = rw (f, item_reads tape at i e, turn_any due i.event)

  pub way_bad : is_nothing due ≡ false → item_at tape at ≡ None → way_at tape at due depth ≡ barred_at BadTape at
  unfolding way_at turn_at turn_by stopped_at way_by barred_at
  way_bad f e = rw (f, bad_reads tape at e)

  -- it leads to a place further on, within the tape
  pub way_leads : Bytes tape → Goes (way_at tape at due depth).way → (at < (way_at tape at due depth).next) × ((way_at tape at due depth).next ≤ length tape)
  unfolding way_at turn_at turn_by stopped_at way_by
  way_leads good = go (is_nothing due) (read_at tape at) refl
    where
      turned : Bool → Reading → Turned
      turned b r = cond b (stopped_at TrailingEvents at) (turn_by due at r)

      go : (b : Bool) (r : Reading) → read_at tape at ≡ r → Goes (way_by (turned b r).turn due depth) → (at < (turned b r).next) × ((turned b r).next ≤ length tape)
      go true r e x = absurd x
      go false (event m next) e x = item_within tape at m next good e
      go false bad e x = absurd x
