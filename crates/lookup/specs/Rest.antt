-- The events that stand on a tape from a place on.
use Rattle.std.specs.Prelude.{cond, Some, None, List, ◌≡◌, ℕ, suc, ◌-◌, ◌≤◌, ltb, length, drop, Option}
use Rattle.number.specs.BeLaws.{Bytes}
use Rattle.event.specs.Meaning.{Meaning}
use Rattle.tape.specs.Events.{tape_of, meanings_in}
use Rattle.tape.proofs.EventsLaws.{AllOnTape}

unfoldable pub events_at : List ℕ → ℕ → List Meaning
events_at tape at = meanings_in (drop at tape)

-- these events stand there, up to the tape's end
pub record Rest (tape : List ℕ) (at : ℕ) (ms : List Meaning) : Type 0 where
  pub good : Bytes tape
  pub within : at ≤ length tape
  pub held : AllOnTape ms
  pub is : drop at tape ≡ tape_of ms

-- how many containers are open behind an event, by its kind
unfoldable pub deeper_by : ℕ → ℕ → ℕ
deeper_by d kind = cond (ltb kind 0x0A) d (cond (ltb kind 0x0E) (suc d) (d - 1))

-- a place is where these events begin
abbrev pub Placed : List ℕ → Option ℕ → Option (List Meaning) → Type 0
Placed tape (Some at) (Some ms) = Rest tape at ms
Placed tape (Some at) None = ⊥
Placed tape None (Some ms) = ⊥
Placed tape None None = Unit {0}
