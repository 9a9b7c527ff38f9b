-- A struct may hold that events are ready, since that has one proof at most.
use Rattle.std.specs.Prelude.{ℕ, List, [], ◌∷◌}
use Rattle.std.specs.Coded.{Coded, Coded-set, coded_ℕ, coded_bool, codes, ×_prop, Unit-prop, le_prop}
use Rattle.number.specs.BeLaws.{Bytes}
use Rattle.event.specs.Meaning.{Meaning}
use Rattle.tape.specs.Events.{Events}
use Rattle.writer.specs.Ready.{Ready}

bytes_prop : (s : List ℕ) → IsProp (Bytes s)
bytes_prop [] = Unit-prop
bytes_prop (b ∷ s) = ×_prop le_prop (bytes_prop s)

meaning_code : Coded Meaning
meaning_code = Prim.hlevel codes

events_code : Coded Events
events_code = Prim.hlevel (codes, meaning_code)

pub ready_prop : (t : List ℕ) (n : ℕ) → IsProp (Ready t n)
ready_prop t n = Prim.hlevel (bytes_prop, le_prop, Coded-set events_code, Coded-set coded_ℕ, Coded-set coded_bool)
