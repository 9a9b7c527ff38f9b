-- A tape as a whole: the events that it is, or those before the first place where it is bad.
use Rattle.std.specs.Prelude.{Bool, true, false, cond, List, [], ◌∷◌, ◌++◌, ℕ, zero, suc, leb, length, take}
use Rattle.event.specs.Meaning.{Meaning}
use Rattle.tape.specs.Code.{bytes_for}
use Rattle.tape.specs.Item.{event, bad, read_at}

pub data Events : Type 0 where
  whole : List Meaning → Events
  broken : List Meaning → ℕ → Events

-- an event in front of others
unfoldable pub before : Meaning → Events → Events
before m (whole ms) = whole (m ∷ ms)
before m (broken ms place) = broken (m ∷ ms) place

-- the events from a place on, at most k of them; an event has a byte at least
unfoldable pub events_from : ℕ → List ℕ → ℕ → Events
events_from zero tape at = whole []
events_from (suc k) tape at =
    cond (leb (length tape) at) (whole []) (elim (read_at tape at) [ bad ↦ broken [] at | event m next ↦ before m (events_from k tape next) ])

unfoldable pub events_of : List ℕ → Events
events_of tape = events_from (length tape) tape 0

-- the bytes of events, one after another
unfoldable pub tape_of : List Meaning → List ℕ
tape_of [] = []
tape_of (m ∷ ms) = bytes_for m ++ tape_of ms

-- what the events of a tape mean; of a tape that is bad somewhere, those before that place
unfoldable pub meant_by : Events → List Meaning
meant_by (whole ms) = ms
meant_by (broken ms place) = ms

unfoldable pub meanings_in : List ℕ → List Meaning
meanings_in tape = meant_by (events_of tape)

-- whether a tape is bad behind its events
abbrev pub is_broken : Events → Bool
is_broken (whole ms) = false
is_broken (broken ms place) = true

-- where event i begins on the tape
unfoldable pub start_at : List ℕ → ℕ → ℕ
start_at tape i = length (tape_of (take i (meanings_in tape)))
