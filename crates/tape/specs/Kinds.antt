-- Kinds that go together, as the code takes them.
use Rattle.std.specs.Prelude.{cond, List, [], ◌∷◌, ℕ, ◌+◌, eqb, ℤ, pos, negsuc, None, Option, Some}
use Rattle.event.specs.Real.{real_of}
use Rattle.event.specs.declared.Event.{Event}
use Rattle.event.specs.declared.Event.TheVariants.{StartArray, StartDictionary, Integer, Uid}
use Rattle.event.specs.declared.Integer.TheVariants.{Unsigned}
use Rattle.tape.specs.Seven.{seven}

-- the bytes of a container's start, by its kind without a length
unfoldable pub start_bytes : ℕ → Option ℕ → List ℕ
start_bytes kind None = kind ∷ []
start_bytes kind (Some n) = (kind + 1) ∷ seven n

-- the kind of a signed integer
unfoldable pub sign_kind : ℤ → ℕ
sign_kind (pos n) = 0x03
sign_kind (negsuc k) = 0x04

-- the event of a kind that has a number
unfoldable pub event_of : ℕ → ℕ → Event
event_of kind n =
    cond (eqb kind 0x03) (Integer (Unsigned n))
    (cond (eqb kind 0x05) (real_of n)
    (cond (eqb kind 0x07) (Uid n)
    (cond (eqb kind 0x0B) (StartArray (Some n)) (StartDictionary (Some n)))))
