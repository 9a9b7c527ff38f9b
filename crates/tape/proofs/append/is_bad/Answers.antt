-- `is_bad`: text and dates are checked, and nothing else is bad.
use mathlib.Core.Bool.{false, not}
use mathlib.Core.List.{List}
use mathlib.Core.Path.{◌≡◌, refl, ap}
use Prim.Native.Nat.{ℕ}
use Rattle.event.specs.Meaning.{meaning_of}
use Rattle.event.specs.declared.Event.{Event}
use Rattle.event.specs.declared.Event.TheVariants.{StartArray, StartDictionary, EndCollection, Boolean, Data, Date, Integer, Real, Nan, String, Uid}
use Rattle.tape.specs.Code.{allowed}
use Rattle.tape.proofs.append.is_bad.Goals as goal

other : (e : Event) (s : List ℕ) → ((b : ℕ) → e ≡ Date b → ⊥) → (e ≡ String → ⊥) → false ≡ not (allowed (meaning_of e s))
unfolding meaning_of allowed
other (StartArray n) s no_date no_text = refl
other (StartDictionary n) s no_date no_text = refl
other EndCollection s no_date no_text = refl
other (Boolean b) s no_date no_text = refl
other Data s no_date no_text = refl
other (Date b) s no_date no_text = absurd (no_date b refl)
other (Integer i) s no_date no_text = refl
other (Real x) s no_date no_text = refl
other (Nan b) s no_date no_text = refl
other String s no_date no_text = absurd (no_text refl)
other (Uid n) s no_date no_text = refl

pub returns-in-Date : goal.returns-in-Date
unfolding meaning_of allowed
returns-in-Date c = rw c.in-Date.is (ap not c.is_date.ensures)

pub returns-in-String : goal.returns-in-String
unfolding meaning_of allowed
returns-in-String c = rw c.in-String.is (ap not c.is_utf8.ensures)

pub returns-in_default : goal.returns-in_default
returns-in_default c = other c.args.event c.args.bytes.now c.in_default.not-Date c.in_default.not-String
