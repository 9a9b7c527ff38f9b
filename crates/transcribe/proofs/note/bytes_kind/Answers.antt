-- `bytes_kind`: data has a kind, and text another; no other event has bytes.
use mathlib.Core.Bool.{true, false≢true}
use mathlib.Core.List.{List, ◌∷◌, ◌++◌}
use mathlib.Core.Path.{◌≡◌, refl}
use Prim.Native.Nat.{ℕ}
use lib.ListN.{length}
use Rattle.event.specs.Meaning.{meaning_of}
use Rattle.event.specs.declared.Event.{Event}
use Rattle.event.specs.declared.Event.TheVariants.{StartArray, StartDictionary, EndCollection, Boolean, Data, Date, Integer, Real, Nan, String, Uid}
use Rattle.layout.specs.Bytes.{has_bytes}
use Rattle.tape.specs.Code.{bytes_for}
use Rattle.tape.specs.Seven.{seven}
use Rattle.transcribe.proofs.note.bytes_kind.Goals as goal

-- an event with bytes that is not data is text
others : (e : Event) → (e ≡ Data → ⊥) → has_bytes e ≡ true → (s : List ℕ) → 0x09 ∷ (seven (length s) ++ s) ≡ bytes_for (meaning_of e s)
unfolding has_bytes bytes_for meaning_of
others (StartArray n) k h s = absurd (false≢true h)
others (StartDictionary n) k h s = absurd (false≢true h)
others EndCollection k h s = absurd (false≢true h)
others (Boolean b) k h s = absurd (false≢true h)
others Data k h s = absurd (k refl)
others (Date b) k h s = absurd (false≢true h)
others (Integer i) k h s = absurd (false≢true h)
others (Real x) k h s = absurd (false≢true h)
others (Nan b) k h s = absurd (false≢true h)
others String k h s = refl
others (Uid n) k h s = absurd (false≢true h)

pub returns-in-Data : goal.returns-in-Data
unfolding bytes_for meaning_of
returns-in-Data c = rw c.in-Data.is (λ s. refl)

pub returns-in_default : goal.returns-in_default
returns-in_default c = others c.args.event c.in_default.not-Data c.requires
