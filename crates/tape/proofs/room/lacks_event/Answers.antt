-- `lacks_event`, by how many bytes the event has.
use Rattle.std.specs.Prelude.{Option}
use mathlib.Core.Bool.{Bool}
use mathlib.Core.List.{List}
use mathlib.Core.Logic.{◌⊎◌, inl, inr}
use mathlib.Core.Path.{◌≡◌, ap, ◌∙◌}
use Prim.Native.Nat.{ℕ, ◌+◌}
use lib.Dec.{ltb}
use lib.Ieee.{Float}
use lib.ListN.{length}
use Rattle.event.specs.Meaning.{meaning_of}
use Rattle.event.specs.declared.Event.{Event}
use Rattle.event.specs.declared.Event.TheVariants.{StartArray, StartDictionary, EndCollection, Boolean, Data, Date, Real, Nan, String}
use Rattle.tape.specs.Code.{bytes_for}
use Rattle.tape.specs.Kinds.{start_bytes}
use Rattle.tape.specs.KindsLaws.{start_array}
use Rattle.tape.specs.Seven.{seven}
use Rattle.tape.specs.SizeLaws.{boolean_size, eight_size, dictionary_size, number_size, bytes_size}
use Rattle.tape.proofs.room.lacks_event.Goals as goal

module _ (e : Event) (s : List ℕ) where
  start : (n : Option ℕ) → (e ≡ StartArray n) ⊎ (e ≡ StartDictionary n) → length (start_bytes 0x0A n) ≡ length (bytes_for (meaning_of e s))
  unfolding meaning_of
  start n (inl q) = rw q (ap length (start_array n))
  start n (inr q) = rw q (dictionary_size n)

  kind : (e ≡ EndCollection) ⊎ ((b : Bool) × (e ≡ Boolean b)) → 1 ≡ length (bytes_for (meaning_of e s))
  unfolding meaning_of bytes_for
  kind (inl q) = rw q
  kind (inr (b, q)) = rw q (boolean_size b)

  eight : ((b : ℕ) × (e ≡ Date b)) ⊎ (((x : Float) × (e ≡ Real x)) ⊎ ((b : ℕ) × (e ≡ Nan b))) → 9 ≡ length (bytes_for (meaning_of e s))
  unfolding meaning_of bytes_for
  eight (inl (b, q)) = rw q (eight_size 0x06 b)
  eight (inr (inl (x, q))) = rw q (eight_size 0x05 _)
  eight (inr (inr (b, q))) = rw q (eight_size 0x05 b)

  held : (e ≡ Data) ⊎ (e ≡ String) → 1 + length (seven (length s)) + length s ≡ length (bytes_for (meaning_of e s))
  unfolding meaning_of bytes_for
  held (inl q) = rw q (bytes_size 0x08 s)
  held (inr q) = rw q (bytes_size 0x09 s)

-- a test for room goes by the number of bytes
room : (end at : ℕ) {r : Bool} {m n : ℕ} → r ≡ ltb end (at + m) → m ≡ n → r ≡ ltb end (at + n)
room end at e q = e ∙ ap (λ (k : ℕ). ltb end (at + k)) q

pub returns-in-StartArray : goal.returns-in-StartArray
returns-in-StartArray c = let a = c.args in room a.end a.at c.lacks_start.ensures (start a.event a.bytes.now c.in-StartArray.length c.in-StartArray.is)

pub returns-in-EndCollection : goal.returns-in-EndCollection
returns-in-EndCollection c = let a = c.args in room a.end a.at c.lacks_room.ensures (kind a.event a.bytes.now c.in-EndCollection.is)

pub returns-in-Data : goal.returns-in-Data
returns-in-Data c = let a = c.args in room a.end a.at c.lacks_bytes.ensures (held a.event a.bytes.now c.in-Data.is)

pub returns-in-Date : goal.returns-in-Date
returns-in-Date c = let a = c.args in room a.end a.at c.lacks_room-in-Date.ensures (eight a.event a.bytes.now c.in-Date.is)

pub returns-in-Integer : goal.returns-in-Integer
unfolding meaning_of
returns-in-Integer c = rw c.in-Integer.is c.lacks_integer.ensures

pub returns-in-Uid : goal.returns-in-Uid
unfolding meaning_of bytes_for
returns-in-Uid c = let a = c.args in rw c.in-Uid.is (room a.end a.at c.lacks_number.ensures (number_size 0x07 _))
