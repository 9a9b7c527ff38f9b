-- What an event means. The reader's records, the tape's items and the writer's objects all mean one of these.
use Rattle.std.specs.Prelude.{Bool, List, ℕ, ℤ, pos, None, Some, Option}
use Rattle.event.specs.Real.{float_bits}
use Rattle.event.specs.declared.Event.{Event}
use Rattle.event.specs.declared.Event.TheVariants.{StartArray, StartDictionary, EndCollection, Boolean, Data, Date, Integer as IntegerEvent, Real, Nan, String, Uid}
use Rattle.event.specs.declared.Integer.{Integer}
use Rattle.event.specs.declared.Integer.TheVariants.{Signed, Unsigned}

-- reals and dates by their 64 bits, text and data by their bytes, containers with their length where it is given
pub data Meaning : Type 0 where
  array : Option ℕ → Meaning
  dictionary : Option ℕ → Meaning
  close : Meaning
  boolean : Bool → Meaning
  bytes : List ℕ → Meaning
  date : ℕ → Meaning
  integer : ℤ → Meaning
  real : ℕ → Meaning
  text : List ℕ → Meaning
  uid : ℕ → Meaning

-- the number that an integer is
unfoldable pub value_of : Integer → ℤ
value_of (Signed z) = z
value_of (Unsigned n) = pos n

-- what an event means, beside which the bytes of its data or text stand
unfoldable pub meaning_of : Event → List ℕ → Meaning
meaning_of (StartArray n) s = array n
meaning_of (StartDictionary n) s = dictionary n
meaning_of EndCollection s = close
meaning_of (Boolean b) s = boolean b
meaning_of Data s = bytes s
meaning_of (Date b) s = date b
meaning_of (IntegerEvent i) s = integer (value_of i)
meaning_of (Real x) s = real (float_bits x)
meaning_of (Nan b) s = real b
meaning_of String s = text s
meaning_of (Uid n) s = uid n
