-- Whether a file gives a record, and where the bytes of data and text stand.
use Rattle.std.specs.Prelude.{Bool, true, false, cond, List, [], ℕ, Some}
use Rattle.number.specs.declared.width.Width.TheVariants.{One}
use Rattle.event.specs.Same.{same}
use Rattle.event.specs.declared.Event.{Event}
use Rattle.event.specs.declared.Event.TheVariants.{StartArray, StartDictionary, EndCollection, Boolean, Data, Date, Integer, Real, Nan, String, Uid}
use Rattle.object.specs.Object.{Found, object_at, outside, refused, scalar, bytes, utf8, utf16, array, dictionary}
use Rattle.layout.specs.Looked.{Looked, barred, missing, faulty, container}

-- where the bytes of a record stand: in the file; in the file as UTF-16; nowhere, since it has none; or the file doesn't give it, which is
-- refused with a number and values
pub data Asked : Type 0 where
  in_file : ℕ → ℕ → Asked
  in_utf16 : ℕ → ℕ → Asked
  no_bytes : Asked
  denied : ℕ → List ℕ → Asked

-- a record of data or text, by what reading at its offset gives; 17 where that isn't the record (R27)
unfoldable pub data_asked : Found → Asked
data_asked outside = denied 17 []
data_asked (refused number values) = denied 17 []
data_asked (scalar e) = denied 17 []
data_asked (bytes start n) = in_file start n
data_asked (utf8 start n) = denied 17 []
data_asked (utf16 start n) = denied 17 []
data_asked (array n) = denied 17 []
data_asked (dictionary n) = denied 17 []

unfoldable pub text_asked : Found → Asked
text_asked outside = denied 17 []
text_asked (refused number values) = denied 17 []
text_asked (scalar e) = denied 17 []
text_asked (bytes start n) = denied 17 []
text_asked (utf8 start n) = in_file start n
text_asked (utf16 start n) = in_utf16 start n
text_asked (array n) = denied 17 []
text_asked (dictionary n) = denied 17 []

-- a record without bytes is given where a test says so
abbrev pub given_if : Bool → Asked
given_if b = cond b no_bytes (denied 17 [])

-- a scalar without bytes: reading gives that event, reals and dates by their bits, integers by value
unfoldable pub scalar_asked : Event → Found → Asked
scalar_asked e outside = denied 17 []
scalar_asked e (refused number values) = denied 17 []
scalar_asked e (scalar f) = given_if (same e f)
scalar_asked e (bytes start n) = denied 17 []
scalar_asked e (utf8 start n) = denied 17 []
scalar_asked e (utf16 start n) = denied 17 []
scalar_asked e (array n) = denied 17 []
scalar_asked e (dictionary n) = denied 17 []

-- a start: reading gives a container of that kind and length, its end measured. No file gives a start without a length
unfoldable pub start_asked : Event → Found → Asked
start_asked e outside = denied 17 []
start_asked e (refused number values) = denied 17 []
start_asked e (scalar f) = denied 17 []
start_asked e (bytes start n) = denied 17 []
start_asked e (utf8 start n) = denied 17 []
start_asked e (utf16 start n) = denied 17 []
start_asked e (array n) = given_if (same e (StartArray (Some n)))
start_asked e (dictionary n) = given_if (same e (StartDictionary (Some n)))

-- an end: reading gives a container
unfoldable pub end_asked : Found → Asked
end_asked outside = denied 17 []
end_asked (refused number values) = denied 17 []
end_asked (scalar e) = denied 17 []
end_asked (bytes start n) = denied 17 []
end_asked (utf8 start n) = denied 17 []
end_asked (utf16 start n) = denied 17 []
end_asked (array n) = no_bytes
end_asked (dictionary n) = no_bytes

-- an event's record, by what reading at its offset gives (R27)
unfoldable pub found_asked : Event → Found → Asked
found_asked (StartArray n) x = start_asked (StartArray n) x
found_asked (StartDictionary n) x = start_asked (StartDictionary n) x
found_asked EndCollection x = end_asked x
found_asked (Boolean b) x = scalar_asked (Boolean b) x
found_asked Data x = data_asked x
found_asked (Date b) x = scalar_asked (Date b) x
found_asked (Integer i) x = scalar_asked (Integer i) x
found_asked (Real b) x = scalar_asked (Real b) x
found_asked (Nan b) x = scalar_asked (Nan b) x
found_asked String x = text_asked x
found_asked (Uid n) x = scalar_asked (Uid n) x

-- where the bytes stand of an event that was read at an offset. Data and text are read without references, so their width doesn't matter
unfoldable pub event_asked : List ℕ → Event → ℕ → Asked
event_asked file (StartArray n) offset = no_bytes
event_asked file (StartDictionary n) offset = no_bytes
event_asked file EndCollection offset = no_bytes
event_asked file (Boolean b) offset = no_bytes
event_asked file Data offset = data_asked (object_at file One offset)
event_asked file (Date b) offset = no_bytes
event_asked file (Integer i) offset = no_bytes
event_asked file (Real x) offset = no_bytes
event_asked file (Nan b) offset = no_bytes
event_asked file String offset = text_asked (object_at file One offset)
event_asked file (Uid n) offset = no_bytes

-- data and text have bytes
unfoldable pub has_bytes : Event → Bool
has_bytes (StartArray n) = false
has_bytes (StartDictionary n) = false
has_bytes EndCollection = false
has_bytes (Boolean b) = false
has_bytes Data = true
has_bytes (Date b) = false
has_bytes (Integer i) = false
has_bytes (Real x) = false
has_bytes (Nan b) = false
has_bytes String = true
has_bytes (Uid n) = false

-- the bytes of an object that is looked up: a scalar's are asked for as its event's, and nothing else has any
unfoldable pub looked_bytes : List ℕ → Looked → Asked
looked_bytes file (barred number values) = denied 17 []
looked_bytes file missing = denied 17 []
looked_bytes file (faulty number values offset) = denied 17 []
looked_bytes file (Looked.scalar e offset) = event_asked file e offset
looked_bytes file (container shape n offset) = denied 17 []
