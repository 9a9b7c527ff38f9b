-- The bytes that a record asks for lie within the file, and text of 6x is UTF-16.
use Rattle.std.specs.Prelude.{Some}
use Prim.Native.Nat.{ℕ, ◌+◌, ◌≤◌}
use mathlib.Core.Bool.{Bool, true, false}
use mathlib.Core.List.{List}
use mathlib.Core.Path.{◌≡◌}
use lib.Dec.{ltb}
use lib.ListN.{length}
use Rattle.number.specs.declared.width.Width.{Width}
use Rattle.number.specs.declared.width.Width.TheVariants.{One}
use Rattle.utf.specs.Unicode.{is_utf16}
use Rattle.event.specs.declared.Event.{Event}
use Rattle.event.specs.declared.Event.TheVariants as event
use Rattle.event.specs.Same.{same}
use Rattle.number.specs.Part.{part}
use Rattle.object.specs.Object.{Found, object_at}
use Rattle.object.specs.Object as found
use Rattle.object.specs.declared.container.Container.{Container}
use Rattle.layout.specs.Bytes.{Asked, in_file, in_utf16, no_bytes, denied, data_asked, text_asked, given_if, scalar_asked, start_asked, end_asked, found_asked, event_asked}
use Rattle.layout.specs.FoundLaws.{Sound, sound}
use Rattle.layout.specs.Listed.{is_listed}
use Rattle.layout.specs.Trailer.{Trailer, keeps, ends, lays, trailer_of}
use Rattle.number.specs.Either.{either}
use Rattle.reader.specs.Request.{asked_under, asked_by, asked_of}
use Rattle.reader.specs.State.{max_length}
use Rattle.reader.specs.declared.answer.Record.{Record}

-- where the bytes of a record stand
abbrev pub AskedIn : List ℕ → Asked → Type 0
AskedIn file (in_file start n) = start + n ≤ length file
AskedIn file (in_utf16 start n) = (start + n ≤ length file) × (is_utf16 (part file start n) ≡ true)
AskedIn file no_bytes = Unit {0}
AskedIn file (denied number values) = Unit {0}

module _ (file : List ℕ) (each : ℕ) (y : Found) (c : Container) where
  data_asked_law : (x : Found) → Sound file each x y c → AskedIn file (data_asked x)
  unfolding data_asked
  data_asked_law found.outside h = tt
  data_asked_law (found.refused number values) h = tt
  data_asked_law (found.scalar e) h = tt
  data_asked_law (found.bytes start n) h = h.1
  data_asked_law (found.utf8 start n) h = tt
  data_asked_law (found.utf16 start n) h = tt
  data_asked_law (found.array n) h = tt
  data_asked_law (found.dictionary n) h = tt

  text_asked_law : (x : Found) → Sound file each x y c → AskedIn file (text_asked x)
  unfolding text_asked
  text_asked_law found.outside h = tt
  text_asked_law (found.refused number values) h = tt
  text_asked_law (found.scalar e) h = tt
  text_asked_law (found.bytes start n) h = tt
  text_asked_law (found.utf8 start n) h = h.1
  text_asked_law (found.utf16 start n) h = (h.1, h.2)
  text_asked_law (found.array n) h = tt
  text_asked_law (found.dictionary n) h = tt

given_asked : (file : List ℕ) (b : Bool) → AskedIn file (given_if b)
given_asked file true = tt
given_asked file false = tt

scalar_asked_law : (file : List ℕ) (e : Event) (x : Found) → AskedIn file (scalar_asked e x)
unfolding scalar_asked
scalar_asked_law file e found.outside = tt
scalar_asked_law file e (found.refused number values) = tt
scalar_asked_law file e (found.scalar f) = given_asked file (same e f)
scalar_asked_law file e (found.bytes start n) = tt
scalar_asked_law file e (found.utf8 start n) = tt
scalar_asked_law file e (found.utf16 start n) = tt
scalar_asked_law file e (found.array n) = tt
scalar_asked_law file e (found.dictionary n) = tt

start_asked_law : (file : List ℕ) (e : Event) (x : Found) → AskedIn file (start_asked e x)
unfolding start_asked
start_asked_law file e found.outside = tt
start_asked_law file e (found.refused number values) = tt
start_asked_law file e (found.scalar f) = tt
start_asked_law file e (found.bytes start n) = tt
start_asked_law file e (found.utf8 start n) = tt
start_asked_law file e (found.utf16 start n) = tt
start_asked_law file e (found.array n) = given_asked file (same e (event.StartArray (Some n)))
start_asked_law file e (found.dictionary n) = given_asked file (same e (event.StartDictionary (Some n)))

end_asked_law : (file : List ℕ) (x : Found) → AskedIn file (end_asked x)
unfolding end_asked
end_asked_law file found.outside = tt
end_asked_law file (found.refused number values) = tt
end_asked_law file (found.scalar f) = tt
end_asked_law file (found.bytes start n) = tt
end_asked_law file (found.utf8 start n) = tt
end_asked_law file (found.utf16 start n) = tt
end_asked_law file (found.array n) = tt
end_asked_law file (found.dictionary n) = tt

found_asked_law : (file : List ℕ) (refs : Width) (offset : ℕ) (e : Event) → AskedIn file (found_asked e (object_at file refs offset))
unfolding found_asked
found_asked_law file refs offset (event.StartArray n) = start_asked_law file _ (object_at file refs offset)
found_asked_law file refs offset (event.StartDictionary n) = start_asked_law file _ (object_at file refs offset)
found_asked_law file refs offset event.EndCollection = end_asked_law file (object_at file refs offset)
found_asked_law file refs offset (event.Boolean b) = scalar_asked_law file _ (object_at file refs offset)
found_asked_law file refs offset event.Data = data_asked_law file _ _ _ (object_at file refs offset) (sound file refs offset)
found_asked_law file refs offset (event.Date b) = scalar_asked_law file _ (object_at file refs offset)
found_asked_law file refs offset (event.Integer i) = scalar_asked_law file _ (object_at file refs offset)
found_asked_law file refs offset (event.Real x) = scalar_asked_law file _ (object_at file refs offset)
found_asked_law file refs offset (event.Nan b) = scalar_asked_law file _ (object_at file refs offset)
found_asked_law file refs offset event.String = text_asked_law file _ _ _ (object_at file refs offset) (sound file refs offset)
found_asked_law file refs offset (event.Uid n) = scalar_asked_law file _ (object_at file refs offset)

trailer_asked : (file : List ℕ) (r : Record) (t : Trailer) → AskedIn file (asked_by file r t)
unfolding asked_by asked_under
trailer_asked file r (keeps number values place) = tt
trailer_asked file r (ends number values place) = tt
trailer_asked file r (lays l root) = either (AskedIn file) (is_listed file l r.number r.offset) _ _ (λ h. found_asked_law file l.refs r.offset r.event) (λ h. tt)

-- the same of the bytes of an event that was read
pub event_in_law : (file : List ℕ) (e : Event) (offset : ℕ) → AskedIn file (event_asked file e offset)
unfolding event_asked
event_in_law file (event.StartArray n) offset = tt
event_in_law file (event.StartDictionary n) offset = tt
event_in_law file event.EndCollection offset = tt
event_in_law file (event.Boolean b) offset = tt
event_in_law file event.Data offset = data_asked_law file _ _ _ (object_at file One offset) (sound file One offset)
event_in_law file (event.Date b) offset = tt
event_in_law file (event.Integer i) offset = tt
event_in_law file (event.Real x) offset = tt
event_in_law file (event.Nan b) offset = tt
event_in_law file event.String offset = text_asked_law file _ _ _ (object_at file One offset) (sound file One offset)
event_in_law file (event.Uid n) offset = tt

-- the bytes that a record asks for lie within the file
pub asked_in : (file : List ℕ) (r : Record) → AskedIn file (asked_of file r)
unfolding asked_of
asked_in file r = either (AskedIn file) (ltb max_length (length file)) _ _ (λ h. tt) (λ h. trailer_asked file r (trailer_of file))
