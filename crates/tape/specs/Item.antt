-- The event that begins at a place of the tape. docs/FORMAT.md, rules T2 and T3. Where the bytes are no such event, whole and in this form,
-- they are bad.
use Rattle.std.specs.Prelude.{true, false, cond, List, ℕ, ◌+◌, ◌^◌, ltb, leb, eqb, negsuc, length, get_or, None, Option, Some}
use Rattle.event.specs.Date.{is_date}
use Rattle.event.specs.Meaning.{Meaning, meaning_of}
use Rattle.event.specs.Real.{real_of}
use Rattle.event.specs.declared.Event.{Event}
use Rattle.event.specs.declared.Event.TheVariants.{StartArray, StartDictionary, EndCollection, Boolean, Data, Date, Integer, String, Uid}
use Rattle.event.specs.declared.Integer.TheVariants.{Signed, Unsigned}
use Rattle.number.specs.Part.{part}
use Rattle.tape.specs.Value.{number_at, eight_at}
use Rattle.tape.specs.declared.item.Item.{Item}
use Rattle.utf.specs.Unicode.{is_utf8}

-- an event that has no bytes of data or text
unfoldable pub plain : Event → ℕ → Option Item
plain e next = Some (record { event = e; start = next; length = 0; next = next })

-- an event of a number: an integer from 0 on, a real, a UID, the start of a container with its length (T2)
unfoldable pub numbered : (ℕ → Event) → Option (ℕ × ℕ) → Option Item
numbered f (Some (n, next)) = plain (f n) next
numbered f None = None

-- a negative integer, not below -2^63 (T2, T3)
unfoldable pub negative : Option (ℕ × ℕ) → Option Item
negative (Some (k, next)) = cond (ltb k (2 ^ 63)) (plain (Integer (Signed (negsuc k))) next) None
negative None = None

-- a date, of bits that may be a date's (T2, T3)
unfoldable pub date_in : Option (ℕ × ℕ) → Option Item
date_in (Some (bits, next)) = cond (is_date bits) (plain (Date bits) next) None
date_in None = None

-- an event whose bytes of data or text stand at a place
unfoldable pub bytes_at : Event → ℕ → ℕ → Option Item
bytes_at e at n = Some (record { event = e; start = at; length = n; next = at + n })

-- a length, then as many bytes (T2)
unfoldable pub data_in : List ℕ → Option (ℕ × ℕ) → Option Item
data_in tape (Some (n, at)) = cond (leb (at + n) (length tape)) (bytes_at Data at n) None
data_in tape None = None

-- the same, and they are UTF-8 (T2, T3)
unfoldable pub text_in : List ℕ → Option (ℕ × ℕ) → Option Item
text_in tape (Some (n, at)) =
    cond (leb (at + n) (length tape))
    (cond (is_utf8 (part tape at n)) (bytes_at String at n) None)
    None
text_in tape None = None

-- what stands behind a kind, from a place on
unfoldable pub of_kind : List ℕ → ℕ → ℕ → Option Item
of_kind tape kind at =
    cond (eqb kind 0x01) (plain (Boolean false) at)
    (cond (eqb kind 0x02) (plain (Boolean true) at)
    (cond (eqb kind 0x03) (numbered (λ n. Integer (Unsigned n)) (number_at tape at))
    (cond (eqb kind 0x04) (negative (number_at tape at))
    (cond (eqb kind 0x05) (numbered real_of (eight_at tape at))
    (cond (eqb kind 0x06) (date_in (eight_at tape at))
    (cond (eqb kind 0x07) (numbered Uid (number_at tape at))
    (cond (eqb kind 0x08) (data_in tape (number_at tape at))
    (cond (eqb kind 0x09) (text_in tape (number_at tape at))
    (cond (eqb kind 0x0A) (plain (StartArray None) at)
    (cond (eqb kind 0x0B) (numbered (λ n. StartArray (Some n)) (number_at tape at))
    (cond (eqb kind 0x0C) (plain (StartDictionary None) at)
    (cond (eqb kind 0x0D) (numbered (λ n. StartDictionary (Some n)) (number_at tape at))
    (cond (eqb kind 0x0E) (plain EndCollection at)
    None)))))))))))))

-- the event that begins at a place; at or beyond the tape's end there is none
unfoldable pub item_at : List ℕ → ℕ → Option Item
item_at tape at = cond (ltb at (length tape)) (of_kind tape (get_or tape at 0) (at + 1)) None

-- what an item of a tape means
unfoldable pub meaning_in : List ℕ → Item → Meaning
meaning_in tape i = meaning_of i.event (part tape i.start i.length)

-- a step by meanings: what the event at a place means and where the next one begins
pub data Reading : Type 0 where
  event : Meaning → ℕ → Reading
  bad : Reading

unfoldable pub reading_of : List ℕ → Option Item → Reading
reading_of tape (Some i) = event (meaning_in tape i) i.next
reading_of tape None = bad

unfoldable pub read_at : List ℕ → ℕ → Reading
read_at tape at = reading_of tape (item_at tape at)
