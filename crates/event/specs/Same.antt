-- Whether two events are the same, the bytes of their data or text apart: integers by value, reals and dates by their bits.
use Rattle.std.specs.Prelude.{Bool, true, false, ◌&&◌, [], ℕ, ◌+◌, eqb, pos, negsuc, None, Option, Some}
use Rattle.event.specs.Meaning.{Meaning, array, dictionary, close, boolean, bytes, date, integer, real, text, uid, meaning_of}
use Rattle.event.specs.declared.Event.{Event}
use Rattle.event.specs.declared.same.Key.{Key}

-- a kind, and the number beside it
abbrev pub key : ℕ → ℕ → Key
key kind number = record { kind = kind; number = number }

-- what a meaning is, its bytes apart. The kinds are those of the tape; `negsuc k` is -1 - k
unfoldable pub key_of : Meaning → Key
key_of (boolean false) = key 0x01 0
key_of (boolean true) = key 0x02 0
key_of (integer (pos n)) = key 0x03 n
key_of (integer (negsuc k)) = key 0x04 k
key_of (real b) = key 0x05 b
key_of (date b) = key 0x06 b
key_of (uid n) = key 0x07 n
key_of (bytes s) = key 0x08 0
key_of (text s) = key 0x09 0
key_of (array None) = key 0x0A 0
key_of (array (Some n)) = key 0x0B n
key_of (dictionary None) = key 0x0C 0
key_of (dictionary (Some n)) = key 0x0D n
key_of close = key 0x0E 0

-- two events have the same key; `same_means` and `means_same` say that this is so exactly where they mean the same
unfoldable pub same : Event → Event → Bool
same a b =
    let x = key_of (meaning_of a []) in
    let y = key_of (meaning_of b []) in
    eqb x.kind y.kind && eqb x.number y.number

-- the key of a container's start, by its kind without a length
unfoldable pub start_key : ℕ → Option ℕ → Key
start_key kind (Some n) = key (kind + 1) n
start_key kind None = key kind 0
