-- An event's bytes on the tape are bytes, where those of its data or text are.
use Rattle.std.specs.Prelude.{Bool, true, false, ◌≡◌, refl, ℕ, zero, suc, ◌/◌, ◌^◌, ◌≤◌, ◌<◌, ltb, pos, negsuc, length, None, Some}
use Rattle.std.proofs.Common.{arith, ltb-true, ltb-false}
use Rattle.event.specs.Meaning.{Meaning, array, dictionary, close, boolean, bytes, date, integer, real, text, uid}
use Rattle.number.specs.BeLaws.{Bytes, bytes_append, bytes_of_bytes}
use Rattle.tape.specs.Code.{bytes_for, InRange}
use Rattle.tape.specs.Seven.{groups, seven}
use Rattle.tape.specs.SevenLaws.{rest_lt, groups_last, groups_more}

-- the bytes of data or text are bytes
abbrev pub Filled : Meaning → Type 0
Filled (array n) = Unit {0}
Filled (dictionary n) = Unit {0}
Filled close = Unit {0}
Filled (boolean b) = Unit {0}
Filled (bytes s) = Bytes s
Filled (date b) = Unit {0}
Filled (integer z) = Unit {0}
Filled (real b) = Unit {0}
Filled (text s) = Bytes s
Filled (uid n) = Unit {0}

-- what code can hand over: its numbers have 64 bits, its bytes are bytes
abbrev pub Sound : Meaning → Type 0
Sound m = InRange m × Filled m

groups_bytes : (k n : ℕ) → n < 128 ^ suc k → Bytes (groups (suc k) n)
groups_bytes zero n h = rw (groups_last 0 n (omega arith)) (omega arith, tt)
groups_bytes (suc k) n h = go (ltb n 128) refl (groups_bytes k (n / 128) (rest_lt k n h))
  where
    go : (b : Bool) → ltb n 128 ≡ b → Bytes (groups (suc k) (n / 128)) → Bytes (groups (suc (suc k)) n)
    go true e ih =
        let l : n < 128 = ltb-true n 128 e in
        rw (groups_last (suc k) n l) (omega arith, tt)
    go false e ih =
        let l : 128 ≤ n = ltb-false n 128 e in
        rw (groups_more (suc k) n l) (omega arith, ih)

seven_bytes : (n : ℕ) → n < 2 ^ 64 → Bytes (seven n)
unfolding seven
seven_bytes n h = groups_bytes 9 n (omega arith)

pub sound_bytes : (m : Meaning) → Sound m → Bytes (bytes_for m)
unfolding bytes_for
sound_bytes (array None) h = (omega arith, tt)
sound_bytes (array (Some n)) h = (omega arith, seven_bytes n h.0)
sound_bytes (dictionary None) h = (omega arith, tt)
sound_bytes (dictionary (Some n)) h = (omega arith, seven_bytes n h.0)
sound_bytes close h = (omega arith, tt)
sound_bytes (boolean false) h = (omega arith, tt)
sound_bytes (boolean true) h = (omega arith, tt)
sound_bytes (bytes s) h = (omega arith, bytes_append (seven (length s)) s (seven_bytes (length s) h.0) h.1)
sound_bytes (date b) h = (omega arith, bytes_of_bytes 8 b)
sound_bytes (integer (pos n)) h = (omega arith, seven_bytes n h.0)
sound_bytes (integer (negsuc k)) h = (omega arith, seven_bytes k (let l : k < 2 ^ 63 = h.0 in omega arith))
sound_bytes (real b) h = (omega arith, bytes_of_bytes 8 b)
sound_bytes (text s) h = (omega arith, bytes_append (seven (length s)) s (seven_bytes (length s) h.0) h.1)
sound_bytes (uid n) h = (omega arith, seven_bytes n h.0)
