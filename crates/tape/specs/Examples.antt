-- Events and their bytes, one for each kind and at the limits, computed; then bytes that are no event.
use Rattle.std.specs.Prelude.{true, false, List, [], ◌∷◌, map, ◌≡◌, refl, ℕ, pos, negsuc, replicate, None, Some}
use Rattle.event.specs.DateLaws.{largest, beyond}
use Rattle.event.specs.Meaning.{Meaning, array, dictionary, close, boolean, bytes, date, integer, real, text, uid}
use Rattle.tape.specs.Append.{held, refused, append_of, append_to}
use Rattle.tape.specs.Code.{bytes_for}
use Rattle.tape.specs.Computed.{computed}
use Rattle.tape.specs.Events.{whole, broken, events_of}
use Rattle.tape.specs.Item.{event, bad, read_at}

-- false, true; 0, 127, 128, 2^64 - 1; -1, -2^63; 1.5; a NaN; -0 as a date; UID 300
-- data AB CD, no data; text of two bytes, no text; containers without and with a length; an end
abbrev meanings : List Meaning
meanings =
    boolean false ∷
    boolean true ∷
    integer (pos 0) ∷
    integer (pos 127) ∷
    integer (pos 128) ∷
    integer (pos 0xFFFF_FFFF_FFFF_FFFF) ∷
    integer (negsuc 0) ∷
    integer (negsuc 0x7FFF_FFFF_FFFF_FFFF) ∷
    real 0x3FF8_0000_0000_0000 ∷
    real 0x7FF0_0000_0000_0001 ∷
    date 0x8000_0000_0000_0000 ∷
    uid 300 ∷
    bytes (0xAB ∷ 0xCD ∷ []) ∷
    bytes [] ∷
    text (0xC3 ∷ 0xA9 ∷ []) ∷
    text [] ∷
    array None ∷
    array (Some 3) ∷
    dictionary None ∷
    dictionary (Some 1) ∷
    close ∷
    []

abbrev tapes : List (List ℕ)
tapes =
    (0x01 ∷ []) ∷
    (0x02 ∷ []) ∷
    (0x03 ∷ 0x00 ∷ []) ∷
    (0x03 ∷ 0x7F ∷ []) ∷
    (0x03 ∷ 0x80 ∷ 0x01 ∷ []) ∷
    (0x03 ∷ 0xFF ∷ 0xFF ∷ 0xFF ∷ 0xFF ∷ 0xFF ∷ 0xFF ∷ 0xFF ∷ 0xFF ∷ 0xFF ∷ 0x01 ∷ []) ∷
    (0x04 ∷ 0x00 ∷ []) ∷
    (0x04 ∷ 0xFF ∷ 0xFF ∷ 0xFF ∷ 0xFF ∷ 0xFF ∷ 0xFF ∷ 0xFF ∷ 0xFF ∷ 0x7F ∷ []) ∷
    (0x05 ∷ 0x3F ∷ 0xF8 ∷ 0x00 ∷ 0x00 ∷ 0x00 ∷ 0x00 ∷ 0x00 ∷ 0x00 ∷ []) ∷
    (0x05 ∷ 0x7F ∷ 0xF0 ∷ 0x00 ∷ 0x00 ∷ 0x00 ∷ 0x00 ∷ 0x00 ∷ 0x01 ∷ []) ∷
    (0x06 ∷ 0x80 ∷ 0x00 ∷ 0x00 ∷ 0x00 ∷ 0x00 ∷ 0x00 ∷ 0x00 ∷ 0x00 ∷ []) ∷
    (0x07 ∷ 0xAC ∷ 0x02 ∷ []) ∷
    (0x08 ∷ 0x02 ∷ 0xAB ∷ 0xCD ∷ []) ∷
    (0x08 ∷ 0x00 ∷ []) ∷
    (0x09 ∷ 0x02 ∷ 0xC3 ∷ 0xA9 ∷ []) ∷
    (0x09 ∷ 0x00 ∷ []) ∷
    (0x0A ∷ []) ∷
    (0x0B ∷ 0x03 ∷ []) ∷
    (0x0C ∷ []) ∷
    (0x0D ∷ 0x01 ∷ []) ∷
    (0x0E ∷ []) ∷
    []

pub written : map bytes_for meanings ≡ tapes
unfolding computed
written = refl

pub read : map events_of tapes ≡ map (λ (m : Meaning). whole (m ∷ [])) meanings
unfolding computed
read = refl

-- no byte; kinds 00 and 0F; 0 in two groups; 2^64; eleven groups; a number that doesn't end; -1 - 2^63; 7 bytes of a real; data that is
-- too short; text too short; C0 80 as text
pub not_events :
    map (λ (t : List ℕ). read_at t 0)
    ([] ∷
    (0x00 ∷ []) ∷
    (0x0F ∷ []) ∷
    (0x03 ∷ 0x80 ∷ 0x00 ∷ []) ∷
    (0x03 ∷ 0x80 ∷ 0x80 ∷ 0x80 ∷ 0x80 ∷ 0x80 ∷ 0x80 ∷ 0x80 ∷ 0x80 ∷ 0x80 ∷ 0x02 ∷ []) ∷
    (0x03 ∷ 0x80 ∷ 0x80 ∷ 0x80 ∷ 0x80 ∷ 0x80 ∷ 0x80 ∷ 0x80 ∷ 0x80 ∷ 0x80 ∷ 0x81 ∷ 0x01 ∷ []) ∷
    (0x03 ∷ 0x80 ∷ []) ∷
    (0x04 ∷ 0x80 ∷ 0x80 ∷ 0x80 ∷ 0x80 ∷ 0x80 ∷ 0x80 ∷ 0x80 ∷ 0x80 ∷ 0x80 ∷ 0x01 ∷ []) ∷
    (0x05 ∷ 0x00 ∷ 0x00 ∷ 0x00 ∷ 0x00 ∷ 0x00 ∷ 0x00 ∷ 0x00 ∷ []) ∷
    (0x08 ∷ 0x03 ∷ 0xAB ∷ 0xCD ∷ []) ∷
    (0x09 ∷ 0x02 ∷ 0x61 ∷ []) ∷
    (0x09 ∷ 0x02 ∷ 0xC0 ∷ 0x80 ∷ []) ∷
    []) ≡
    (bad ∷ bad ∷ bad ∷ bad ∷ bad ∷ bad ∷ bad ∷ bad ∷ bad ∷ bad ∷ bad ∷ bad ∷ [])
unfolding computed
not_events = refl

-- dates at the limits: the neighbours of infinity are read and appended; infinities and NaNs are no event, and are refused
pub dates :
    (map (λ (b : ℕ). read_at (bytes_for (date b)) 0) largest ≡ map (λ (b : ℕ). event (date b) 9) largest) ×
    (map (λ (b : ℕ). read_at (bytes_for (date b)) 0) beyond ≡ replicate 5 bad) ×
    (map (λ (b : ℕ). append_of (replicate 9 0xEE) 0 (date b)) largest ≡ replicate 2 (held 9)) ×
    (map (λ (b : ℕ). append_of (replicate 9 0xEE) 0 (date b)) beyond ≡ replicate 5 (refused 20 0))
unfolding computed
dates = (refl, refl, refl, refl)

-- P10 of docs/FORMAT.md as a tape, and a tape that is bad behind its first event
pub walked :
    map events_of
    ((0x0B ∷ 0x03 ∷ 0x03 ∷ 0x01 ∷ 0x09 ∷ 0x01 ∷ 0x61 ∷ 0x03 ∷ 0x01 ∷ 0x0E ∷ []) ∷ (0x0A ∷ 0x0F ∷ []) ∷ []) ≡
    (whole (array (Some 3) ∷ integer (pos 1) ∷ text (0x61 ∷ []) ∷ integer (pos 1) ∷ close ∷ []) ∷ broken (array None ∷ []) 1 ∷ [])
unfolding computed
walked = refl

-- into four bytes of which one is held: 128, which just fits; 16384, which doesn't; C0 80 as text, which doesn't either and isn't UTF-8:
-- 20 comes first; and an end where five bytes are said to be held
abbrev tape : List ℕ
tape = 0x0A ∷ 0xEE ∷ 0xEE ∷ 0xEE ∷ []

pub answers :
    (append_of tape 1 (integer (pos 128)) ∷ append_of tape 1 (integer (pos 16384)) ∷ append_of tape 1 (text (0xC0 ∷ 0x80 ∷ [])) ∷ append_of tape 5 close ∷ []) ≡
    (held 4 ∷ refused 27 1 ∷ refused 20 1 ∷ refused 27 5 ∷ [])
unfolding computed
answers = refl

pub afterwards :
    (append_to tape 1 (integer (pos 128)) ∷ append_to tape 1 (integer (pos 16384)) ∷ []) ≡
    ((0x0A ∷ 0x03 ∷ 0x80 ∷ 0x01 ∷ []) ∷ tape ∷ [])
unfolding computed
afterwards = refl
