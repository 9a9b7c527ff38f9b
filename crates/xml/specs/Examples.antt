-- Whole XML and refusals, computed.
use Rattle.std.specs.Prelude.{true, List, [], ◌∷◌, ◌++◌, map, ◌≡◌, refl, ℕ, pos, negsuc, None, Some}
use Rattle.digits.specs.Ascii.{ascii}
use Rattle.event.specs.Meaning.{Meaning, array, dictionary, close, boolean, bytes, date, integer, text}
use Rattle.grammar.specs.declared.answer.EventKind.TheVariants.{DictionaryKeyOrEndCollection, Integer}
use Rattle.tape.specs.Events.{meanings_in}
use Rattle.xml.specs.Computed.{computed}
use Rattle.xml.specs.Shown.{shown_of}
use Rattle.xml.specs.Write.{long, refused, measured_of, answer_of}
use Rattle.xml.specs.Xml.{lines_from, xml_of}
use Rattle.grammar.specs.declared.turn.Due.TheVariants.{Root}

-- the record of a hold: the example of docs/FORMAT.md, part X
abbrev pub record_events : List Meaning
record_events =
    dictionary None ∷
    text (ascii "matter") ∷
    text (ascii "Roe & Coe <sealed>") ∷
    text (ascii "until") ∷
    date 0x41C8_7392_0000_0000 ∷
    text (ascii "seal") ∷
    bytes (0xDE ∷ 0xAD ∷ 0xBE ∷ 0xEF ∷ []) ∷
    text (ascii "balance") ∷
    integer (negsuc 4) ∷
    text (ascii "hold") ∷
    boolean true ∷
    text (ascii "notes") ∷
    array (Some 0) ∷
    close ∷
    close ∷
    []

abbrev pub record_tape : List ℕ
record_tape =
    (0x0C ∷ 0x09 ∷ 0x06 ∷ ascii "matter") ++
    ((0x09 ∷ 0x12 ∷ ascii "Roe & Coe <sealed>") ++
    ((0x09 ∷ 0x05 ∷ ascii "until") ++
    ((0x06 ∷ 0x41 ∷ 0xC8 ∷ 0x73 ∷ 0x92 ∷ 0x00 ∷ 0x00 ∷ 0x00 ∷ 0x00 ∷ []) ++
    ((0x09 ∷ 0x04 ∷ ascii "seal") ++
    ((0x08 ∷ 0x04 ∷ 0xDE ∷ 0xAD ∷ 0xBE ∷ 0xEF ∷ []) ++
    ((0x09 ∷ 0x07 ∷ ascii "balance") ++
    ((0x04 ∷ 0x04 ∷ 0x09 ∷ 0x04 ∷ ascii "hold") ++
    ((0x02 ∷ 0x09 ∷ 0x05 ∷ ascii "notes") ++
    (0x0B ∷ 0x00 ∷ 0x0E ∷ 0x0E ∷ [])))))))))

-- the tape means these events
pub record_means : meanings_in record_tape ≡ record_events
unfolding computed
record_means = refl

-- the whole of it, line by line
pub record_xml :
    xml_of record_events ≡
    ascii "<?xml version=\"1.0\" encoding=\"UTF-8\"?>\n" ++
    (ascii "<!DOCTYPE plist PUBLIC \"-//Apple//DTD PLIST 1.0//EN\" \"http://www.apple.com/DTDs/PropertyList-1.0.dtd\">\n" ++
    (ascii "<plist version=\"1.0\">\n<dict>\n<key>matter</key>\n<string>Roe &amp; Coe &lt;sealed&gt;</string>\n" ++
    (ascii "<key>until</key>\n<date>2027-01-01T00:00:00Z</date>\n<key>seal</key>\n<data>3q2+7w==</data>\n" ++
    ascii "<key>balance</key>\n<integer>-5</integer>\n<key>hold</key>\n<true/>\n<key>notes</key>\n<array>\n</array>\n</dict>\n</plist>\n")))
unfolding computed
record_xml = refl

-- 440 bytes of output are enough, and 439 are not
pub record_room : (measured_of record_tape ≡ long 440) × (map (answer_of record_tape) (440 ∷ 439 ∷ 0 ∷ []) ≡ long 440 ∷ refused 25 [] 0 ∷ refused 25 [] 0 ∷ [])
unfolding computed
record_room = (refl, refl)

-- the ends of integers, and empty data and text
pub ends : lines_from Root [] (array None ∷ integer (negsuc 0x7FFF_FFFF_FFFF_FFFF) ∷ integer (pos 0xFFFF_FFFF_FFFF_FFFF) ∷ bytes [] ∷ text [] ∷ close ∷ []) ≡ ascii "<array>\n<integer>-9223372036854775808</integer>\n<integer>18446744073709551615</integer>\n<data></data>\n<string></string>\n</array>\n"
unfolding computed
ends = refl

-- `]]>` is escaped; a quotation mark, a tab and a return stand as they are
pub marks : lines_from Root [] (text (ascii "]]>\"'\t\r") ∷ []) ≡ ascii "<string>]]&gt;\"'\t\r</string>\n"
unfolding computed
marks = refl

-- a real and a UID, 35; U+0001, U+FFFE and U+FFFF, 36; a date at the first second of the year 10000, 30, behind U+FFFD, U+1FFFE and U+007F, which may stand
pub refusals :
    map measured_of
    ((0x0A ∷ 0x05 ∷ 0x3F ∷ 0xF8 ∷ 0x00 ∷ 0x00 ∷ 0x00 ∷ 0x00 ∷ 0x00 ∷ 0x00 ∷ 0x0E ∷ []) ∷
    (0x07 ∷ 0x07 ∷ []) ∷
    (0x0A ∷ 0x09 ∷ 0x03 ∷ 0x6F ∷ 0x6B ∷ 0x0A ∷ 0x09 ∷ 0x02 ∷ 0x61 ∷ 0x01 ∷ 0x07 ∷ 0x01 ∷ 0x0E ∷ []) ∷
    (0x09 ∷ 0x03 ∷ 0xEF ∷ 0xBF ∷ 0xBE ∷ []) ∷
    (0x09 ∷ 0x04 ∷ 0x61 ∷ 0xEF ∷ 0xBF ∷ 0xBF ∷ []) ∷
    (0x0A ∷ 0x09 ∷ 0x08 ∷ 0xEF ∷ 0xBF ∷ 0xBD ∷ 0xF0 ∷ 0x9F ∷ 0xBF ∷ 0xBE ∷ 0x7F ∷ 0x06 ∷ 0x42 ∷ 0x4D ∷ 0x62 ∷ 0xD2 ∷ 0x3C ∷ 0x80 ∷ 0x00 ∷ 0x00 ∷ 0x0E ∷ []) ∷
    []) ≡
    (refused 35 [] 1 ∷
    refused 35 [] 0 ∷
    refused 36 [] 6 ∷
    refused 36 [] 0 ∷
    refused 36 [] 0 ∷
    refused 30 [] 11 ∷
    [])
unfolding computed
refusals = refl

-- the refusals of the tape come before: of a real and then an integer where a key is due, 21
pub tape_first : measured_of (0x0C ∷ 0x09 ∷ 0x00 ∷ 0x05 ∷ 0x3F ∷ 0xF8 ∷ 0x00 ∷ 0x00 ∷ 0x00 ∷ 0x00 ∷ 0x00 ∷ 0x00 ∷ 0x03 ∷ 0x01 ∷ 0x0E ∷ []) ≡ refused 21 (DictionaryKeyOrEndCollection ∷ Integer ∷ []) 12
unfolding computed
tape_first = refl

-- -0.0 and 0.5 are shown as the date 0.0 is
pub floors : map shown_of (date 0x8000_0000_0000_0000 ∷ date 0x3FE0_0000_0000_0000 ∷ []) ≡ shown_of (date 0) ∷ shown_of (date 0) ∷ []
unfolding computed
floors = refl
