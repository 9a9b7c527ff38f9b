-- The text request: the bytes of a record; of one without bytes, whether the file gives it. docs/FORMAT.md, rules R25 to R30.
use Rattle.std.specs.Prelude.{cond, List, [], ◌++◌, ℕ, ltb, leb, length, take, drop}
use Rattle.utf.specs.Unicode.{to_utf8}
use Rattle.number.specs.Part.{part}
use Rattle.object.specs.Object.{object_at}
use Rattle.layout.specs.Bytes.{Asked, in_file, in_utf16, no_bytes, denied, found_asked}
use Rattle.layout.specs.Listed.{is_listed}
use Rattle.layout.specs.Trailer.{Trailer, keeps, ends, lays, trailer_of}
use Rattle.layout.specs.declared.layout.Layout.{Layout}
use Rattle.reader.specs.State.{max_length}
use Rattle.reader.specs.declared.answer.Record.{Record}

-- what a file gives of a record, under the sizes, the count and the table of its trailer: 17 where the table doesn't have the record's offset
-- under its number, or where reading there doesn't give the record (R27)
unfoldable pub asked_under : List ℕ → Record → Layout → Asked
asked_under file r l =
    cond (is_listed file l r.number r.offset) (found_asked r.event (object_at file l.refs r.offset)) (denied 17 [])

-- a file whose trailer is refused gives no record
unfoldable pub asked_by : List ℕ → Record → Trailer → Asked
asked_by file r (keeps number values place) = denied 17 []
asked_by file r (ends number values place) = denied 17 []
asked_by file r (lays l root) = asked_under file r l

-- first 1, then 17 (R26)
unfoldable pub asked_of : List ℕ → Record → Asked
asked_of file r = cond (ltb max_length (length file)) (denied 1 []) (asked_by file r (trailer_of file))

-- an answer: a length, or a refusal with number, values and place
pub data TextSaid : Type 0 where
  long : ℕ → TextSaid
  refusing : ℕ → List ℕ → ℕ → TextSaid

-- the first call's answer: 16 exactly where the scratch is shorter than the text of a 6x (R26, R28)
unfoldable pub length_said : List ℕ → List ℕ → ℕ → Asked → TextSaid
length_said file scratch offset (in_file start n) = long n
length_said file scratch offset (in_utf16 start n) =
    cond (leb (length (to_utf8 (part file start n))) (length scratch)) (long (length (to_utf8 (part file start n)))) (refusing 16 [] offset)
length_said file scratch offset no_bytes = long 0
length_said file scratch offset (denied number values) = refusing number values 0

-- the scratch afterwards: the text of a 6x stands at its start, where there is room (R30)
unfoldable pub scratch_after : List ℕ → List ℕ → Asked → List ℕ
scratch_after file scratch (in_file start n) = scratch
scratch_after file scratch (in_utf16 start n) =
    cond (leb (length (to_utf8 (part file start n))) (length scratch))
    (to_utf8 (part file start n) ++ drop (length (to_utf8 (part file start n))) scratch)
    scratch
scratch_after file scratch no_bytes = scratch
scratch_after file scratch (denied number values) = scratch

-- the second call's answer (R29)
unfoldable pub part_said : List ℕ → List ℕ → Asked → List ℕ
part_said file scratch (in_file start n) = part file start n
part_said file scratch (in_utf16 start n) =
    cond (leb (length (to_utf8 (part file start n))) (length scratch)) (take (length (to_utf8 (part file start n))) scratch) []
part_said file scratch no_bytes = []
part_said file scratch (denied number values) = []
