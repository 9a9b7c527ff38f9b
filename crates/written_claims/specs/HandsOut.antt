-- An answer of the reader hands out an event; the text request gives it, with the bytes of its data or text.
use Rattle.std.specs.Prelude.{true, cond, List, [], ◌∷◌, ◌≡◌, ℕ, ◌≤◌, ◌<◌, length}
use Rattle.event.specs.Meaning.{Meaning, array, dictionary, close, boolean, bytes, date, integer, real, text, uid}
use Rattle.event.specs.declared.Event.{Event}
use Rattle.utf.specs.Unicode.{is_ascii}
use Rattle.layout.specs.Bytes.{event_asked, has_bytes}
use Rattle.reader.specs.Machine.{Said, Origin, origin, record_of, event_at}
use Rattle.reader.specs.Meanings.{meaning_at}
use Rattle.reader.specs.Request.{refusing, asked_of, length_said, scratch_after}
use Rattle.reader.specs.RequestLaws.{Gives}
use Rattle.transcribe.specs.TranscriptLaws.{Put}

-- the bytes of data or text
unfoldable pub content_of : Meaning → List ℕ
content_of (array n) = []
content_of (dictionary n) = []
content_of close = []
content_of (boolean b) = []
content_of (bytes s) = s
content_of (date b) = []
content_of (integer z) = []
content_of (real b) = []
content_of (text s) = s
content_of (uid n) = []

-- the scratch that they need: data and ASCII text stand in the file, other text is changed to UTF-8
unfoldable pub scratch_for : Meaning → ℕ
scratch_for (array n) = 0
scratch_for (dictionary n) = 0
scratch_for close = 0
scratch_for (boolean b) = 0
scratch_for (bytes s) = 0
scratch_for (date b) = 0
scratch_for (integer z) = 0
scratch_for (real b) = 0
scratch_for (text s) = cond (is_ascii s) 0 (length s)
scratch_for (uid n) = 0

-- the request for a record: for the bytes of its event, where they stand
abbrev pub AsksOwn : List ℕ → Event → Origin → Type 0
AsksOwn file e o = asked_of file (record_of e o) ≡ event_asked file e o.offset

-- the request where the scratch is too short: 16 at the event's offset, and the scratch is as it was
pub record Lacks (file scratch : List ℕ) (e : Event) (o : Origin) : Type 0 where
  pub has : has_bytes e ≡ true
  pub first : length_said file scratch o.offset (asked_of file (record_of e o)) ≡ refusing 16 [] o.offset
  pub kept : scratch_after file scratch (asked_of file (record_of e o)) ≡ scratch

-- an event with its meaning, and its object's number and offset; the request for it is for its own bytes: they are given wherever the scratch has room
-- for them, none if it isn't data or text, and 16 wherever it has not
pub record HandsOut (file : List ℕ) (p : Put) (x : Said) : Type 0 where
  pub e : Event
  pub number : ℕ
  pub is : x ≡ event_at e (origin number p.offset)
  pub means : meaning_at file e p.offset ≡ p.meaning
  pub asks : AsksOwn file e (origin number p.offset)
  pub gives : (scratch : List ℕ) → scratch_for p.meaning ≤ length scratch
      → Gives file scratch p.offset (asked_of file (record_of e (origin number p.offset))) (content_of p.meaning)
  pub lacks : (scratch : List ℕ) → length scratch < scratch_for p.meaning → Lacks file scratch e (origin number p.offset)

-- answer by answer
abbrev pub HandOut : List ℕ → List Put → List Said → Type 0
HandOut file [] [] = Unit {0}
HandOut file [] (x ∷ xs) = ⊥
HandOut file (p ∷ ps) [] = ⊥
HandOut file (p ∷ ps) (x ∷ xs) = HandsOut file p x × HandOut file ps xs
