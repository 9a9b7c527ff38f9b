-- An event appended to a tape of which the front is held. docs/FORMAT.md, rule T6.
use Rattle.std.specs.Prelude.{Bool, cond, List, ◌≡◌, ℕ, ◌+◌, leb, length}
use Rattle.std.proofs.lemmas.List.Edits.{sets}
use Rattle.event.specs.Meaning.{Meaning, text}
use Rattle.utf.specs.Unicode.{is_utf16, to_utf8}
use Rattle.tape.specs.Code.{bytes_for, allowed}
use Rattle.tape.specs.Item.{event, read_at}
use Rattle.tape.specs.declared.append.Appended.{Appended}
use Rattle.tape.specs.declared.append.Appended.TheVariants.{Held, BadEvent, NoRoom}

-- how many bytes are held afterwards, or a refusal's number and place
pub data Said : Type 0 where
  held : ℕ → Said
  refused : ℕ → ℕ → Said

-- the numbers of table N
unfoldable pub said : Appended → Said
said (Held n) = held n
said (BadEvent place) = refused 20 place
said (NoRoom place) = refused 27 place

-- whether bytes fit into a tape from a place on
unfoldable pub fits : List ℕ → ℕ → List ℕ → Bool
fits tape at s = leb (at + length s) (length tape)

-- what doesn't fit is refused at the place where it would begin
unfoldable pub put_of : List ℕ → ℕ → List ℕ → Said
put_of tape at s = cond (fits tape at s) (held (at + length s)) (refused 27 at)

-- the tape afterwards: the bytes in the place of as many, or unchanged
unfoldable pub put_to : List ℕ → ℕ → List ℕ → List ℕ
put_to tape at s = cond (fits tape at s) (sets tape at s) tape

-- text that isn't UTF-8, and a date that isn't finite, is refused first
unfoldable pub append_of : List ℕ → ℕ → Meaning → Said
append_of tape at m = cond (allowed m) (put_of tape at (bytes_for m)) (refused 20 at)

unfoldable pub append_to : List ℕ → ℕ → Meaning → List ℕ
append_to tape at m = cond (allowed m) (put_to tape at (bytes_for m)) tape

-- text that stands as UTF-16 is put in UTF-8; bytes that aren't UTF-16 are refused as text that isn't UTF-8 is
unfoldable pub utf16_of : List ℕ → ℕ → List ℕ → Said
utf16_of tape at s = cond (is_utf16 s) (put_of tape at (bytes_for (text (to_utf8 s)))) (refused 20 at)

unfoldable pub utf16_to : List ℕ → ℕ → List ℕ → List ℕ
utf16_to tape at s = cond (is_utf16 s) (put_to tape at (bytes_for (text (to_utf8 s)))) tape

-- what is appended is stepped to again: where bytes are held up to a place, the event behind those held before means the same, and
-- the next one begins at that place
abbrev pub ReadsBack : List ℕ → ℕ → Meaning → Said → Type 0
ReadsBack tape at m s = (next : ℕ) → s ≡ held next → read_at tape at ≡ event m next
