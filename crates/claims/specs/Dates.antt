-- No file is read as having a date that is infinite or a NaN: whatever the state and the file, a date that a call hands out has a date's bits
-- (docs/FORMAT.md, R11), and where other bits stand the call is refused with 34.
use Rattle.std.specs.Prelude.{true, List, ◌≡◌, ℕ}
use Rattle.std.proofs.lemmas.Bool.{false≢true}
use Rattle.std.proofs.Common.{arith}
use Rattle.event.specs.Date.{is_date}
use Rattle.event.specs.declared.Event.TheVariants.{Date}
use Rattle.layout.specs.Bytes.{Asked, in_file, in_utf16, no_bytes, denied, event_asked, has_bytes}
use Rattle.reader.specs.Calls.{runs, answer_of}
use Rattle.reader.specs.Machine.{Origin, event_at}
use Rattle.reader.specs.Next.{next_of}
use Rattle.reader.specs.declared.state.Reader.{Reader}
use Rattle.transcribe.specs.HandedLaws.{Given, next_handed}

given_date : (file : List ℕ) (b : ℕ) (a : Asked) → Given file (Date b) a → is_date b ≡ true
unfolding has_bytes
given_date file b (in_file start n) g = absurd (false≢true g.0)
given_date file b (in_utf16 start n) g = let z : ◌≡◌ {A = ℕ} 0 1 = cc in absurd (omega arith)
given_date file b no_bytes g = g
given_date file b (denied number values) g = absurd g

pub next_date : (file : List ℕ) (r : Reader) (b : ℕ) (o : Origin) → (next_of file r).answer ≡ event_at (Date b) o → is_date b ≡ true
next_date file r b o e =
    let g : Given file (Date b) (event_asked file (Date b) o.offset) = rw e at (next_handed file r) in
    given_date file b (event_asked file (Date b) o.offset) g

-- so of the calls from a fresh reader on
pub answer_date : (file : List ℕ) (n b : ℕ) (o : Origin) → answer_of file n ≡ event_at (Date b) o → is_date b ≡ true
unfolding answer_of
answer_date file n b o e = next_date file (runs file n) b o e
