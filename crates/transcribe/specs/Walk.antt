-- A file walked through from its root on: what is due, and what is known of an event that is noted.
use Rattle.std.specs.Prelude.{false, cond, List, ◌≡◌, ℕ, ◌≤◌, eqb, length}
use Rattle.number.specs.Among.{among}
use Rattle.number.specs.Width.{bytes_in}
use Rattle.event.specs.declared.Event.{Event}
use Rattle.layout.specs.Layout.{due_in}
use Rattle.layout.specs.Bytes.{event_asked}
use Rattle.layout.specs.Said.{span_said}
use Rattle.layout.specs.declared.layout.Due.{Due}
use Rattle.layout.specs.declared.layout.Due.TheVariants.{Member}
use Rattle.layout.specs.declared.layout.Layout.{Layout}
use Rattle.layout.specs.declared.layout.Standing.{Standing}
use Rattle.layout.specs.declared.lookup.Span.{Span}
use Rattle.layout.specs.declared.frame.Frame.{Frame}
use Rattle.reader.specs.declared.state.Reader.{Reader}
use Rattle.tape.specs.Append.{Said, held, refused}
use Rattle.transcribe.specs.HandedLaws.{Given}

-- the root where nothing is open, else what the innermost container says, which stands there
unfoldable pub due_now : List ℕ → Layout → ℕ → ℕ → Frame → Standing → Due
due_now file l root depth f s = cond (eqb depth 0) (Member root) (due_in file l f s.offset s.container)

-- none of these numbers is at or above a bound
abbrev pub Below : ℕ → List ℕ → Type 0
Below above numbers = (n : ℕ) → above ≤ n → among numbers n ≡ false

-- the reader that has these containers open
unfoldable pub within : List ℕ → Layout → ℕ → ℕ → List Frame → Reader
within file l place depth frames =
    record { fresh = false; length = length file; offsets = bytes_in l.offsets; refs = bytes_in l.refs; count = l.count; table = l.table; place = place; depth = depth; frames = frames }

-- an event that a reader handed out, with where its bytes stand
pub record Notable (file : List ℕ) (e : Event) (span : Span) (offset : ℕ) : Type 0 where
  pub stands : span_said span ≡ event_asked file e offset
  pub given : Given file e (event_asked file e offset)

-- what the tape answers where it checks nothing: an event is held, or doesn't fit
abbrev pub Unchecked : ℕ → Said → Type 0
Unchecked at (held n) = Unit {0}
Unchecked at (refused number place) = (number ≡ 27) × (place ≡ at)
