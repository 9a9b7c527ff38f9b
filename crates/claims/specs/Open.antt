-- What holds of a reader that came from a fresh one by calls on one file.
use Rattle.std.specs.Prelude.{false, List, ◌≡◌, ℕ, suc, ◌-◌, ◌≤◌, ◌<◌, length, get_or}
use Rattle.number.specs.Width.{bytes_in}
use Rattle.layout.specs.FoundLaws.{refs_of}
use Rattle.layout.specs.LookLaws.{Laid, Standing}
use Rattle.layout.specs.Layout.{due_of, look_of}
use Rattle.layout.specs.Looked.{container, Shape}
use Rattle.layout.specs.Frame.{at_position, no_frame}
use Rattle.layout.specs.Trailer.{lays, trailer_of}
use Rattle.layout.specs.declared.layout.Due.TheVariants.{Member}
use Rattle.layout.specs.declared.layout.Layout.{Layout}
use Rattle.layout.specs.declared.frame.Frame.{Frame}
use Rattle.reader.specs.State.{max_open, max_length, fresh_reader, ended_reader}
use Rattle.reader.specs.declared.state.Reader.{Reader}
use Rattle.claims.specs.Due.{Pending, pending}

-- the frame at a depth, the outermost at 0
abbrev pub frame_at : List Frame → ℕ → Frame
frame_at frames i = get_or frames i no_frame

-- a frame as it was before its last reference was handed out
unfoldable pub before : Frame → Frame
before f = at_position f (f.position - 1)

-- An open container: looking its object up gives a container of its length at its offset. So its object is below the count, its entry is the
-- offset that is kept, that container stands there, and its references lie within the file. Its position is not above their number
pub record Opened (file : List ℕ) (l : Layout) (f : Frame) : Type 0 where
  pub shape : Shape
  pub look : look_of file l f.object ≡ container shape f.length f.offset
  pub standing : Standing file l f.object shape f.length f.offset
  pub within : f.position ≤ refs_of shape f.length

-- so its end or a reference is due
pub opened_pending : {file : List ℕ} {l : Layout} {f : Frame} (t : Opened file l f) → Pending file l f (refs_of t.shape f.length) f.offset
opened_pending {file} {l} {f} t = pending file l f t.shape t.standing t.within

-- The open containers, one at least: frames that aren't open are clear, the outermost container is the root, each other one is the
-- reference that the one around it handed out last, and no object is open twice
pub record Stack (file : List ℕ) (l : Layout) (root depth : ℕ) (frames : List Frame) : Type 0 where
  pub some : 0 < depth
  pub few : depth ≤ max_open
  pub room : length frames ≡ max_open
  pub clear : (i : ℕ) → depth ≤ i → frame_at frames i ≡ no_frame
  pub opened : (i : ℕ) → i < depth → Opened file l (frame_at frames i)
  pub outermost : (frame_at frames 0).object ≡ root
  pub handed : (i : ℕ) → suc i < depth → 0 < (frame_at frames i).position
  pub named : (i : ℕ) → suc i < depth → due_of file l (before (frame_at frames i)) ≡ Member (frame_at frames (suc i)).object
  pub distinct : (i j : ℕ) → i < j → j < depth → (frame_at frames i).object ≡ (frame_at frames j).object → ⊥

-- A reader with an open container: what it keeps of the file is what the trailer says, and the table ends at or before T
pub record Open (file : List ℕ) (r : Reader) : Type 0 where
  pub old : r.fresh ≡ false
  pub sized : r.length ≡ length file
  pub short : length file ≤ max_length
  pub layout : Layout
  pub root : ℕ
  pub says : trailer_of file ≡ lays layout root
  pub laid : Laid file layout
  pub offsets : r.offsets ≡ bytes_in layout.offsets
  pub refs : r.refs ≡ bytes_in layout.refs
  pub count : r.count ≡ layout.count
  pub table : r.table ≡ layout.table
  pub stack : Stack file layout root r.depth r.frames

-- a reader after any number of calls: as it was at first, ended, or with an open container
pub data Reached (file : List ℕ) (r : Reader) : Type 0 where
  fresh : r ≡ fresh_reader → Reached file r
  over : r ≡ ended_reader → Reached file r
  within : Open file r → Reached file r
