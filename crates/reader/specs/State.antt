-- The reader's state, and the changes that a step makes to it.
use Rattle.std.specs.Prelude.{Bool, true, false, cond, ◌||◌, List, [], ◌∷◌, ℕ, ◌+◌, ◌-◌, eqb, replicate, set, get_or, take}
use Rattle.event.specs.Format as limits
use Rattle.layout.specs.Frame.{new_frame, no_frame, next_in}
use Rattle.layout.specs.declared.frame.Frame.{Frame}
use Rattle.reader.specs.declared.state.Reader.{Reader}

-- as the writer has them
abbrev pub max_open : ℕ
max_open = limits.max_open

abbrev pub max_length : ℕ
max_length = limits.max_length

-- a fresh reader, and one that has ended
abbrev pub fresh_reader : Reader
fresh_reader = record { fresh = true; length = 0; offsets = 0; refs = 0; count = 0; table = 0; place = 0; depth = 0; frames = replicate max_open no_frame }

abbrev pub ended_reader : Reader
ended_reader = record { fresh = false; length = 0; offsets = 0; refs = 0; count = 0; table = 0; place = 0; depth = 0; frames = replicate max_open no_frame }

-- the state with other open containers and another place
abbrev pub moved : Reader → ℕ → ℕ → List Frame → Reader
moved r place depth frames = record { fresh = r.fresh; length = r.length; offsets = r.offsets; refs = r.refs; count = r.count; table = r.table; place = place; depth = depth; frames = frames }

-- the open containers, outermost first, and the innermost of them
unfoldable pub open_of : Reader → List Frame
open_of r = take r.depth r.frames

unfoldable pub innermost : Reader → Frame
innermost r = get_or r.frames (r.depth - 1) no_frame

-- whether an object is among the open containers
unfoldable pub member_of : List Frame → ℕ → Bool
member_of [] n = false
member_of (f ∷ fs) n = eqb f.object n || member_of fs n

-- the innermost container has handed out one reference more
unfoldable pub advanced : Reader → List Frame
advanced r = cond (eqb r.depth 0) r.frames (set r.frames (r.depth - 1) (next_in (innermost r)))

-- a scalar was read at a place: the innermost container goes on; a root that is a scalar ends
unfoldable pub passed : Reader → ℕ → Reader
passed r place = cond (eqb r.depth 0) ended_reader (moved r place r.depth (advanced r))

-- a container was read at a place: it is the innermost now
unfoldable pub entered : Reader → ℕ → ℕ → ℕ → Reader
entered r object length place = moved r place (r.depth + 1) (set (advanced r) r.depth (new_frame object length place))

-- the innermost container is closed and its frame cleared; with the last one the reader has ended
unfoldable pub closed : Reader → Reader
closed r = cond (eqb r.depth 1) ended_reader (moved r r.place (r.depth - 1) (set r.frames (r.depth - 1) no_frame))
