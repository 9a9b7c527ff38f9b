-- How a frame is made, and how it moves.
use Rattle.std.specs.Prelude.{ℕ, ◌+◌}
use Rattle.layout.specs.declared.frame.Frame.{Frame}

-- a container as it is entered: no reference of it was handed out yet
abbrev pub new_frame : ℕ → ℕ → ℕ → Frame
new_frame object length offset = record { object = object; position = 0; length = length; offset = offset }

-- a cleared one
abbrev pub no_frame : Frame
no_frame = new_frame 0 0 0

-- the same container at another position
abbrev pub at_position : Frame → ℕ → Frame
at_position f position = record { object = f.object; position = position; length = f.length; offset = f.offset }

-- one reference more was handed out
unfoldable pub next_in : Frame → Frame
next_in f = at_position f (f.position + 1)
