-- The events that the writer accepts, and the layout of their file.
use Rattle.std.specs.Prelude.{true, List, map, ◌≡◌, ◌≤◌, length}
use Rattle.event.specs.Format.{max_open, max_length}
use Rattle.event.specs.Meaning.{Meaning}
use Rattle.layout.specs.declared.layout.Layout.{Layout}
use Rattle.tape.proofs.EventsLaws.{AllOnTape}
use Rattle.written.specs.File.{file_for}
use Rattle.written.specs.Graph.{piece_of}
use Rattle.written.specs.Shape.{whole}
use Rattle.written_claims.specs.Laid.{layout_of}
use Rattle.written_claims.specs.Writable.{Sound, scalars_writable}

-- a tape can have them, they are one value, and their file is not too long
pub record Accepted (ms : List Meaning) : Type 0 where
  pub held : AllOnTape ms
  pub one : whole max_open (map piece_of ms) ≡ true
  pub short : length (file_for ms) ≤ max_length

abbrev pub layout_for : List Meaning → Layout
layout_for ms = layout_of (map piece_of ms)

pub sound : (ms : List Meaning) → Accepted ms → Sound (map piece_of ms)
unfolding file_for
sound ms a = record { one = a.one; short = a.short; scalars = scalars_writable ms a.held }
