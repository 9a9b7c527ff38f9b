-- `read_object` and `read_elements`, which call each other: how many containers may still be opened, and the elements one more than their objects. Each call of
-- `read_elements` opens one container more, so they come to an end.
use Prim.Native.Nat.{◌+◌, ◌-◌, ◌*◌, ◌≤◌}
use mathlib.Core.Path.{◌≡◌}
use lib.ListN.{length, take}
use Rattle.event.specs.Format.{max_open}
use Rattle.layout.specs.References.{references_of}
use Rattle.plainly.specs.Elements.{elements_from, elements_say}
use Rattle.plainly.specs.Plain.{say_onto}
use Rattle.plainly.proofs.+read_elements_read_object.Given as goal

abbrev pub decreases-read_elements : goal.decreases-read_elements
decreases-read_elements l = 2 * (max_open - l.depth) + 1

abbrev pub decreases-read_object : goal.decreases-read_object
decreases-read_object l = 2 * (max_open - l.depth)

-- the elements from a position on, put from how far it has come, are all of them put from the start
abbrev pub invariant-read_elements-loop-tape : goal.invariant-read_elements-loop-tape
invariant-read_elements-loop-tape l =
    let opened = take l.depth l.fn.opened in
    let from = l.initial.far in
    (l.position ≤ length (references_of l.file l.layout l.frame.object)) × (take l.depth l.opened ≡ opened)
    × (say_onto l.far.left l.far.held l.tape (elements_from l.file l.layout (max_open - l.depth) opened l.frame.object l.frame.offset l.far.place l.position)
    ≡ say_onto from.left from.held l.initial.tape (elements_say l.file l.layout (max_open - l.depth) opened l.frame.object l.frame.offset from.place))

abbrev pub decreases-read_elements-loop-tape : goal.decreases-read_elements-loop-tape
decreases-read_elements-loop-tape l = length (references_of l.file l.layout l.frame.object) - l.position
