-- `read_root` reads the root object with nothing open, and closes with how far that came.
use Rattle.plainly.specs.Said.{ending_said}
use Rattle.plainly.proofs.Roots.{root_on, root_over}
use Rattle.plainly.proofs.read_root.Goals as goal

pub returns-in-Ok : goal.returns-in-Ok
unfolding ending_said
returns-in-Ok c = let r = c.read_object in root_on r.result r.new.tape _ c.read_object.ensures.tape_after _ c.in-Ok.is

pub returns-in-Err : goal.returns-in-Err
returns-in-Err c = let r = c.read_object in root_over r.result r.new.tape _ c.read_object.ensures.tape_after _ c.in-Err.is
