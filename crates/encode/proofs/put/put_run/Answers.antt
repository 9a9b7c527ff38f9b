-- `put_run` puts the bytes behind their head, where they lie within the tape.
use Rattle.tape.proofs.Tests.{lacks, has}
use Rattle.encode.specs.Put.{base_of, run_in, headed}
use Rattle.encode.proofs.Putting.{nothing, renamed}
use Rattle.encode.proofs.Runs.{run_past, run_part}
use Rattle.encode.proofs.put.put_run.Goals as goal

pub returns-in_default : goal.returns-in_default
unfolding run_in
returns-in_default c = rw c.in_default.is (nothing _)

pub returns-then-lacks_room : goal.returns-then-lacks_room
returns-then-lacks_room c =
    let a = c.args in
    rw c.in-Some.is (renamed _ (run_past a.tape.now c.in-Some.start (headed (base_of a.base)) c.in-Some.n (lacks _ _ _ c.lacks_room.ensures c.if-lacks_room.true)) (nothing _))

pub returns : goal.returns
returns c =
    let a = c.args in
    rw c.in-Some.is (renamed _ (run_part a.tape.now c.in-Some.start (headed (base_of a.base)) c.in-Some.n (has _ _ _ c.lacks_room.ensures c.if-lacks_room.false)) c.put_headed.ensures)
