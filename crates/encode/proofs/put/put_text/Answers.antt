-- `put_text`: with no units it is ASCII, else UTF-16.
use borrow.Author.Tests.{eq-eqb, ne_eqb}
use Rattle.tape.proofs.Tests.{lacks, has}
use Rattle.encode.specs.Put.{base_of, run_in, in_utf16, text_in}
use Rattle.encode.proofs.Putting.{nothing, renamed}
use Rattle.encode.proofs.Runs.{run_past, run_part}
use Rattle.encode.proofs.put.put_text.Goals as goal

pub returns-then-units-eq0 : goal.returns-then-units-eq0
unfolding text_in base_of
returns-then-units-eq0 c =
    let a = c.args in
    rw (eq-eqb a.units 0 c.if-units-eq0.true) c.put_run.ensures

pub returns-in_default : goal.returns-in_default
unfolding text_in run_in
returns-in_default c =
    let a = c.args in
    rw (ne_eqb a.units 0 c.if-units-eq0.false, c.in_default.is) (nothing _)

pub returns-then-lacks_room : goal.returns-then-lacks_room
unfolding text_in
returns-then-lacks_room c =
    let a = c.args in
    rw (ne_eqb a.units 0 c.if-units-eq0.false, c.in-Some.is) (renamed _ (run_past a.tape.now c.in-Some.start (in_utf16 a.units) c.in-Some.n (lacks _ _ _ c.lacks_room.ensures c.if-lacks_room.true)) (nothing _))

pub returns : goal.returns
unfolding text_in
returns c =
    let a = c.args in
    rw (ne_eqb a.units 0 c.if-units-eq0.false, c.in-Some.is) (renamed _ (run_part a.tape.now c.in-Some.start (in_utf16 a.units) c.in-Some.n (has _ _ _ c.lacks_room.ensures c.if-lacks_room.false)) c.put_utf16.ensures)
