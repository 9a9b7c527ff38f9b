-- `event_of`: one event for each kind.
use borrow.Author.Tests.{ne_eqb}
use Rattle.tape.specs.Kinds.{event_of}
use Rattle.tape.proofs.step.event_of.Goals as goal

pub returns-in-3 : goal.returns-in-3
unfolding event_of
returns-in-3 c = rw c.in-3.is

pub returns-in-5 : goal.returns-in-5
unfolding event_of
returns-in-5 c = rw c.in-5.is c.real_of.ensures

pub returns-in-7 : goal.returns-in-7
unfolding event_of
returns-in-7 c = rw c.in-7.is

pub returns-in-11 : goal.returns-in-11
unfolding event_of
returns-in-11 c = rw c.in-11.is

pub returns-in_default : goal.returns-in_default
unfolding event_of
returns-in_default c =
    let k = c.args.kind in
    let r = c.in_default.in_default-own.rest in
    simp (ne_eqb k 0x03 r.0.0.0.1, ne_eqb k 0x05 r.0.0.1, ne_eqb k 0x07 r.0.1, ne_eqb k 0x0B r.1)
