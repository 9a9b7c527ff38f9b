-- Event by event.
use Rattle.std.proofs.Common.{sym, ◌∙◌}
use Rattle.writer.proofs.Events.{passed_none, passed_length, passed_told, passed_more, passed_all}
use Rattle.writer.proofs.put.put_objects.Goals as goal

pub loop-e-init : goal.loop-e-init
loop-e-init c =
    rw c.clear.ensures (passed_none c.requires)

pub put_event-pos-requires : goal.put_event-pos-requires
put_event-pos-requires c =
    passed_told c.loop-e.invariant c.requires c.loop-e-test.true

pub loop-e-preserved : goal.loop-e-preserved
loop-e-preserved c =
    passed_more c.loop-e.invariant c.loop-e-test.true c.put_event-pos.ensures

pub shape_of-work : goal.shape_of-work
shape_of-work c =
    let p = c.requires in
    c.loop-e.invariant.grown.stand.indexed.long ∙ sym p.indexed.long

pub shape_of-out : goal.shape_of-out
shape_of-out c =
    passed_length c.loop-e.invariant

pub returns : goal.returns
returns c =
    passed_all c.loop-e.invariant c.loop-e-test.false
