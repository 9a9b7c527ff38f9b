-- The root's number, then event by event.
use Rattle.std.proofs.Common.{◌≡◌, length, sym, ap, ◌∙◌, add-zero, add-one, arith}
use Rattle.writer.specs.AssignLaws.{some_events, root_done}
use Rattle.writer.specs.ClearLaws.{length_cleared}
use Rattle.writer.proofs.assign.assign.Goals as goal

pub mark-k-requires : goal.mark-k-requires
mark-k-requires c =
    let l = ap length c.clear.ensures ∙ length_cleared _ _ _ in
    (omega (arith, l, c.requires.long, some_events c.args.events.ready), omega arith)

pub loop-e-init : goal.loop-e-init
loop-e-init c =
    let r = root_done c.args.events.ready _ c.requires _ _ _ c.clear.ensures (rw add-zero at c.mark-k.ensures.0) (rw add-zero at c.mark-k.ensures.1) in
    r

pub assign_event-k-requires : goal.assign_event-k-requires
assign_event-k-requires c =
    let i = c.loop-e.invariant in
    (c.loop-e-test.true, i.0, i.1)

pub loop-e-preserved : goal.loop-e-preserved
loop-e-preserved c =
    let r = c.assign_event-k.ensures in
    rw add-one r

pub shape_of-work : goal.shape_of-work
shape_of-work c = c.loop-e.invariant.0.long ∙ sym c.requires.long

pub returns : goal.returns
returns c =
    let l = c.loop-e in
    let e : l.e ≡ c.args.events.n = omega arith in
    (l.invariant.0, rw e at l.invariant.1)
