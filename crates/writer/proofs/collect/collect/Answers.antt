-- The events before e are collected, and event e begins at `at`.
use Rattle.std.proofs.Common.{◌≡◌, sym, add-one, arith}
use Rattle.writer.specs.CollectLaws.{collected_start}
use Rattle.writer.specs.ReadyLaws.{start_zero}
use Rattle.writer.proofs.collect.collect.Goals as goal

pub loop-e-init : goal.loop-e-init
loop-e-init c =
    let f = collected_start c.args.events.tape.now c.args.work.now c.args.events.n c.requires in
    (sym (start_zero c.args.events.ready), rw c.clear.ensures f.0, rw c.clear.ensures f.1)

pub collect_event-at-requires : goal.collect_event-at-requires
collect_event-at-requires c =
    let i = c.loop-e.invariant in
    (c.loop-e-test.true, i.0, i.1, i.2)

pub loop-e-preserved : goal.loop-e-preserved
loop-e-preserved c =
    let f = c.collect_event-at.ensures in
    (rw add-one f.0, rw add-one f.1, rw add-one f.2)

pub returns : goal.returns
returns c =
    let l = c.loop-e in
    let e : l.e ≡ c.args.events.n = omega arith in
    rw e at l.invariant.1
