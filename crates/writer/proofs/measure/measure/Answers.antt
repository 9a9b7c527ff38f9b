-- The sums grow from the last event back; they are far below what a word holds.
use Rattle.std.proofs.Common.{◌≡◌, ◌-◌, sym, ◌∙◌, arith}
use Rattle.writer.specs.Measure.{Summed}
use Rattle.writer.specs.MeasureLaws.{weight_le, members_le, summed_none, summed_more, summed_back}
use Rattle.writer.specs.ReadyLaws.{ready_small}
use Rattle.writer.proofs.measure.measure.Goals as goal

pub loop-e-init : goal.loop-e-init
loop-e-init c = summed_none c.args.events.ready c.args.work.now c.requires

pub measure_event-sums-requires : goal.measure_event-sums-requires
measure_event-sums-requires c =
    let s = summed_back c.loop-e.invariant c.loop-e-test.true in
    (s.upto, s.columns)

-- an event more is summed up
pub overflow_add-bytes : goal.overflow_add-bytes
overflow_add-bytes c =
    let o = c.args.events.ready in
    let k = c.measure_event-sums.ensures in
    let s = summed_more o (summed_back c.loop-e.invariant c.loop-e-test.true) k.measured k.weighs in
    omega (arith, s.weight, weight_le o (c.loop-e.e - 1) s.upto, o.short, ready_small o)

pub overflow_add-members : goal.overflow_add-members
overflow_add-members c =
    let o = c.args.events.ready in
    let k = c.measure_event-sums.ensures in
    let s = summed_more o (summed_back c.loop-e.invariant c.loop-e-test.true) k.measured k.weighs in
    omega (arith, s.count, members_le o (c.loop-e.e - 1), ready_small o)

pub loop-e-preserved : goal.loop-e-preserved
loop-e-preserved c =
    let k = c.measure_event-sums.ensures in
    summed_more c.args.events.ready (summed_back c.loop-e.invariant c.loop-e-test.true) k.measured k.weighs

pub shape_of-work : goal.shape_of-work
shape_of-work c = c.loop-e.invariant.columns.long ∙ sym c.requires.long

pub returns : goal.returns
returns c =
    let l = c.loop-e in
    let a = c.args in
    let z : l.e ≡ 0 = omega arith in
    let s : Summed a.events.tape.now l.work a.events.n 0 l.bytes l.members = rw z at l.invariant in
    (record { indexed = s.columns; bytes_value = (s.weight, s.count) })
