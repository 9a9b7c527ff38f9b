-- `plan_file`: each pass leaves what the next one asks for, and the sums make the plan.
use Rattle.std.proofs.Common.{arith}
use Rattle.writer.specs.MeasureLaws.{weight_le, members_le}
use Rattle.writer.specs.NumberedLaws.{numbered_count}
use Rattle.writer.specs.PlanLaws.{count_within, planned_is}
use Rattle.writer.specs.ReadyLaws.{ready_few}
use Rattle.writer.proofs.plan.plan_file.Goals as goal

pub planned-requires : goal.planned-requires
planned-requires c =
    let o = c.args.events.ready in
    let m = c.measure-sums.ensures.bytes_value in
    let k = numbered_count o _ c.assign-count.result c.assign-count.ensures.1 in
    let n = count_within c.args.events.tape.now c.args.events.n o in
    let few = ready_few o in (
      omega (arith, k, n.0),
      omega (arith, k, n.1),
      omega (arith, m.0, weight_le o 0 (omega arith), few, o.short),
      omega (arith, m.1, members_le o 0, few, o.short),
    )

pub returns : goal.returns
returns c =
    let m = c.measure-sums.ensures.bytes_value in
    let s = c.assign-count.ensures in
    let p = c.planned.ensures in
    planned_is c.args.events.tape.now c.args.events.n c.args.events.ready _ _ _ _ c.planned.result s.0 s.1 m.0 m.1 p.0 p.1 p.2 p.3
