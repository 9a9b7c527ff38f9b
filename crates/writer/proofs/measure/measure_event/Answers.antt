-- NEXT tells what an event is.
use Rattle.std.proofs.Common.{◌≡◌, sym, ◌∙◌, rules}
use Rattle.writer.specs.MeasuredLaws.{alone_scalar, alone_start, end_measured}
use Rattle.writer.proofs.measure.measure_event.Goals as goal

pub measure_scalar-requires : goal.measure_scalar-requires
measure_scalar-requires c =
    let o = c.args.events.ready in
    let (h, m) = c.requires in
    (h, m, alone_scalar o h m (sym c.word-next.ensures.0 ∙ c.if-next-e.true))

pub measure_container-requires : goal.measure_container-requires
measure_container-requires c =
    let o = c.args.events.ready in
    let (h, m) = c.requires in
    (h, m, alone_start o h m (sym c.word-next.ensures.0 ∙ c.if-next-e-2.true))

pub returns : goal.returns
returns c =
    let o = c.args.events.ready in
    let (h, m) = c.requires in
    let w = c.word-next.ensures.0 in
    let both = end_measured o h m (λ z. c.if-next-e.false (w ∙ z)) (λ z. c.if-next-e-2.false (w ∙ z)) in
    let none : (c.default.result.bytes ≡ 0) × (c.default.result.members ≡ 0) = let d = c.default.ensures in search rules in
    rw (none.0, none.1) (record { measured = both.0; weighs = both.1 })
