-- The walk passes all members up to the end; then the event behind it and their number are set.
use Rattle.std.proofs.Common.{◌≡◌, ℕ, suc, ◌+◌, ◌<◌, List, sym, ◌∙◌, add-one, arith, rules}
use Rattle.writer.specs.Columns.{Measured}
use Rattle.writer.specs.Measure.{Passed}
use Rattle.writer.specs.MeasuredLaws.{start_columns, start_weighs, passed_none, passed_lt, passed_few, passed_more, passed_all}
use Rattle.writer.specs.Ready.{Ready}
use Rattle.writer.specs.ReadyLaws.{ready_small, start_lt, start_le}
use Rattle.writer.proofs.measure.measure_container.Goals as goal

passed : {t : List ℕ} {n e i members : ℕ} → Ready t n → Passed t e i members → Passed t e i members × (i < n) × (members < n)
passed o p = (p, passed_lt o p, passed_few o p)

pub loop-events-init : goal.loop-events-init
loop-events-init c =
    let o = c.args.events.ready in
    let (h, m, (k, r, d)) = c.requires in
    passed o (rw add-one (passed_none o c.args.e k r d))

-- the walk goes on
further : (c : goal.After-word-i) →
    let l = c.loop-events in
    let a = c.args in
    (l.i < c.word-i.result) × Passed a.events.tape.now a.e c.word-i.result (l.members + 1)
further c =
    let o = c.args.events.ready in
    let (h, m, _) = c.requires in
    let w = c.word.ensures.0 in
    rw c.word-i.ensures.0 (passed_more o c.loop-events.invariant.0 m (rw w at c.loop-events-test.true))

pub loop-events-smaller : goal.loop-events-smaller
loop-events-smaller c =
    let o = c.args.events.ready in
    let (h, m, _) = c.requires in
    let g = further c in
    omega (arith, g.0, passed_lt o g.1)

pub loop-events-preserved : goal.loop-events-preserved
loop-events-preserved c = passed c.args.events.ready (further c).1

pub set_word-requires : goal.set_word-requires
set_word-requires c =
    let o = c.args.events.ready in
    (search rules, omega (arith, ready_small o))

pub set_word-requires-2 : goal.set_word-requires-2
set_word-requires-2 c =
    let o = c.args.events.ready in
    (search rules, omega (arith, ready_small o))

-- all members are passed
pub bounds-events-at : goal.bounds-events-at
bounds-events-at c =
    let o = c.args.events.ready in
    let (h, m, _) = c.requires in
    let e = c.args.e in
    let l = c.loop-events in
    let p = l.invariant.0 in
    let z : c.word.result ≡ 0 = omega arith in
    let a = passed_all o p m (sym c.word.ensures.0 ∙ z) in
    let k : Measured c.args.events.tape.now c.set_word-2.new.work c.args.events.n e = rw (c.set_word-2.ensures, c.set_word.ensures) (start_columns o h m p.kind p.behind p.here (l.i + 1) l.members a.0 a.1) in
    omega (arith, c.word-at.ensures.0, k.off e h, start_lt o e h, start_le o (suc e) h)

pub returns : goal.returns
returns c =
    let o = c.args.events.ready in
    let (h, m, _) = c.requires in
    let e = c.args.e in
    let l = c.loop-events in
    let p = l.invariant.0 in
    let z : c.word.result ≡ 0 = omega arith in
    let a = passed_all o p m (sym c.word.ensures.0 ∙ z) in
    let k : Measured c.args.events.tape.now c.set_word-2.new.work c.args.events.n e = rw (c.set_word-2.ensures, c.set_word.ensures) (start_columns o h m p.kind p.behind p.here (l.i + 1) l.members a.0 a.1) in
    let stands = c.word-at.ensures.0 ∙ k.off e h in
    let length_is = rw stands at c.length_of.ensures in
    record { measured = k; weighs = rw c.head_size.ensures (start_weighs o e p.kind p.behind p.here l.members c.length_of.result a.1 length_is) }
