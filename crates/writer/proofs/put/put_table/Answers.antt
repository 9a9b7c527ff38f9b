-- Word by word.
use Rattle.std.proofs.Common.{◌≡◌, ◌+◌, ◌-◌, ◌*◌, length, slice_range, ◌∙◌, arith}
use Rattle.std.proofs.lemmas.List.Edits.{length-between}
use Rattle.writer.proofs.Numbers.{rest_start, list_fits, list_turn, list_done}
use Rattle.writer.proofs.put.put_table.Goals as goal

pub loop-place-init : goal.loop-place-init
loop-place-init c =
    let a = c.args in
    rest_start a.out.now a.table a.size (slice_range a.work.now (a.events.n * 5) (a.events.n * 5 + a.count))

pub put_at-pos-requires : goal.put_at-pos-requires
put_at-pos-requires c =
    let a = c.args in
    let l = c.loop-place in
    let xs = slice_range a.work.now (a.events.n * 5) (a.events.n * 5 + a.count) in
    let long : length xs ≡ a.count = length-between a.work.now (a.events.n * 5) (a.events.n * 5 + a.count) c.requires.0 ∙ omega arith in
    list_fits a.out.now a.table a.size xs l.out l.place-index l.pos l.invariant c.loop-place-test.true (rw long c.requires.1)

pub loop-place-preserved : goal.loop-place-preserved
loop-place-preserved c =
    let a = c.args in
    let l = c.loop-place in
    let p = c.put_at-pos.ensures in
    let xs = slice_range a.work.now (a.events.n * 5) (a.events.n * 5 + a.count) in
    rw (p.0, p.1, c.from.ensures) (list_turn a.out.now a.table a.size xs l.out l.place-index l.pos l.invariant c.loop-place-test.true)

pub shape_of-out : goal.shape_of-out
shape_of-out c = c.loop-place.invariant.long

pub returns : goal.returns
returns c =
    let a = c.args in
    let l = c.loop-place in
    let k : a.events.n * 5 + a.count - a.events.n * 5 ≡ a.count = omega arith in
    rw k at (list_done a.out.now a.table a.size (slice_range a.work.now (a.events.n * 5) (a.events.n * 5 + a.count)) l.out l.place-index l.pos l.invariant c.loop-place-test.false)
