-- Four numbers of eight bytes are the trailer.
use Rattle.std.proofs.Common.{sym, ◌∙◌, arith}
use Rattle.writer.specs.PutLaws.{trailer_parts}
use Rattle.writer.proofs.put.put_trailer.Goals as goal

pub returns : goal.returns
returns c =
    let d = c.put_at-4.ensures.1 in
    let e = c.put_at-3.ensures.1 in
    let f = c.put_at-2.ensures.1 in
    let a = c.args in
    d ∙ rw (e, f, c.put_at.ensures.1) (sym (trailer_parts a.out.now a.pos a.size a.plan.width a.plan.count a.plan.table (omega arith) (omega arith)))
