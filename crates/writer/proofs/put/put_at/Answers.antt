-- The number stands at its place.
use Rattle.std.proofs.Common.{◌+◌, ◌≤◌, length, arith}
use Rattle.number.specs.Be.{bytes_of}
use Rattle.number.specs.BeLaws.{length_bytes_of}
use Rattle.writer.proofs.Lent.{lent_put, put_all, lent}
use Rattle.writer.proofs.put.put_at.Goals as goal

pub behind-requires : goal.behind-requires
behind-requires c =
    let a = c.args in
    let room : a.pos + length (bytes_of a.size a.n) ≤ length a.out.now = omega (arith, length_bytes_of a.size a.n) in
    put_all (lent_put _ _ _ room c.put_number.ensures) (omega arith)

pub returns : goal.returns
returns c =
    let a = c.args in
    let room : a.pos + length (bytes_of a.size a.n) ≤ length a.out.now = omega (arith, length_bytes_of a.size a.n) in
    let w = lent (lent_put _ _ _ room c.put_number.ensures) c.behind.ensures in
    (omega (arith, w.ends, length_bytes_of a.size a.n), w.memory)
