-- A scalar that has a place stays where it is; any other goes to the next.
use Rattle.std.proofs.Common.{arith}
use Rattle.writer.proofs.Once.{once_in, once_long, once_small, once_rep, once_number, once_place, once_seen, once_first, once_new}
use Rattle.writer.proofs.put.put_once.Goals as goal

pub word-r-requires : goal.word-r-requires
word-r-requires c = omega (arith, once_in c.requires.2, once_long c.requires.2)

pub number_of-number-requires : goal.number_of-number-requires
number_of-number-requires c =
    let o = c.requires.2 in
    let r = c.word-r.ensures.0 in
    (once_long o, once_rep o r, once_number o r)

pub word-requires : goal.word-requires
word-requires c = once_place c.requires.2 c.word-r.ensures.0 c.number_of-number.ensures

pub returns-then-word-gt0 : goal.returns-then-word-gt0
returns-then-word-gt0 c kept s o =
    once_seen o c.word-r.ensures.0 c.number_of-number.ensures (rw c.word.ensures.0 at c.if-word-gt0.true)

pub set_word-requires : goal.set_word-requires
set_word-requires c =
    let o = c.requires.2 in
    (once_place o c.word-r.ensures.0 c.number_of-number.ensures, once_small o)

pub put_first-requires : goal.put_first-requires
put_first-requires c =
    let p = c.requires in
    (p.1, once_first p.2 c.word-r.ensures.0 c.number_of-number.ensures (rw c.word.ensures.0 at c.if-word-gt0.false) c.set_word.ensures)

pub returns : goal.returns
returns c kept s o =
    let r = c.word-r.ensures.0 in
    let p = c.number_of-number.ensures in
    let h = rw c.word.ensures.0 at c.if-word-gt0.false in
    let v = c.set_word.ensures in
    once_new o r p h v (c.put_first.ensures s (once_first o r p h v))
