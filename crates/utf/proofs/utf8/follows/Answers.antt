-- `follows`: the byte at a place, where there is one, is tested against its range.
use Rattle.std.proofs.Common.{drop_of_length-le}
use borrow.Author.Tests.{lt-leb, le-leb}
use Rattle.utf.specs.Left.{left_at}
use Rattle.utf.specs.Unicode.{within}
use Rattle.utf.specs.Utf8Walk.{next_in}
use Rattle.utf.proofs.utf8.follows.Goals as goal

pub returns-then-s-i : goal.returns-then-s-i
unfolding next_in
returns-then-s-i c = rw (drop_of_length-le c.args.s.now c.if-s-i.true)

pub returns-then-range-s : goal.returns-then-range-s
unfolding next_in within
returns-then-range-s c = let a = c.args in rw (left_at a.s.now a.i c.if-s-i.false, le-leb _ _ c.if-range-s.true)

pub returns-else-range-s : goal.returns-else-range-s
unfolding next_in within
returns-else-range-s c = let a = c.args in rw (left_at a.s.now a.i c.if-s-i.false, lt-leb _ _ c.if-range-s.false)
